use Rattle.std.proofs.Common.{◌≡◌, ◌-◌, ◌≤◌, length, drop, ap, ◌∙◌, take_all, arith}
use Rattle.std.proofs.lemmas.List.{length-drop}
use Rattle.chain_store.proofs.MarkLaws.{drop-min}
use Rattle.chain_store.proofs.store.Store.changed_since.Goals as goal

pub returns : goal.returns
returns c =
    let changes = c.as_slice-changes.result.now in
    let place = c.min.result in
    let left = length-drop place changes in
    let whole : length (drop place changes) ≤ length changes - place = omega (arith, left) in
    take_all (length changes - place) (drop place changes) whole
    ∙ ap (λ n. drop n changes) c.min.ensures
    ∙ drop-min c.args.generation changes
    ∙ ap (drop c.args.generation) (c.as_slice-changes.ensures.value ∙ ap (λ view. view.changes) c.self.view_is)
