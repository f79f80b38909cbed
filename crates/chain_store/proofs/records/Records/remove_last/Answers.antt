use Rattle.std.proofs.Common.{◌≤◌, ap, subst, ◌∙◌}
use Rattle.indexmap.specs.IndexMap.{spare}
use Rattle.chain_store.specs.Marks.{without_last}
use Rattle.chain_store.proofs.KeyedLaws.{empty-at-none, pop-shown}
use Rattle.chain_store.proofs.records.Records.remove_last.Goals as goal

pub invariant_of-self : goal.invariant_of-self
invariant_of-self c =
    let old = c.self.inside.by_id.entries in
    let shown = pop-shown old c.pop.new.self.entries c.pop.result c.self.invariant.entries c.pop.ensures.entries (empty-at-none old c.pop.result c.pop.ensures.found.1) in
    record { entries = shown.keyed; apart = c.pop.ensures.unique }

pub returns : goal.returns
returns c =
    let old = c.self.inside.by_id.entries in
    let shown = pop-shown old c.pop.new.self.entries c.pop.result c.self.invariant.entries c.pop.ensures.entries (empty-at-none old c.pop.result c.pop.ensures.found.1) in
    record {
      list = shown.values ∙ ap (λ view. without_last 1 view.list) c.self.view_is;
      room = subst (λ view. view.room ≤ spare c.pop.new.self) c.self.view_is c.pop.ensures.room.0;
    }
