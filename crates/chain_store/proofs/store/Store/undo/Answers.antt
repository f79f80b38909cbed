use Rattle.std.proofs.Common.{◌≡◌, ◌-◌, ◌≤◌, true, Some, length, if◌then◌else◌, None, ap, sym, ◌∙◌, length-take-le, arith}
use Rattle.std.specs.Prelude.{option_map}
use Rattle.std.specs.Option.{unwrap_or}
use Rattle.std.proofs.lemmas.Bool.{le-leb}
use Rattle.chain_spec.specs.Chain.{peak_of}
use Rattle.chain_spec.specs.StoreViews.{undone, without_last}
use Rattle.chain_store.specs.Blocks.{back_to}
use Rattle.chain_store.specs.Inside.{parts_of}
use Rattle.chain_store.proofs.store.Store.undo.Goals as goal

pub go_back-requires : goal.go_back-requires
go_back-requires c =
    let parts = parts_of c.self.inside in
    let long : length c.args.self.now.chain.blocks ≡ parts.height = ap (λ view. length view.chain.blocks) (sym c.self.view_is) ∙ length-take-le parts.height parts.blocks c.self.invariant.height in
    omega (arith, long, c.in-Some.ensures.0, c.in-Some.ensures.1)

pub returns : goal.returns
returns c =
    let parts = parts_of c.self.inside in
    let old = c.args.self.now in
    let count = c.args.blocks in
    let long : length old.chain.blocks ≡ parts.height = ap (λ view. length view.chain.blocks) (sym c.self.view_is) ∙ length-take-le parts.height parts.blocks c.self.invariant.height in
    let within : count ≤ length old.chain.blocks = omega (arith, long, c.in-Some.ensures.0) in
    let kept : length old.chain.blocks - count ≡ c.in-Some.kept = omega (arith, long, c.in-Some.ensures.1) in
    let found : undone count old ≡ Some (back_to c.in-Some.kept old) =
    ap (λ b. if b then Some (without_last count old) else None) (le-leb count (length old.chain.blocks) within) ∙ ap (λ n. Some (back_to n old)) kept in
    record {
      peak = ap Some c.peak.ensures.value ∙ ap (λ view. Some (peak_of view.chain)) c.in_ok-go_back.ensures.ok ∙ sym (ap (option_map (λ view. peak_of view.chain)) found);
      ok = c.in_ok-go_back.ensures.ok ∙ sym (ap (λ o. unwrap_or o old) found);
      err = tt;
    }
