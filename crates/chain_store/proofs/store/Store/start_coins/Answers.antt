use Rattle.std.proofs.Common.{ap, subst, ◌∙◌}
use Rattle.chain_spec.specs.Soundness.{HasDistinctIds}
use Rattle.chain_store.proofs.store.Store.start_coins.Goals as goal

pub returns : goal.returns
returns c = record {
  value = c.as_slice.ensures.value ∙ ap (λ view. view.chain.coins) c.self.view_is;
  distinct = subst (λ view. HasDistinctIds view.chain.coins) c.self.view_is c.self.invariant.sound.0;
}
