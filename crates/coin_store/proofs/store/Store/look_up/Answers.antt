use Rattle.std.proofs.Common.{ap, ◌∙◌}
use Rattle.chain_spec.specs.Chain.{look_up, ledger_of}
use Rattle.coin_store.specs.Inside.{chain_of}
use Rattle.coin_store.proofs.EntryLaws.{lookup-held}
use Rattle.coin_store.proofs.store.Store.look_up.Goals as goal

-- The map finds what the chain has.
pub returns : goal.returns
returns c =
    let id = c.args.id.now in
    c.get.ensures.value ∙ lookup-held _ (chain_of c.self.inside) c.self.invariant.entries id ∙ ap (λ chain. look_up (ledger_of chain) id) c.self.view_is
