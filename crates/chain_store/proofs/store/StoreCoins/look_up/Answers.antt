use Rattle.std.proofs.Common.{ap, ◌∙◌}
use Rattle.chain_spec.specs.Chain.{look_up, ledger_of}
use Rattle.chain_store.specs.RecordsView.{found_in}
use Rattle.chain_store.proofs.store.StoreCoins.look_up.Goals as goal

pub returns : goal.returns
returns c =
    c.get.ensures
    ∙ ap (λ list. found_in list c.args.id.now) c.self.invariant.records
    ∙ ap (λ view. look_up (ledger_of view.chain) c.args.id.now) c.self.view_is
