use Rattle.std.proofs.Common.{ap, sym, ◌∙◌}
use Rattle.chain_spec.specs.Chain.{ledger_of}
use Rattle.chain_store.specs.Inside.{chain_to, parts_of}
use Rattle.chain_store.proofs.OrderLaws.{genesis-stays}
use Rattle.chain_store.proofs.store.StoreCoins.genesis.Goals as goal

pub returns : goal.returns
returns c =
    let parts = parts_of c.self.inside in
    sym (genesis-stays (chain_to parts parts.height)) ∙ ap (λ view. (ledger_of view.chain).genesis) c.self.view_is
