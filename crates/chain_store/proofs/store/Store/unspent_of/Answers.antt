use Rattle.std.proofs.Common.{ap, ◌∙◌}
use Rattle.chain_spec.specs.Chain.{ledger_of}
use Rattle.chain_spec.specs.Looks.{unspent_of}
use Rattle.chain_store.specs.Unspents.{unspent_among}
use Rattle.chain_store.proofs.store.Store.unspent_of.Goals as goal

pub returns : goal.returns
returns c =
    let puzzle_hash = c.args.puzzle_hash.now in
    let amount = c.args.amount in
    let except = c.args.except.now in
    c.unspent_of.ensures
    ∙ ap (unspent_among puzzle_hash amount except) c.self.invariant.records
    ∙ ap (λ view. unspent_of (ledger_of view.chain) puzzle_hash amount except) c.self.view_is
