use Rattle.std.proofs.Common.{◌||◌, not, ◌∙◌}
use Rattle.std.specs.Prelude.{position}
use Rattle.chain_spec.specs.Chain.{is_in_chain, ledger_of}
use Rattle.pool_core.proofs.ids.first_unknown.Goals as goal

-- The set has just the created ids.
pub returns-clause-value : goal.returns-clause-value
returns-clause-value c =
    c.first_outside.ensures.value ∙ (λ i. position (λ id. not (is_in_chain (ledger_of c.args.store.now) id || c.in_ok-created.ensures id i)) c.args.ids.now)
