use Rattle.std.proofs.Common.{◌≡◌, List, [], drop}
use Rattle.coin_facts.specs.IdLists.{repeat_by}
use Rattle.cond_spec.specs.declared.condition.Condition.{Condition}
use Rattle.cond_spec.specs.ActRules.{is_same_output}
use Rattle.spend_run.specs.Outputs.{HasOutputs}
use Rattle.spend_run.proofs.own_rules.same_output.Given as goal

abbrev pub invariant-loop-place : goal.invariant-loop-place
invariant-loop-place l =
    (earlier : List Condition) × HasOutputs l.earlier earlier × (repeat_by is_same_output earlier l.place (drop l.place l.conditions) ≡ repeat_by is_same_output [] 0 l.conditions)
