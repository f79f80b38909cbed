use Rattle.std.proofs.Common.{ap, ◌∙◌, arith}
use Rattle.std.specs.List.{sum_by}
use Rattle.std.proofs.lemmas.List.{take_all}
use Rattle.block_judge.specs.Amounts.{created_by}
use Rattle.block_judge.proofs.AmountLaws.{amounts_by_spend}
use Rattle.block_judge.proofs.sums.created_amounts.Goals as goal

pub returns : goal.returns
returns c =
    c.loop-facts.invariant.0 ∙ ap (sum_by created_by) (take_all c.loop-facts.facts-index c.args.list.now (omega (arith, c.loop-facts-test.false)))
    ∙ amounts_by_spend c.args.list.now
