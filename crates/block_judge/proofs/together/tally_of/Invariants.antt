use Rattle.std.proofs.Common.{◌≡◌, map, take}
use Rattle.cond_rules.specs.Tallies.{IsTallyOf, number_of_spends}
use Rattle.judge_spec.specs.Facts.{acts_of}
use Rattle.block_judge.proofs.together.tally_of.Given as goal

abbrev pub invariant-loop-place : goal.invariant-loop-place
invariant-loop-place l = IsTallyOf l.tally (map acts_of (take l.place l.list)) × (number_of_spends l.tally ≡ l.place)
