use Rattle.clvm_spec.proofs.RemainderLaws.{remainder_is_left, rest_above_zero, rest_below_zero}
use Rattle.clvm_spec.proofs.arithmetic_laws.quotients_are_rounded_down.Goals as goal

pub returns-clause-whole : goal.returns-clause-whole
returns-clause-whole c = remainder_is_left

pub returns-clause-above : goal.returns-clause-above
returns-clause-above c = rest_above_zero

pub returns-clause-below : goal.returns-clause-below
returns-clause-below c = rest_below_zero
