use Rattle.std.proofs.Common.{◌≡◌, ◌+◌, ◌≤◌}
use Rattle.clvm_eval.specs.declared.state.Step.TheVariants as step
use Rattle.clvm_eval.specs.Steps.{IsOpen, outcome_of}
use Rattle.clvm_eval.proofs.StateLaws.{without_last}
use Rattle.clvm_eval.proofs.state.State.evaluate_operand.Given as goal

abbrev pub invariant-operands : goal.invariant-operands
invariant-operands l = record {
  opened : IsOpen l.trees l.self (without_last l.frame l.programs);
  fewer : l.programs ≤ l.frame.programs;
  room : l.self.left.pairs + l.self.left.bytes ≤ l.fn.self.left.pairs + l.fn.self.left.bytes;
  cheaper : l.self.left.cost + l.frame.programs ≤ l.fn.self.left.cost + l.programs;
  same : outcome_of l.trees l.self (step.Open (without_last l.frame l.programs)) ≡ outcome_of l.trees l.fn.self (step.Open l.frame);
}

abbrev pub decreases-operands : goal.decreases-operands
decreases-operands l = l.programs
