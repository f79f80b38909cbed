-- What the body of an operator answers on nodes: what the operator gives of their trees within what is left of the fuel.
-- This project's own.
use Rattle.std.specs.Prelude.{◌≡◌, ℕ, ◌+◌, ◌^◌, ◌<◌, ◌≤◌, Result, Ok, Err, List, length}
use Rattle.clvm_spec.specs.declared.fuel.Fuel.{Fuel}
use Rattle.clvm_spec.specs.Spending.{Suffices}
use Rattle.clvm_spec.specs.Tree.{Tree}
use Rattle.clvm_spec.specs.Outcomes.{Applied}
use Rattle.clvm_spec.specs.OperatorTable.{within}
use Rattle.clvm_tree.specs.Nodes.{AreKnown, Grows}
use Rattle.clvm_tree.specs.Operators.{trees_at, IsAnswer, IsOpFault, KeepsNodes}
use Rattle.clvm_tree.specs.declared.operators.Answer.{Answer}
use Rattle.clvm_tree.specs.declared.operators.OpFault.{OpFault}
use Rattle.clvm_ops.specs.declared.application.Application.{Application}
use Rattle.clvm_ops.specs.declared.give.Charge.{Charge}

-- The new nodes of an answer are among the pairs and bytes that it is charged.
pub record IsGiven (old new : List Tree) (left : Fuel) (applied : Applied) (answer : Answer) : Type 0 where
  pub grows : Grows old new
  pub few : length new ≤ length old + answer.pairs + answer.bytes
  pub is : IsAnswer new (within left applied) answer

-- After a fault there may be as many as what is left allows, and one for each operand.
pub record IsRefused (old new : List Tree) (operands : ℕ) (left : Fuel) (applied : Applied) (fault : OpFault) : Type 0 where
  pub grows : Grows old new
  pub few : length new ≤ length old + operands + left.pairs + left.bytes
  pub keeps : KeepsNodes old new operands fault
  pub is : IsOpFault new (within left applied) fault

abbrev pub Answers : (old new : List Tree) (operands : ℕ) (left : Fuel) → Applied → Result Answer OpFault → Type 0
Answers old new operands left applied (Ok answer) = IsGiven old new left applied answer
Answers old new operands left applied (Err fault) = IsRefused old new operands left applied fault

-- The operands are nodes of the arena, which has room for all that an answer or a fault may add.
pub record CanApply (trees : List Tree) (it : Application) : Type 0 where
  pub known : AreKnown trees it.operands.now
  pub fits : length trees + length it.operands.now + it.left.pairs + it.left.bytes < 2 ^ 31

-- what is answered where this is what the operator gives
abbrev pub Yields : (old new : List Tree) → Application → Applied → Result Answer OpFault → Type 0
Yields old new it applied result = Answers old new (length it.operands.now) it.left applied result

-- what is answered where this is the operator's equation
abbrev pub Applies : (ℕ → List Tree → Applied) → (old new : List Tree) → Application → Result Answer OpFault → Type 0
Applies equation old new it result = Yields old new it (equation it.cost (trees_at old it.operands.now)) result

-- What is left suffices for the charge.
pub record IsCharged (left : Fuel) (cost pairs bytes : ℕ) (charge : Charge) : Type 0 where
  pub cost_is : charge.cost ≡ cost
  pub pairs_is : charge.pairs ≡ pairs
  pub bytes_is : charge.bytes ≡ bytes
  pub enough : Suffices left (record { cost = cost; pairs = pairs; bytes = bytes })
