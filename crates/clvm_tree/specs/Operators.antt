-- What a table of operators answers on nodes: by the definition of the operators, on the trees that the nodes stand for.
-- Source: this project's own.
use Rattle.std.specs.Prelude.{◌≡◌, ℕ, ◌+◌, ◌≤◌, List, length, map, None}
use Rattle.clvm_spec.specs.declared.fuel.Fuel.{Fuel}
use Rattle.clvm_spec.specs.Tree.{Tree, Atom, Pair}
use Rattle.clvm_spec.specs.Outcomes.{WrongCount, WrongOperand, ZeroDivisor, WrongShift, NoOperator, Gives, Fails, TooWide, WithinFuel, Enough, Lacks}
use Rattle.clvm_spec.specs.Outcomes as outcomes
use Rattle.clvm_spec.specs.OperatorTable.{applied_by, within, operator_outcome}
use Rattle.clvm_spec.specs.Spending.{Spending, Suffices}
use Rattle.clvm_tree.specs.Nodes.{tree_at, IsKnown}
use Rattle.clvm_tree.specs.declared.Node.{Node}
use Rattle.clvm_tree.specs.declared.operators.Answer.{Answer}
use Rattle.clvm_tree.specs.declared.operators.OpFault.{OpFault}
use Rattle.clvm_tree.specs.declared.operators.OpFault.TheVariants as fault

abbrev pub trees_at : List Tree → List Node → List Tree
trees_at trees nodes = map (λ node. tree_at trees node.0) nodes

-- The operator whose code is this tree, within what is left. A pair is no operator's code.
abbrev pub outcome_by : Tree → List Tree → Fuel → WithinFuel
outcome_by (Atom code) operands left = operator_outcome code operands left
outcome_by (Pair first rest) operands left = within left (applied_by None operands)

-- The answer is what the operator gives.
pub record IsAnswer (trees : List Tree) (outcome : WithinFuel) (answer : Answer) : Type 0 where
  pub known : IsKnown trees answer.value.0
  pub gives : outcome ≡ Enough (Gives (tree_at trees answer.value.0) answer.cost answer.pairs answer.bytes)

abbrev pub spending_of : Answer → Spending
spending_of answer = record { cost = answer.cost; pairs = answer.pairs; bytes = answer.bytes }

-- It costs something, and what is left of the fuel suffices for it.
pub record IsWithin (left : Fuel) (answer : Answer) : Type 0 where
  pub some : 1 ≤ answer.cost
  pub enough : Suffices left (spending_of answer)

-- The node is what the program raises.
pub record IsRaised (trees : List Tree) (outcome : WithinFuel) (node : ℕ) : Type 0 where
  pub known : IsKnown trees node
  pub raised : outcome ≡ Enough (Fails (outcomes.Raised (tree_at trees node)))

-- The fault is the operator's. Memory alone may be wanting at any time.
abbrev pub IsOpFault : List Tree → WithinFuel → OpFault → Type 0
IsOpFault trees outcome (fault.Operand place) = outcome ≡ Enough (Fails (WrongOperand place))
IsOpFault trees outcome fault.Count = outcome ≡ Enough (Fails WrongCount)
IsOpFault trees outcome (fault.Raised node) = IsRaised trees outcome node.0
IsOpFault trees outcome fault.ZeroDivisor = outcome ≡ Enough (Fails ZeroDivisor)
IsOpFault trees outcome fault.Shift = outcome ≡ Enough (Fails WrongShift)
IsOpFault trees outcome fault.NoOperator = outcome ≡ Enough (Fails NoOperator)
IsOpFault trees outcome fault.Wide = outcome ≡ Enough TooWide
IsOpFault trees outcome (fault.Spent which) = outcome ≡ Lacks which
IsOpFault trees outcome fault.OutOfMemory = Unit {0}

-- After a fault no node is new, but the pairs of a list that is raised, and what was made before memory was wanting.
abbrev pub KeepsNodes : (old new : List Tree) (operands : ℕ) → OpFault → Type 0
KeepsNodes old new operands (fault.Operand place) = new ≡ old
KeepsNodes old new operands fault.Count = new ≡ old
KeepsNodes old new operands (fault.Raised node) = length new ≤ length old + operands
KeepsNodes old new operands fault.ZeroDivisor = new ≡ old
KeepsNodes old new operands fault.Shift = new ≡ old
KeepsNodes old new operands fault.NoOperator = new ≡ old
KeepsNodes old new operands fault.Wide = new ≡ old
KeepsNodes old new operands (fault.Spent which) = new ≡ old
KeepsNodes old new operands fault.OutOfMemory = Unit {0}

-- A law of the definition: what is given costs something and is within what is left.
abbrev pub AnswersAreWithin : Type 0
AnswersAreWithin = (trees : List Tree) (code : Tree) (operands : List Tree) (left : Fuel) (answer : Answer) →
    IsAnswer trees (outcome_by code operands left) answer → IsWithin left answer
