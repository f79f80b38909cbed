-- What is answered of an operator without the table of operators: what it gives of the trees that the nodes stand for,
-- within what is left of the fuel, or nothing. This project's own.
use Rattle.std.specs.Prelude.{◌≡◌, ℕ, ℤ, ◌+◌, ◌≤◌, true, Option, Some, None, List, length}
use Rattle.std.specs.Int.{w128}
use Rattle.std.specs.Int.RustNames.{FitsSigned}
use Rattle.clvm_spec.specs.declared.fuel.Fuel.{Fuel}
use Rattle.clvm_spec.specs.Tree.{Tree, Atom}
use Rattle.clvm_spec.specs.Numbers.{number, is_short}
use Rattle.clvm_spec.specs.Outcomes.{Applied, WithinFuel}
use Rattle.clvm_spec.specs.OperatorTable.{within}
use Rattle.clvm_tree.specs.Nodes.{Grows}
use Rattle.clvm_tree.specs.Operators.{IsAnswer}
use Rattle.clvm_tree.specs.declared.operators.Answer.{Answer}

-- The new nodes of an answer are among the pairs and bytes that it is charged.
pub record IsQuick (old new : List Tree) (outcome : WithinFuel) (answer : Answer) : Type 0 where
  pub grows : Grows old new
  pub few : length new ≤ length old + answer.pairs + answer.bytes
  pub is : IsAnswer new outcome answer

-- Where nothing is answered, nothing has changed.
abbrev pub IsQuickOrNone : (old new : List Tree) → WithinFuel → Option Answer → Type 0
IsQuickOrNone old new outcome None = new ≡ old
IsQuickOrNone old new outcome (Some answer) = IsQuick old new outcome answer

abbrev pub Quickly : (old new : List Tree) → Fuel → Applied → Option Answer → Type 0
Quickly old new left applied result = IsQuickOrNone old new (within left applied) result

-- The tree is an atom of so many bytes, which are this number of 128 bits.
pub record IsNumber (tree : Tree) (n : ℤ) (size : ℕ) : Type 0 where
  pub bytes : List ℕ
  pub is : tree ≡ Atom bytes
  pub short : is_short bytes ≡ true
  pub number_is : n ≡ number bytes
  pub size_is : size ≡ length bytes
  pub few : size ≤ 16
  pub held : FitsSigned w128 n
