-- The atoms of the operands, as the operators read them. This project's own.
use Rattle.std.specs.Prelude.{◌≡◌, ℕ, ◌*◌, ◌^◌, ◌≤◌, true, List, length, map}
use Rattle.std.specs.List.{All}
use Rattle.clvm_spec.specs.declared.limits.TheConstants.{NUMBER_BYTES}
use Rattle.clvm_spec.specs.Tree.{Tree, bytes_of}
use Rattle.clvm_spec.specs.Numbers.{is_short}
use Rattle.clvm_spec.specs.Outcomes.{Applied}
use Rattle.clvm_spec.specs.Operators.{atoms, numbers, lengths}
use Rattle.clvm_tree.specs.Operators.{trees_at}
use Rattle.clvm_tree.specs.declared.Node.{Node}

abbrev pub atoms_at : List Tree → List Node → List (List ℕ)
atoms_at trees nodes = map bytes_of (trees_at trees nodes)

-- Where atoms are needed, the operands are read as these.
abbrev pub AreAtoms : List Tree → List Node → Type 0
AreAtoms trees operands = (go : List (List ℕ) → Applied) → atoms (trees_at trees operands) go ≡ go (atoms_at trees operands)

abbrev pub AreNumbers : List Tree → List Node → Type 0
AreNumbers trees operands = (go : List (List ℕ) → Applied) → numbers (trees_at trees operands) go ≡ go (atoms_at trees operands)

abbrev pub AreShort : List Tree → List Node → Type 0
AreShort trees operands = All (λ bytes. is_short bytes ≡ true) (atoms_at trees operands)

-- They are all atoms, of so many bytes in all.
pub record HaveAtoms (trees : List Tree) (operands : List Node) (size : ℕ) : Type 0 where
  pub read : AreAtoms trees operands
  pub size_is : size ≡ lengths (atoms_at trees operands)
  pub few : size ≤ length operands * 2 ^ 63

-- They are all numbers, of so many bytes in all.
pub record HaveNumbers (trees : List Tree) (operands : List Node) (size : ℕ) : Type 0 where
  pub read : AreNumbers trees operands
  pub short : AreShort trees operands
  pub size_is : size ≡ lengths (atoms_at trees operands)
  pub few : size ≤ length operands * NUMBER_BYTES
