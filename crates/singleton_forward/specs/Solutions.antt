-- What is read of a solution, and of a spend of which the checks 1 to 7 hold. Source: this project's own.
use Rattle.std.specs.Prelude.{◌≡◌, ℕ, List, [], ◌∷◌, Option, Some, Ok}
use Rattle.clvm_spec.specs.Tree.{Tree}
use Rattle.clvm_spec.specs.ProperList.{elements}
use Rattle.clvm_spec.specs.Spelled.{spelled_tree}
use Rattle.clvm_tree.specs.Nodes.{tree_at, IsKnown}
use Rattle.clvm_tree.specs.declared.Node.{Node}
use Rattle.coin_facts.specs.declared.hash32.Hash32.{Hash32}
use Rattle.coin_facts.specs.Steps.{◌>>=◌}
use Rattle.block_spec.specs.declared.spend.Spend.{Spend}
use Rattle.pool_spec.specs.Shape as shape
use Rattle.singleton_forward.specs.declared.outline.Found.{Found}
use Rattle.singleton_forward.specs.declared.outline.Outline.{Outline}
use Rattle.singleton_forward.specs.declared.solution.Proof.{Proof}
use Rattle.singleton_forward.specs.Checks.{outlined}

-- These nodes are the elements of a proper list.
abbrev pub AreThree : List Tree → Tree → List Node → Type 0
AreThree trees list (a ∷ b ∷ c ∷ []) =
    IsKnown trees a.0 × IsKnown trees b.0 × IsKnown trees c.0
    × (elements list ≡ Some (tree_at trees a.0 ∷ tree_at trees b.0 ∷ tree_at trees c.0 ∷ []))
AreThree trees list _ = ⊥

abbrev pub AreNotThree : Tree → Type 0
AreNotThree list = (a b c : Tree) → elements list ≡ Some (a ∷ b ∷ c ∷ []) → ⊥

abbrev pub proof_seen : Proof → shape.Proof
proof_seen proof = record { parent = proof.parent; inner = proof.inner; amount = proof.amount }

abbrev pub with_last : Proof → Tree → shape.Solution
with_last proof last = record { proof = proof_seen proof; last = last }

-- what is read of the solution of a coin of this amount
abbrev pub solution_in : ℕ → Tree → Option shape.Solution
solution_in own tree = elements tree >>= shape.solution_of_parts own

-- What is read of a solution has this proof.
pub record HasProof (read : Option shape.Solution) (proof : Proof) : Type 0 where
  pub last : Tree
  pub says : read ≡ Some (with_last proof last)

-- The node is the spend's solution, which has this proof.
pub record IsSolutionFound (trees : List Tree) (spend : Spend) (found : Found) : Type 0 where
  pub known : IsKnown trees found.solution.0
  pub stands : tree_at trees found.solution.0 ≡ spelled_tree spend.solution
  pub proof : HasProof (shape.solution_of spend) found.proof

-- The nodes are the spend's puzzle and solution, and the checks 1 to 7 find this proof.
pub record IsOutline (trees : List Tree) (singleton : Hash32) (spend : Spend) (outline : Outline) : Type 0 where
  pub puzzle_known : IsKnown trees outline.puzzle.0
  pub solution_known : IsKnown trees outline.solution.0
  pub puzzle_stands : tree_at trees outline.puzzle.0 ≡ spelled_tree spend.puzzle
  pub solution_stands : tree_at trees outline.solution.0 ≡ spelled_tree spend.solution
  pub last : Tree
  pub says : outlined singleton spend ≡ Ok (with_last outline.proof last)
