-- What is read of a solution's bytes, and its bytes in front of its last element. Source: this project's own.
use Rattle.std.specs.Prelude.{ℕ, List, [], ◌∷◌, ◌++◌, length, nat_le, Option, None, if◌then◌else◌}
use Rattle.clvm_spec.specs.ProperList.{elements}
use Rattle.clvm_spec.specs.Spelled.{spelled_tree}
use Rattle.clvm_spec.specs.Spelling.{pair_mark, spelling}
use Rattle.coin_facts.specs.Atoms.{number_atom}
use Rattle.coin_facts.specs.Steps.{◌>>=◌}
use Rattle.pool_spec.specs.declared.limits.TheConstants.{MOST_FORWARD_SOLUTION}
use Rattle.pool_spec.specs.Shape.{Proof, Solution, solution_of_parts}
use Rattle.pool_spec.specs.Fit.{proof_tree, solution_tree, moved_solution}
use Rattle.pool_spec.specs.declared.lineage.Lineage.{Lineage}
use Rattle.singleton_forward.specs.declared.solution.Proof as found
use Rattle.singleton_forward.specs.Solutions.{with_last}
use Rattle.singleton_forward.specs.Shapes.{last_in}

-- of the solution of a coin of this amount, with this proof
abbrev pub head_of : Proof → (own : ℕ) → List ℕ
head_of proof own = pair_mark ∷ spelling (proof_tree proof) ++ (pair_mark ∷ spelling (number_atom own) ++ (pair_mark ∷ []))

-- what is read of the solution of a coin of this amount
abbrev pub solution_read : (own : ℕ) → List ℕ → Option Solution
solution_read own bytes = if nat_le (length bytes) MOST_FORWARD_SOLUTION then (elements (spelled_tree bytes) >>= solution_of_parts own) else None

-- the bytes of such a solution with this proof, moved onto a lineage's coin
abbrev pub moved_bytes : Option Solution → found.Proof → Lineage → List ℕ
moved_bytes read proof lineage = spelling (solution_tree lineage.coin.amount (moved_solution (with_last proof (last_in read)) lineage.parent))
