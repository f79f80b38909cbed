-- A shape as contracts see it, and what its type keeps. Source: this project's own.
use Rattle.std.specs.Prelude.{Option, Some, None, IsTrue, is_some}
use Rattle.clvm_spec.specs.Tree.{Tree, nil}
use Rattle.clvm_spec.specs.Spelled.{spelled_tree}
use Rattle.block_spec.specs.declared.spend.Spend.{Spend}
use Rattle.pool_spec.specs.Shape as shape
use Rattle.singleton_forward.specs.declared.solution.Proof.{Proof}
use Rattle.singleton_forward.specs.Solutions.{with_last, HasProof}

abbrev pub last_in : Option shape.Solution → Tree
last_in (Some solution) = solution.last
last_in None = nil

abbrev pub shape_seen : Spend → Proof → shape.Shape
shape_seen spend proof = record { spend = spend; solution = with_last proof (last_in (shape.solution_of spend)) }

-- Of the checks of the shape the first and the fourth hold.
pub record IsShaped (spend : Spend) (proof : Proof) : Type 0 where
  pub curried : IsTrue (is_some (shape.layer_of (spelled_tree spend.puzzle)))
  pub solution : HasProof (shape.solution_of spend) proof
