-- What calls that make a piece of code say of the trees. This project's own.
use Rattle.std.specs.Prelude.{◌≡◌, ℕ, ◌+◌, ◌≤◌, List, length}
use Rattle.clvm_spec.specs.Tree.{Tree}
use Rattle.clvm_tree.specs.Nodes.{tree_at, IsKnown, Grows}

-- A call that adds at most so many nodes has given a node that stands for the tree.
pub record Makes (old new : List Tree) (node : ℕ) (tree : Tree) (most : ℕ) : Type 0 where
  pub grows : Grows old new
  pub few : length new ≤ length old + most
  pub known : IsKnown new node
  pub stands : tree_at new node ≡ tree
