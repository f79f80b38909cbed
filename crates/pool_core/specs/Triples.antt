-- A node that is a proper list of three nodes. Source: this project's own.
use Rattle.std.specs.Prelude.{◌≡◌, ℕ, List, [], ◌∷◌}
use Rattle.clvm_spec.specs.Tree.{Tree, list_tree}
use Rattle.clvm_tree.specs.Nodes.{tree_at, IsKnown}

pub record IsTripleOf (trees : List Tree) (node first second third : ℕ) : Type 0 where
  pub list : tree_at trees node ≡ list_tree (tree_at trees first ∷ tree_at trees second ∷ tree_at trees third ∷ [])
  pub first_known : IsKnown trees first
  pub second_known : IsKnown trees second
  pub third_known : IsKnown trees third
