-- Where the bits of a path lead, on nodes. This project's own.
use Rattle.std.specs.Prelude.{◌≡◌, ℕ, ◌+◌, ◌<◌, ◌≤◌, ◌^◌, List}
use Rattle.clvm_spec.specs.Tree.{Tree}
use Rattle.clvm_spec.specs.Path.{PathValue, Reached, Astray, stepped, followed, path_value}
use Rattle.clvm_tree.specs.Nodes.{tree_at, IsKnown}
use Rattle.clvm_eval.specs.declared.path.Place.{Place}

-- One step leads from one place to another, whatever is done there.
pub record IsStep (trees : List Tree) (from : Place) (bit : ℕ) (to : Place) : Type 0 where
  pub known : IsKnown trees to.node.0
  pub earlier : to.node.0 < from.node.0
  pub leads : (go : Tree → PathValue) → stepped go bit (tree_at trees from.node.0) ≡ go (tree_at trees to.node.0)
  pub steps : to.steps ≡ from.steps + 1

-- No step leads on from there.
abbrev pub IsNoStep : List Tree → Place → ℕ → Type 0
IsNoStep trees from bit = (go : Tree → PathValue) → stepped go bit (tree_at trees from.node.0) ≡ Astray

-- From one place the bits lead to another.
pub record IsFollowed (trees : List Tree) (from : Place) (bits : ℕ) (to : Place) : Type 0 where
  pub known : IsKnown trees to.node.0
  pub few : to.node.0 + to.steps ≤ from.node.0 + from.steps
  pub reached : (bound : ℕ) → bits < 2 ^ bound → followed bound bits from.steps (tree_at trees from.node.0) ≡ Reached (tree_at trees to.node.0) to.steps

abbrev pub IsAstray : List Tree → Place → ℕ → Type 0
IsAstray trees from bits = (bound : ℕ) → bits < 2 ^ bound → followed bound bits from.steps (tree_at trees from.node.0) ≡ Astray

-- The path leads from the environment to a place.
pub record IsReached (trees : List Tree) (path : List ℕ) (env : Tree) (to : Place) : Type 0 where
  pub known : IsKnown trees to.node.0
  pub reached : path_value path env ≡ Reached (tree_at trees to.node.0) to.steps
