-- The parts of a singleton's puzzle, as nodes. Source: this project's own.
use Rattle.std.specs.Prelude.{◌≡◌, ℕ, List, Option, Some, Result, Ok}
use Rattle.clvm_spec.specs.Tree.{Tree}
use Rattle.clvm_tree.specs.Nodes.{tree_at, IsKnown}
use Rattle.pool_spec.specs.Shape as shape
use Rattle.singleton_forward.specs.declared.layer.Layer.{Layer}

abbrev pub layer_at : List Tree → Layer → shape.Layer
layer_at trees layer = record {
  program = tree_at trees layer.program.0;
  singleton_struct = tree_at trees layer.singleton_struct.0;
  inner = tree_at trees layer.inner.0;
}

-- The nodes stand for what is read of the puzzle.
pub record IsLayer (trees : List Tree) (read : Option shape.Layer) (layer : Layer) : Type 0 where
  pub program_known : IsKnown trees layer.program.0
  pub struct_known : IsKnown trees layer.singleton_struct.0
  pub inner_known : IsKnown trees layer.inner.0
  pub says : read ≡ Some (layer_at trees layer)

-- The same of the checks on it.
pub record IsLayerFound (trees : List Tree) (found : Result shape.Layer ℕ) (layer : Layer) : Type 0 where
  pub program_known : IsKnown trees layer.program.0
  pub struct_known : IsKnown trees layer.singleton_struct.0
  pub inner_known : IsKnown trees layer.inner.0
  pub says : found ≡ Ok (layer_at trees layer)
