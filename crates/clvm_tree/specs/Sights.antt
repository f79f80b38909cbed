-- What `look` shows of a node. Source: this project's own.
use Rattle.std.specs.Prelude.{◌≡◌, ℕ, List}
use Rattle.clvm_spec.specs.Tree.{Tree, Atom}
use Rattle.clvm_tree.specs.Nodes.{tree_at, HasParts}
use Rattle.clvm_tree.specs.declared.arena.Sight.{Sight}
use Rattle.clvm_tree.specs.declared.arena.Sight.TheVariants.{Bytes, Parts}

abbrev pub Shows : List Tree → ℕ → Sight → Type 0
Shows trees node (Bytes bytes) = tree_at trees node ≡ Atom bytes.now
Shows trees node (Parts first rest) = HasParts trees node first.0 rest.0
