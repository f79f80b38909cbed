-- What `uncurry` answers. This project's own.
use Rattle.std.specs.Prelude.{◌≡◌, List, Option, Some, None}
use Rattle.clvm_spec.specs.Tree.{Tree}
use Rattle.clvm_tree.specs.Nodes.{tree_at, IsKnown, AreKnown}
use Rattle.clvm_tree.specs.Operators.{trees_at}
use Rattle.clvm_spec.specs.Currying.{CurriedParts}
use Rattle.lisp_library.specs.declared.uncurrying.Curried.{Curried}

-- The nodes stand for the program and the arguments.
pub record AreParts (trees : List Tree) (read : Option CurriedParts) (found : Curried) : Type 0 where
  pub program_known : IsKnown trees found.program.0
  pub arguments_known : AreKnown trees found.arguments
  pub says : read ≡ Some (record { program = tree_at trees found.program.0; arguments = trees_at trees found.arguments })

abbrev pub IsUncurried : List Tree → Option CurriedParts → Option Curried → Type 0
IsUncurried trees read None = read ≡ None
IsUncurried trees read (Some found) = AreParts trees read found
