-- What is to be written of nodes. Source: this project's own.
use Rattle.std.specs.Prelude.{ℕ, ◌≤◌, length}
use Rattle.clvm_spec.specs.Tree.{Tree}
use Rattle.clvm_spec.specs.Spelling.{spelling, HasSpelling}
use Rattle.clvm_tree.specs.declared.WriteFault.{WriteFault}
use Rattle.clvm_tree.specs.declared.WriteFault.TheVariants.{TooLong, OutOfMemory}

-- The tree has a spelling, of at most so many bytes.
pub record HasSpellingWithin (most : ℕ) (tree : Tree) : Type 0 where
  pub spelled : HasSpelling tree
  pub within : length (spelling tree) ≤ most

abbrev pub IsWriteFault : ℕ → Tree → WriteFault → Type 0
IsWriteFault most tree TooLong = HasSpellingWithin most tree → ⊥
IsWriteFault most tree OutOfMemory = Unit {0}
