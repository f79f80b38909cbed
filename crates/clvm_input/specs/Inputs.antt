-- What a CLVM input is: the hexadecimal of exactly one spelled tree. Source: this project's own.
use Rattle.std.specs.Prelude.{ℕ, List, Option, Some, None, Result, Ok, Err}
use Rattle.clvm_spec.specs.Tree.{Tree}
use Rattle.clvm_spec.specs.Reading.{Flaw, Whole, IsTree, IsFlawed, IsLonger, whole_read}
use Rattle.clvm_spec.specs.Reading as flaw
use Rattle.clvm_input.specs.Texts.{trimmed, bytes_of}
use Rattle.clvm_input.specs.declared.Fault.{Fault}
use Rattle.clvm_input.specs.declared.Fault.TheVariants.{Hex, Cut, LongSpelling, BadPrefix, Left}

-- Places count the bytes that the digits stand for.
abbrev pub fault_at : Flaw → ℕ → Fault
fault_at flaw.Cut place = Cut
fault_at flaw.LongSpelling place = LongSpelling place
fault_at flaw.BadPrefix place = BadPrefix place

abbrev pub whole_tree : Whole → Result Tree Fault
whole_tree (IsTree tree) = Ok tree
whole_tree (IsFlawed flaw place) = Err (fault_at flaw place)
whole_tree (IsLonger place) = Err (Left place)

abbrev pub tree_of_bytes : Option (List ℕ) → Result Tree Fault
tree_of_bytes None = Err Hex
tree_of_bytes (Some bytes) = whole_tree (whole_read bytes)

-- the tree of an input, or its first fault
abbrev pub clvm_input : List ℕ → Result Tree Fault
clvm_input input = tree_of_bytes (bytes_of (trimmed input))
