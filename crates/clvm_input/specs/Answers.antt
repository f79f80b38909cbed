-- What the reader of an input answers. This project's own.
use Rattle.std.specs.Prelude.{◌≡◌, List, Result, Ok, Err}
use Rattle.clvm_spec.specs.Tree.{Tree}
use Rattle.clvm_tree.specs.Nodes.{tree_at, IsKnown}
use Rattle.clvm_tree.specs.declared.Node.{Node}
use Rattle.clvm_tree.specs.declared.ReadFault.{ReadFault}
use Rattle.clvm_tree.specs.declared.ReadFault.TheVariants as read_fault
use Rattle.clvm_input.specs.declared.Fault.{Fault}
use Rattle.clvm_input.specs.declared.Fault.TheVariants.{Cut, LongSpelling, BadPrefix, Left}
use Rattle.clvm_input.specs.declared.InputFault.{InputFault}
use Rattle.clvm_input.specs.declared.InputFault.TheVariants.{Faulty, OutOfMemory}

-- It is what is read, or the first fault of it. Want of memory says nothing.
abbrev pub IsInput : Result Tree Fault → List Tree → Result Node InputFault → Type 0
IsInput read trees (Ok node) = IsKnown trees node.0 × (read ≡ Ok (tree_at trees node.0))
IsInput read trees (Err (Faulty fault)) = read ≡ Err fault
IsInput read trees (Err OutOfMemory) = Unit {0}

-- how a fault of the bytes is one of the input
abbrev pub fault_of : ReadFault → InputFault
fault_of read_fault.Cut = Faulty Cut
fault_of (read_fault.LongSpelling place) = Faulty (LongSpelling place)
fault_of (read_fault.BadPrefix place) = Faulty (BadPrefix place)
fault_of (read_fault.Left place) = Faulty (Left place)
fault_of read_fault.OutOfMemory = OutOfMemory
