-- What a command on one CLVM input answers. Source: this project's own.
use Rattle.std.specs.Prelude.{◌≡◌, ℕ, List, ◌++◌, Result, Ok, Err, String, string_bytes, codes}
use Rattle.std.specs.Fmt.{decimal}
use Rattle.std.specs.declared.alloc.Global.{Global}
use Rattle.clvm_spec.specs.Tree.{Tree}
use Rattle.clvm_input.specs.Inputs.{clvm_input}
use Rattle.clvm_input.specs.declared.Fault.{Fault}
use Rattle.clvm_input.specs.declared.Fault.TheVariants.{Hex, Cut, LongSpelling, BadPrefix, Left}
use Rattle.clvm_input.specs.declared.InputFault.{InputFault}
use Rattle.clvm_input.specs.declared.InputFault.TheVariants.{Faulty, OutOfMemory}

-- what is wrong with an input, with its place in the bytes that the digits stand for
abbrev pub fault_words : Fault → List ℕ
fault_words Hex = codes "input hex"
fault_words Cut = codes "input cut"
fault_words (LongSpelling place) = codes "input long-spelling " ++ decimal place
fault_words (BadPrefix place) = codes "input bad-prefix " ++ decimal place
fault_words (Left place) = codes "input left " ++ decimal place

-- the line that a command makes of the tree that is read, or the words of a fault
abbrev pub tool_answer : (Tree → List ℕ) → Result Tree Fault → Result (List ℕ) (List ℕ)
tool_answer line (Ok tree) = Ok (line tree)
tool_answer line (Err fault) = Err (fault_words fault)

-- It is the line that the command makes of the input's tree, or the input's first fault. Want of memory says nothing.
abbrev pub IsLineFor : (Tree → List ℕ) → List ℕ → Result (String Global) InputFault → Type 0
IsLineFor line input (Ok text) = (tree : Tree) × (clvm_input input ≡ Ok tree) × (string_bytes text ≡ line tree)
IsLineFor line input (Err (Faulty fault)) = clvm_input input ≡ Err fault
IsLineFor line input (Err OutOfMemory) = Unit {0}
