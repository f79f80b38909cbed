-- What the reader of hexadecimal answers. This project's own.
use Rattle.std.specs.Prelude.{◌≡◌, ℕ, List, Option, Some, None, Result, Ok, Err, Vec}
use Rattle.std.specs.declared.alloc.Global.{Global}
use Rattle.clvm_input.specs.declared.Fault.TheVariants.{Hex}
use Rattle.clvm_input.specs.declared.InputFault.{InputFault}
use Rattle.clvm_input.specs.declared.InputFault.TheVariants.{Faulty, OutOfMemory}

-- It is what the digits stand for, or they are none. Want of memory says nothing.
abbrev pub IsDecoded : Option (List ℕ) → Result (Vec ℕ Global) InputFault → Type 0
IsDecoded bytes (Ok found) = bytes ≡ Some found.items
IsDecoded bytes (Err (Faulty fault)) = (bytes ≡ None) × (fault ≡ Hex)
IsDecoded bytes (Err OutOfMemory) = Unit {0}
