-- What a reader answers, by what its definition reads.
use Rattle.std.specs.Prelude.{◌≡◌, Option, Some, None, Result, Ok, Err}
use Rattle.chia_sim.specs.declared.form.FormFault.{FormFault}
use Rattle.chia_sim.specs.declared.form.FormFault.TheVariants.{Unbuilt, OutOfMemory}

-- It is what is read, or `Unbuilt` where nothing is read. Want of memory says nothing.
abbrev pub Reads : {A : Type 0} → Option A → Result A FormFault → Type 0
Reads read (Ok x) = read ≡ Some x
Reads read (Err Unbuilt) = read ≡ None
Reads read (Err OutOfMemory) = Unit {0}

-- the same of an answer that is seen as another value
abbrev pub ReadsAs : {A B : Type 0} → (B → A) → Option A → Result B FormFault → Type 0
ReadsAs seen read (Ok x) = read ≡ Some (seen x)
ReadsAs seen read (Err Unbuilt) = read ≡ None
ReadsAs seen read (Err OutOfMemory) = Unit {0}
