-- What a reader of members answers, by what its definition reads. Source: this project's own.
use Rattle.std.specs.Prelude.{◌≡◌, Option, Some, Result, Ok, Err}
use Rattle.session_spec.specs.LineFaults.{What}
use Rattle.session_spec.specs.LineFaults as what
use Rattle.bundle_json.specs.declared.fault.MemberFault.{MemberFault}
use Rattle.bundle_json.specs.declared.fault.MemberFault.TheVariants.{Missing, Bad, UnknownName, OutOfMemory}

-- It is what is read, or the fault. Want of memory says nothing.
abbrev pub Reads : {A : Type 0} → Result A What → Result A MemberFault → Type 0
Reads read (Ok x) = read ≡ Ok x
Reads read (Err (Missing member)) = read ≡ Err (what.Missing member)
Reads read (Err (Bad member)) = read ≡ Err (what.Bad member)
Reads read (Err (UnknownName member)) = read ≡ Err (what.UnknownName member)
Reads read (Err OutOfMemory) = Unit {0}

-- the same of an answer that is seen as another value
abbrev pub ReadsAs : {A B : Type 0} → (B → A) → Result A What → Result B MemberFault → Type 0
ReadsAs seen read (Ok x) = read ≡ Ok (seen x)
ReadsAs seen read (Err (Missing member)) = read ≡ Err (what.Missing member)
ReadsAs seen read (Err (Bad member)) = read ≡ Err (what.Bad member)
ReadsAs seen read (Err (UnknownName member)) = read ≡ Err (what.UnknownName member)
ReadsAs seen read (Err OutOfMemory) = Unit {0}
