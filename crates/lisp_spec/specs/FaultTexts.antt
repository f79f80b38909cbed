-- How the first fault of a module is told. Source: this project's own.
use Rattle.std.specs.Prelude.{ℕ, List, ◌++◌, codes}
use Rattle.std.specs.Fmt.{decimal}
use Rattle.clvm_spec.specs.declared.scan_kind.ScanKind.{ScanKind}
use Rattle.clvm_spec.specs.declared.scan_kind.ScanKind.TheVariants as read
use Rattle.lisp_spec.specs.ModuleFaults.{Kind, Unreadable, NotAModule, NameTwice, IncludeMissing, TurnsSpent, BadMacro, BadForm, Unbound, ConstantFails, InlineCycle, TooLarge, Fault}

abbrev pub read_word : ScanKind → List ℕ
read_word read.End = codes "read-end"
read_word read.Close = codes "read-close"
read_word read.Dot = codes "read-dot"
read_word read.Hex = codes "read-hex"
read_word read.Number = codes "read-number"
read_word read.Text = codes "read-text"
read_word read.Byte = codes "read-byte"
read_word read.Deep = codes "read-deep"

abbrev pub kind_word : Kind → List ℕ
kind_word (Unreadable kind) = read_word kind
kind_word NotAModule = codes "not-a-module"
kind_word NameTwice = codes "name-twice"
kind_word IncludeMissing = codes "include-missing"
kind_word TurnsSpent = codes "turns-spent"
kind_word BadMacro = codes "bad-macro"
kind_word BadForm = codes "bad-form"
kind_word Unbound = codes "unbound"
kind_word ConstantFails = codes "constant-fails"
kind_word InlineCycle = codes "inline-cycle"
kind_word TooLarge = codes "too-large"

-- the kind, the number of the text, and the place in it
abbrev pub fault_text : Fault → List ℕ
fault_text f = codes "module " ++ kind_word f.kind ++ codes " " ++ decimal f.place.text ++ codes " " ++ decimal f.place.at
