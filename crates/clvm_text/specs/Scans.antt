-- What scanning answers. Source: this project's own.
use Rattle.std.specs.Prelude.{◌≡◌, ℕ, List}
use Rattle.clvm_spec.specs.Tree.{Tree}
use Rattle.clvm_spec.specs.Places.{place_of}
use Rattle.clvm_spec.specs.Grammar.{Parses}
use Rattle.clvm_spec.specs.Text.{form_of, Unreadable, Unnamed, LeftOver, scanned}
use Rattle.open_lists.specs.declared.fault.Fault.{Fault}
use Rattle.open_lists.specs.declared.fault.Fault.TheVariants as fault
use Rattle.open_lists.specs.Faults.{IsBroken}
use Rattle.clvm_text.specs.Forms.{formed, IsKnownForm}
use Rattle.clvm_text.specs.Parsing.{From, reading}
use Rattle.clvm_text.specs.declared.TextFault.{TextFault}
use Rattle.clvm_text.specs.declared.TextFault.TheVariants.{Read, Name, Left, OutOfMemory}
use Rattle.clvm_text.specs.declared.form.Form.{Form}

-- The text begins with this form, and the rest is behind it.
pub record IsFormAt (trees : List Tree) (text : List ℕ) (form : Form) (rest : List ℕ) : Type 0 where
  pub known : IsKnownForm trees form
  pub found : form_of text ≡ Parses (formed trees form) rest

-- That is why the text begins with no form, or memory lacks.
abbrev pub IsFormFault : List Tree → List ℕ → Fault From → Type 0
IsFormFault trees text why = IsBroken (reading trees) why (form_of text)

-- the fault with its place in the text
abbrev pub answered : List ℕ → Fault From → TextFault
answered text (fault.At kind from) = Read kind (place_of text from.now)
answered text (fault.Unknown from) = Name (place_of text from.now)
answered text fault.OutOfMemory = OutOfMemory

-- the first fault of a text
abbrev pub IsTextFault : List ℕ → TextFault → Type 0
IsTextFault text (Read kind place) = scanned text ≡ Unreadable kind place
IsTextFault text (Name place) = scanned text ≡ Unnamed place
IsTextFault text (Left place) = scanned text ≡ LeftOver place
IsTextFault text OutOfMemory = Unit {0}
