-- A module's text taken apart. This project's own, by the definitions of the language.
use Rattle.std.specs.Prelude.{◌≡◌, ℕ, List, Result, Ok, Err}
use Rattle.lisp_read.specs.Views.{form_of}
use Rattle.lisp_spec.specs.ModuleFaults.{◌>>=◌}
use Rattle.lisp_spec.specs.Inclusion.{Parts, Texts, parts_of_text, definitions_of}
use Rattle.lisp_parts.specs.declared.fault.PartsFault.{PartsFault}
use Rattle.lisp_parts.specs.declared.whole.ModuleParts.{ModuleParts}
use Rattle.lisp_parts.specs.declared.whole.Outline.{Outline}
use Rattle.lisp_parts.specs.Faults.{IsFaultOf}
use Rattle.lisp_parts.specs.Views.{all_written}

abbrev pub outline_of : Outline → Parts
outline_of outline = record { params = form_of outline.params; definitions = outline.definitions; body = form_of outline.body }

-- These are the text's parameters, all its definitions, with included ones in place, and its body.
pub record IsTakenApart (text : List ℕ) (texts : Texts) (taken : ModuleParts) : Type 0 where
  pub parts : Parts
  pub reads : parts_of_text text ≡ Ok parts
  pub defines : definitions_of texts parts ≡ Ok (all_written taken.definitions.items)
  pub params : parts.params ≡ form_of taken.params
  pub body : parts.body ≡ form_of taken.body

-- what the text is, with these texts to include, or its first fault
abbrev pub Answers : List ℕ → Texts → Result ModuleParts PartsFault → Type 0
Answers text texts (Ok taken) = IsTakenApart text texts taken
Answers text texts (Err first) = IsFaultOf (parts_of_text text >>= definitions_of texts) first
