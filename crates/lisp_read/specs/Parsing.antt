-- How Chialisp's forms are parsed, where lists are open: what the contracts of the reader's steps say, no part of the grammar.
-- Source: this project's own.
use Rattle.std.specs.Prelude.{◌≡◌, ℕ, List, Option, None, refl}
use Rattle.clvm_spec.specs.Tokens.{Token, Took}
use Rattle.open_lists.specs.declared.fault.Fault.{Fault}
use Rattle.open_lists.specs.declared.fault.Fault.TheVariants.{At, Unknown, OutOfMemory}
use Rattle.open_lists.specs.declared.list.OpenList.{OpenList}
use Rattle.open_lists.specs.Readings.{Reading}
use Rattle.open_lists.specs.Lists.{told}
use Rattle.open_lists.specs.Faults.{IsBroken}
use Rattle.open_lists.specs.Steps.{Leads}
use Rattle.lisp_read.specs.declared.place.Place.{Place}
use Rattle.lisp_read.specs.declared.form.Form as seen
use Rattle.lisp_read.specs.declared.fault.ReadAt.{ReadAt}
use Rattle.lisp_read.specs.declared.fault.ReadAt.TheVariants as read_at
use Rattle.lisp_read.specs.Forms.{Form}
use Rattle.lisp_read.specs.Views.{form_of}
use Rattle.lisp_read.specs.Grammar.{Places, chialisp}

-- Chialisp knows every symbol.
abbrev pub no_unknown : seen.Form → Option Place
no_unknown form = None

-- the program's forms and places, in a text that is placed so
abbrev pub reading : Places → Reading seen.Form Place Form Place no_unknown
reading there = record { language = chialisp there; meant = form_of; placed = λ place. place; finds = λ form. refl }

abbrev pub Lists : Type 0
Lists = List (OpenList seen.Form Place)

-- Where a token at this place leads to.
abbrev pub StepLeads : Token → Place → Lists → Lists → Option seen.Form → Type 0
StepLeads token place old new done =
    (there : Places) (from rest : List ℕ) → there from ≡ place → Leads (reading there) new rest done (told (reading there) 0 old (Took token from rest))

abbrev pub StepStops : Token → Place → Lists → Fault Place → Type 0
StepStops token place old fault = (there : Places) (from rest : List ℕ) → there from ≡ place → IsBroken (reading there) fault (told (reading there) 0 old (Took token from rest))

-- Some fault it is, and no unknown symbol.
abbrev pub IsKnown : Fault Place → Type 0
IsKnown (At what place) = Unit {0}
IsKnown (Unknown place) = ⊥
IsKnown OutOfMemory = Unit {0}

abbrev pub answered : Fault Place → ReadAt
answered (At what place) = read_at.At what place.at
answered (Unknown place) = read_at.OutOfMemory
answered OutOfMemory = read_at.OutOfMemory
