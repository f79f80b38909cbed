-- How CLVM's forms are parsed, where lists are open: what the contracts of the reader's steps say, no part of the grammar.
-- Source: this project's own.
use Rattle.std.specs.Prelude.{◌≡◌, ℕ, ◌+◌, ◌≤◌, List, ◌++◌, length, Option, option_map, refl}
use Rattle.std.proofs.Common.{Bor}
use Rattle.clvm_spec.specs.Tree.{Tree}
use Rattle.clvm_spec.specs.Tokens.{Token, Took}
use Rattle.clvm_spec.specs.Text.{Named, ParsedTree, unknown_in, clvm}
use Rattle.open_lists.specs.declared.fault.Fault.{Fault}
use Rattle.open_lists.specs.declared.list.Reach.{Reach}
use Rattle.open_lists.specs.declared.list.OpenList.{OpenList}
use Rattle.open_lists.specs.Readings.{Reading}
use Rattle.open_lists.specs.Lists.{last_of, whole, told}
use Rattle.open_lists.specs.Held.{held, handed}
use Rattle.open_lists.specs.Faults.{IsBroken}
use Rattle.open_lists.specs.Steps as steps
use Rattle.clvm_text.specs.declared.form.Form.{Form}
use Rattle.clvm_text.specs.declared.form.Form.TheVariants as form
use Rattle.clvm_text.specs.Forms.{formed, unknown_of, AreKnownForms}

-- a place: the text from there on
abbrev pub From : Type 0
From = Bor (List ℕ)

abbrev pub Lists : Type 0
Lists = List (OpenList Form From)

pub finds : (trees : List Tree) (f : Form) → unknown_in (formed trees f) ≡ option_map (λ from. from.now) (unknown_of f)
finds trees (form.Tree node) = refl
finds trees (form.Unknown from) = refl

-- the program's forms and places, in these trees
abbrev pub reading : List Tree → Reading Form From Named (List ℕ) unknown_of
reading trees = record { language = clvm; meant = formed trees; placed = λ from. from.now; finds = finds trees }

-- what is told of lists where this token stands next
abbrev pub read_at : Token → List ℕ → List Tree → Lists → List ℕ → ParsedTree
read_at token from trees lists rest = told (reading trees) 0 lists (Took token from rest)

-- A token there leads from these trees and lists to those, or to a form that stands in none. It adds two in all, to nodes and
-- forms, at most.
pub record Leads (token : Token) (from : List ℕ) (old : List Tree) (before : Lists) (new : List Tree) (after : Lists) (done : Option Form) : Type 0 where
  pub few : length new + length (held after ++ handed done) ≤ length old + length (held before) + 2
  pub known : AreKnownForms new (held after ++ handed done)
  pub leads : (rest : List ℕ) → steps.Leads (reading new) after rest done (read_at token from old before rest)

-- It is wrong there.
abbrev pub Stops : Token → List ℕ → List Tree → Lists → List Tree → Fault From → Type 0
Stops token from old before new fault = (rest : List ℕ) → IsBroken (reading new) fault (read_at token from old before rest)

-- The form is what stands behind the last element.
abbrev pub IsLastOf : List Tree → Reach Form From → Form → Type 0
IsLastOf trees reach made = (list : From) → formed trees made ≡ last_of (reading trees) list reach

-- The form in the new trees is that of the list in the old ones.
abbrev pub IsWholeOf : List Tree → OpenList Form From → List Tree → Form → Type 0
IsWholeOf old list new made = formed new made ≡ whole (reading old) list
