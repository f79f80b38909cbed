-- How far a form is copied, the pairs of which a part is built, the outermost first: what the contracts of the copy's steps
-- say. This project's own.
use Rattle.std.specs.Prelude.{ℕ, ◌+◌, List, [], ◌∷◌}
use Rattle.lisp_read.specs.Forms.{Form, Atom, Symbol, Pair}
use Rattle.lisp_read.specs.declared.copies.Level.{Level}
use Rattle.lisp_read.specs.declared.copies.Level.TheVariants.{First, Rest}
use Rattle.lisp_read.specs.declared.copies.Turn.{Turn}
use Rattle.lisp_read.specs.declared.copies.Turn.TheVariants.{Begins, Ends}

module _ {S T : Type 0} (seen : S → Form) (built : T → Form) where
  -- the pair with this part
  abbrev pub plugged : Level S T → Form → Form
  plugged (First place rest) form = Pair place form (seen rest.now)
  plugged (Rest place first) form = Pair place (built first) form

  abbrev pub plug : List (Level S T) → Form → Form
  plug [] form = form
  plug (level ∷ inner) form = plugged level (plug inner form)

  abbrev pub turn_form : Turn S T → Form
  turn_form (Begins form) = seen form.now
  turn_form (Ends form) = built form

-- ---- what is left to do

abbrev pub size : Form → ℕ
size (Atom place bytes) = 1
size (Symbol place name) = 1
size (Pair place first rest) = size first + size rest + 3

module _ {S T : Type 0} (seen : S → Form) where
  abbrev pub level_left : Level S T → ℕ
  level_left (First place rest) = size (seen rest.now) + 2
  level_left (Rest place first) = 1

  abbrev pub left : List (Level S T) → ℕ
  left [] = 0
  left (level ∷ inner) = level_left level + left inner

  abbrev pub turn_left : Turn S T → ℕ
  turn_left (Begins form) = size (seen form.now)
  turn_left (Ends form) = 0
