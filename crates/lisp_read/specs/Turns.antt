-- How a form is turned round for its drop, so that no pair stands within a first: what the contracts of the drop's steps
-- say, no part of the grammar. Source: this project's own.
use Rattle.std.specs.Prelude.{ℕ, ◌+◌, ◌*◌}
use Rattle.lisp_read.specs.Forms.{Form, Atom, Symbol, Pair}

-- A pair's rest moves to its first's place, another form to the rest's, and its first is handed out.
abbrev pub turned : Form → Form → Form × Form
turned (Atom place bytes) other = (Atom place bytes, other)
turned (Symbol place name) other = (Symbol place name, other)
turned (Pair place first rest) other = (Pair place rest other, first)

-- how many turns the drop takes at most: more than for each part, and fewer where what stands in the first moves to the rest
abbrev pub turns_to_drop : Form → ℕ
turns_to_drop (Atom place bytes) = 0
turns_to_drop (Symbol place name) = 0
turns_to_drop (Pair place first rest) = 2 * turns_to_drop first + turns_to_drop rest + 1
