-- The operands of conditions. They are read from the front, and what follows the last one isn't read. Source: Chia
-- documentation of conditions; the forms are this project's own.
use Rattle.std.specs.Prelude.{ℕ, ◌&&◌, ℤ, List, length, nat_le, Bool, Option, Some, None, option_map}
use Rattle.std.specs.Str.{bytes_eq}
use Rattle.clvm_spec.specs.Tree.{Tree, Atom, Pair}
use Rattle.clvm_spec.specs.Numbers.{number, is_short, shortest_atom}
use Rattle.coin_facts.specs.Steps.{◌>>=◌}
use Rattle.coin_facts.specs.Atoms.{atom_where, number_below}
use Rattle.cond_spec.specs.declared.limits.TheConstants.{MOST_TEXT, MODES}
use Rattle.cond_spec.specs.declared.condition.Condition.{Condition}

-- A text is an atom of at most 1,024 bytes.
abbrev pub text_of : Tree → Option (List ℕ)
text_of tree = atom_where (λ bytes. nat_le (length bytes) MOST_TEXT) tree

-- A moment is the shortest atom of a number, of at most 16 bytes.
abbrev pub is_moment : List ℕ → Bool
is_moment bytes = is_short bytes && bytes_eq bytes (shortest_atom (number bytes))

abbrev pub moment_of : Tree → Option ℤ
moment_of tree = option_map number (atom_where is_moment tree)

-- A mode is the shortest atom of 0 to 63.
abbrev pub mode_of : Tree → Option ℕ
mode_of tree = number_below MODES tree

-- goes on with the first operand, as its form is read, and those behind it
abbrev pub operand : {A : Type 0} → (Tree → Option A) → Tree → (A → Tree → Option Condition) → Option Condition
operand form (Pair first rest) next = form first >>= λ value. next value rest
operand form (Atom bytes) next = None

-- conditions of no operand, of one, and of two
abbrev pub none : Condition → Tree → Option Condition
none make operands = Some make

abbrev pub one : {A : Type 0} → (Tree → Option A) → (A → Condition) → Tree → Option Condition
one form make operands = operand form operands (λ value rest. Some (make value))

abbrev pub two : {A B : Type 0} → (Tree → Option A) → (Tree → Option B) → (A → B → Condition) → Tree → Option Condition
two form second make operands = operand form operands (λ a rest. operand second rest (λ b more. Some (make a b)))
