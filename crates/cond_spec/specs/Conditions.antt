-- The conditions that the value of a run lists, or the first that is malformed or unknown. Source: Chia documentation of
-- conditions; which of the two a broken one is, is this project's own.
use Rattle.std.specs.Prelude.{ℕ, suc, List, [], ◌∷◌, Option, Some, None}
use Rattle.std.specs.List.{sum_by}
use Rattle.clvm_spec.specs.Tree.{Tree, Atom, Pair}
use Rattle.cond_spec.specs.declared.condition.Condition.{Condition}
use Rattle.cond_spec.specs.ConditionTable.{Row, row_of_atom, cost_of_condition}

-- what one element of the list is
pub data Reading : Type 0 where
  Reads : Condition → Reading
  IsMalformed : Reading
  IsUnknown : Reading

-- An operand that is missing, or of a wrong form, makes the condition malformed.
abbrev pub if_read : Option Condition → Reading
if_read (Some condition) = Reads condition
if_read None = IsMalformed

-- An atom that is no code is unknown.
abbrev pub by_row : Tree → Option Row → Reading
by_row operands (Some row) = if_read (row.read operands)
by_row operands None = IsUnknown

-- A condition is a pair whose first is an atom.
abbrev pub condition_of : Tree → Reading
condition_of (Pair (Atom code) operands) = by_row operands (row_of_atom code)
condition_of (Pair (Pair first rest) operands) = IsMalformed
condition_of (Atom bytes) = IsMalformed

-- the conditions of a value, or the place of the first broken one
pub data Listing : Type 0 where
  Lists : List Condition → Listing
  MalformedAt : (place : ℕ) → Listing
  UnknownAt : (place : ℕ) → Listing

-- one condition in front of the others; of two broken ones the first is told
abbrev pub behind : Condition → Listing → Listing
behind condition (Lists conditions) = Lists (condition ∷ conditions)
behind condition (MalformedAt place) = MalformedAt place
behind condition (UnknownAt place) = UnknownAt place

abbrev pub in_front : ℕ → Reading → Listing → Listing
in_front place (Reads condition) others = behind condition others
in_front place IsMalformed others = MalformedAt place
in_front place IsUnknown others = UnknownAt place

-- Nil ends the list; another atom is a malformed condition at its place.
abbrev pub end_at : ℕ → List ℕ → Listing
end_at place [] = Lists []
end_at place (b ∷ bytes) = MalformedAt place

abbrev pub conditions_from : ℕ → Tree → Listing
conditions_from place (Atom bytes) = end_at place bytes
conditions_from place (Pair first rest) = in_front place (condition_of first) (conditions_from (suc place) rest)

unfoldable pub conditions_of : Tree → Listing
conditions_of value = conditions_from 0 value

abbrev pub cost_of_conditions : List Condition → ℕ
cost_of_conditions conditions = sum_by cost_of_condition conditions
