-- A name that is none of the table's finds no operator, nor does what is no text.
use Rattle.std.proofs.Common.{◌≡◌, ℕ, zero, suc, Bool, true, List, [], ◌∷◌, None, Some, bytes_eq, refl, sym, ap, ◌∙◌, subst, arith}
use Rattle.std.specs.Prelude.{find, option_map, nat_lt}
use Rattle.std.specs.List.{list_all}
use Rattle.std.specs.Str.{IsUtf8, IsAscii}
use Rattle.std.proofs.lemmas.Bool.{false_from_ne_true, cond-false, and_parts}
use Rattle.std.proofs.lemmas.Bool.Decides.{nat_tests}
use Rattle.std.proofs.lemmas.Slice.Eq.{bytes_eq-Decides}
use Rattle.std.proofs.lemmas.Str.{IsUtf8-from_ascii}
use Rattle.clvm_spec.specs.OperatorTable.{Operator, operators, operator_named}

abbrev pub IsNoneOf : List Operator → List ℕ → Type 0
IsNoneOf [] name = Unit {0}
IsNoneOf (row ∷ rows) name = (name ≡ row.name → ⊥) × IsNoneOf rows name

found_in : (rows : List Operator) (name : List ℕ) → IsNoneOf rows name → find (λ row. bytes_eq row.name name) rows ≡ None
found_in [] name h = refl
found_in (row ∷ rows) name h =
    cond-false (bytes_eq row.name name) (Some row) _ (false_from_ne_true (bytes_eq row.name name) (λ e. h.0 (sym ((bytes_eq-Decides row.name name).0 e))))
    ∙ found_in rows name h.1

pub no_code : (name : List ℕ) → IsNoneOf operators name → None ≡ option_map (λ row. row.code) (operator_named name)
unfolding operator_named
no_code name h = sym (ap (option_map (λ (row : Operator). row.code)) (found_in operators name h))

-- ---- names are of ASCII characters alone

abbrev is_low : ℕ → Bool
is_low b = nat_lt b 128

all_low : (bytes : List ℕ) → list_all is_low bytes ≡ true → IsAscii bytes
all_low [] h i = omega arith
all_low (b ∷ bytes) h zero = let low = (and_parts (is_low b) (list_all is_low bytes) h).0 in grind (arith, nat_tests, low)
all_low (b ∷ bytes) h (suc i) = all_low bytes (and_parts (is_low b) (list_all is_low bytes) h).1 i

abbrev AreLow : List Operator → Type 0
AreLow [] = Unit {0}
AreLow (row ∷ rows) = (list_all is_low row.name ≡ true) × AreLow rows

abbrev has_low_name : Operator → Bool
has_low_name row = list_all is_low row.name

names_are_low : (rows : List Operator) → list_all has_low_name rows ≡ true → AreLow rows
names_are_low [] h = tt
names_are_low (row ∷ rows) h = let both = and_parts (has_low_name row) (list_all has_low_name rows) h in (both.0, names_are_low rows both.1)

none_of : (rows : List Operator) (name : List ℕ) → AreLow rows → (IsUtf8 name → ⊥) → IsNoneOf rows name
none_of [] name h bad = tt
none_of (row ∷ rows) name h bad = (λ e. bad (subst IsUtf8 (sym e) (IsUtf8-from_ascii row.name (all_low row.name h.0))), none_of rows name h.1 bad)

pub no_text : (name : List ℕ) → (IsUtf8 name → ⊥) → None ≡ option_map (λ row. row.code) (operator_named name)
no_text name bad = no_code name (none_of operators name (names_are_low operators refl) bad)
