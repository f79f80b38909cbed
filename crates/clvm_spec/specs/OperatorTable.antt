-- The table of the 29 operators, by code. Source: CLVM reference; the costs, that fuel comes last, and which operators are
-- left out, are this project's own.
use Rattle.std.specs.Prelude.{ℕ, ◌==◌, List, [], ◌∷◌, Option, Some, None, find, bytes_eq, codes}
use Rattle.clvm_spec.specs.declared.fuel.Fuel.{Fuel}
use Rattle.clvm_spec.specs.declared.fuel.Which.{Which}
use Rattle.clvm_spec.specs.declared.op_codes.TheConstants.{QUOTE, APPLY, CHOICE, NEW_PAIR, FIRST, REST, PAIR_FLAG, RAISE, EQUAL, BYTES_GREATER, HASH, PART, LENGTH, CONCAT, SUM, DIFFERENCE, PRODUCT, QUOTIENT, DIVISION, GREATER, SHIFT, BIT_SHIFT, AND, OR, XOR, COMPLEMENT, NIL_FLAG, ANY_FLAG, ALL_FLAG}
use Rattle.clvm_spec.specs.declared.costs.TheConstants.{QUOTE_COST, APPLY_COST, CHOICE_COST, NEW_PAIR_COST, FIRST_COST, REST_COST, PAIR_FLAG_COST, RAISE_COST, EQUAL_COST, BYTES_GREATER_COST, HASH_COST, PART_COST, LENGTH_COST, CONCAT_COST, SUM_COST, DIFFERENCE_COST, PRODUCT_COST, QUOTIENT_COST, DIVISION_COST, GREATER_COST, SHIFT_COST, BIT_SHIFT_COST, AND_COST, OR_COST, XOR_COST, COMPLEMENT_COST, NIL_FLAG_COST, ANY_FLAG_COST, ALL_FLAG_COST}
use Rattle.clvm_spec.specs.declared.operands.Operands.{Operands}
use Rattle.clvm_spec.specs.declared.operands.Operands.TheVariants.{Any, Pairs, Atoms, Numbers, AtomAndNumbers}
use Rattle.clvm_spec.specs.Tree.{Tree}
use Rattle.clvm_spec.specs.Outcomes.{NoOperator, Applied, Gives, Fails, TooWide, WithinFuel, Enough, Lacks}
use Rattle.clvm_spec.specs.Spending.{lack}
use Rattle.clvm_spec.specs.Operators.{choice, new_pair, first_of, rest_of, pair_flag, raised, equal_flag, bytes_greater_flag, hash_of, part_of, length_of, concat_of, sum_of, difference_of, product_of, quotient_of, quotient_and_remainder, greater_flag, shift_of_number, shift_of_bits, and_of, or_of, xor_of, complement_of, nil_flag, any_flag, all_flag}

-- What the least, the most, the kind and the cost say of what is applied is laid down as laws, in ColumnLaws, of all rows
-- but those of `q` and `a`.
pub record Operator : Type 0 where
  pub code : ℕ
  pub name : List ℕ
  -- how many operands it has at least
  pub least : ℕ
  -- how many it has at most, None for any count
  pub most : Option ℕ
  pub kind : Operands
  -- what it costs whatever its operands are
  pub cost : ℕ
  pub applied : List Tree → Applied

-- A row: its last column is the operator's equation, which is applied at the row's cost.
abbrev pub operator : (code : ℕ) (name : List ℕ) (least : ℕ) (most : Option ℕ) (kind : Operands) (cost : ℕ) → (ℕ → List Tree → Applied) → Operator
operator code name least most kind cost equation =
    record { code = code; name = name; least = least; most = most; kind = kind; cost = cost; applied = equation cost }

-- `q` and `a` are no operators on values: evaluation treats them.
abbrev pub quote_code : ℕ
quote_code = QUOTE

abbrev pub apply_code : ℕ
apply_code = APPLY

-- Applied to values, they are none. Of their counts evaluation tells: what follows `q` isn't counted, and `a` has two.
abbrev pub by_evaluation : ℕ → List Tree → Applied
by_evaluation cost operands = Fails NoOperator

abbrev pub operators : List Operator
operators =
    operator QUOTE (codes "q") 0 None Any QUOTE_COST by_evaluation
    ∷ operator APPLY (codes "a") 2 (Some 2) Any APPLY_COST by_evaluation
    ∷ operator CHOICE (codes "i") 3 (Some 3) Any CHOICE_COST choice
    ∷ operator NEW_PAIR (codes "c") 2 (Some 2) Any NEW_PAIR_COST new_pair
    ∷ operator FIRST (codes "f") 1 (Some 1) Pairs FIRST_COST first_of
    ∷ operator REST (codes "r") 1 (Some 1) Pairs REST_COST rest_of
    ∷ operator PAIR_FLAG (codes "l") 1 (Some 1) Any PAIR_FLAG_COST pair_flag
    ∷ operator RAISE (codes "x") 0 None Any RAISE_COST raised
    ∷ operator EQUAL (codes "=") 2 (Some 2) Atoms EQUAL_COST equal_flag
    ∷ operator BYTES_GREATER (codes ">s") 2 (Some 2) Atoms BYTES_GREATER_COST bytes_greater_flag
    ∷ operator HASH (codes "sha256") 0 None Atoms HASH_COST hash_of
    ∷ operator PART (codes "substr") 2 (Some 3) AtomAndNumbers PART_COST part_of
    ∷ operator LENGTH (codes "strlen") 1 (Some 1) Atoms LENGTH_COST length_of
    ∷ operator CONCAT (codes "concat") 0 None Atoms CONCAT_COST concat_of
    ∷ operator SUM (codes "+") 0 None Numbers SUM_COST sum_of
    ∷ operator DIFFERENCE (codes "-") 0 None Numbers DIFFERENCE_COST difference_of
    ∷ operator PRODUCT (codes "*") 0 None Numbers PRODUCT_COST product_of
    ∷ operator QUOTIENT (codes "/") 2 (Some 2) Numbers QUOTIENT_COST quotient_of
    ∷ operator DIVISION (codes "divmod") 2 (Some 2) Numbers DIVISION_COST quotient_and_remainder
    ∷ operator GREATER (codes ">") 2 (Some 2) Numbers GREATER_COST greater_flag
    ∷ operator SHIFT (codes "ash") 2 (Some 2) Numbers SHIFT_COST shift_of_number
    ∷ operator BIT_SHIFT (codes "lsh") 2 (Some 2) Numbers BIT_SHIFT_COST shift_of_bits
    ∷ operator AND (codes "logand") 0 None Numbers AND_COST and_of
    ∷ operator OR (codes "logior") 0 None Numbers OR_COST or_of
    ∷ operator XOR (codes "logxor") 0 None Numbers XOR_COST xor_of
    ∷ operator COMPLEMENT (codes "lognot") 1 (Some 1) Numbers COMPLEMENT_COST complement_of
    ∷ operator NIL_FLAG (codes "not") 1 (Some 1) Any NIL_FLAG_COST nil_flag
    ∷ operator ANY_FLAG (codes "any") 0 None Any ANY_FLAG_COST any_flag
    ∷ operator ALL_FLAG (codes "all") 0 None Any ALL_FLAG_COST all_flag
    ∷ []

-- an operator by its code, and by its name
unfoldable pub operator_of : ℕ → Option Operator
operator_of code = find (λ row. row.code == code) operators

unfoldable pub operator_named : List ℕ → Option Operator
operator_named name = find (λ row. bytes_eq row.name name) operators

-- by an atom, of which one byte is a code
abbrev pub operator_at : List ℕ → Option Operator
operator_at [] = None
operator_at (code ∷ []) = operator_of code
operator_at (code ∷ b ∷ more) = None

abbrev pub applied_by : Option Operator → List Tree → Applied
applied_by None operands = Fails NoOperator
applied_by (Some row) operands = row.applied operands

-- what the operator with this atom as its code gives, where fuel is no matter
unfoldable pub applied : List ℕ → List Tree → Applied
applied code operands = applied_by (operator_at code) operands

abbrev pub unless_lacking : Option Which → Applied → WithinFuel
unless_lacking None applied = Enough applied
unless_lacking (Some which) applied = Lacks which

-- Where a value is there, what it uses has to suffice.
abbrev pub within : Fuel → Applied → WithinFuel
within left (Gives value cost pairs bytes) = unless_lacking (lack (record { cost = cost; pairs = pairs; bytes = bytes }) left) (Gives value cost pairs bytes)
within left (Fails why) = Enough (Fails why)
within left TooWide = Enough TooWide

abbrev pub operator_outcome : List ℕ → List Tree → Fuel → WithinFuel
operator_outcome code operands left = within left (applied code operands)
