-- Each operator but `q` and `a`: what it gives of its operands, at which cost, with which new pairs and bytes, and its
-- faults in their order. The first argument is what the operator costs whatever its operands are: the table has it.
-- Source: CLVM reference; the costs, the counts of pairs and bytes, the limit of a number and the order of faults as
-- they stand here are this project's own.
--
-- The order of faults: the count of operands; from the first operand to the last its kind, and the width of a number;
-- what `x` raises, a zero divisor, a wrong shift, a part that isn't within its atom; a result, or a partial one from the
-- left, that 128 bits don't hold. That there is no such operator comes before, and that the fuel doesn't suffice comes
-- after all these.
use Rattle.std.specs.Prelude.{ℕ, suc, ◌+◌, ◌*◌, ◌/◌, ℤ, pos, negsuc, ◌+ℤ◌, ◌-ℤ◌, ◌*ℤ◌, nat_abs, int_lt, int_le, Bool, true, false, not, ◌&&◌, List, [], ◌∷◌, length, get_or, drop, map, fold, sum_by, slice_range, bytes_eq, Option, Some, None, if◌then◌else◌}
use Rattle.std.specs.List.{concat, list_any, list_all}
use Rattle.std.specs.Ordering.{nat_cmp, is_gt}
use Rattle.std.specs.Cmp.Lexicographic.{slice_cmp}
use Rattle.std.specs.Int.{w128, int_bit_and, int_bit_or, int_bit_xor}
use Rattle.sha2.specs.Sha256.{sha256}
use Rattle.clvm_spec.specs.declared.costs.TheConstants.{RESULT_BYTE_COST, COMPARED_BYTE_COST, HASHED_ATOM_COST, HASHED_BYTE_COST, MEASURED_BYTE_COST, JOINED_ATOM_COST, JOINED_BYTE_COST, TERM_COST, TERM_BYTE_COST, FACTOR_COST, FACTOR_BYTE_COST, FACTOR_LENGTHS_DIVISOR, QUOTIENT_BYTE_COST, DIVISION_BYTE_COST, GREATER_BYTE_COST, SHIFT_BYTE_COST, BITS_COST, BITS_BYTE_COST, COMPLEMENT_BYTE_COST, TRUTH_COST, ATOM_OVERHEAD}
use Rattle.clvm_spec.specs.Tree.{Tree, Atom, Pair, nil, list_tree}
use Rattle.clvm_spec.specs.Numbers.{unsigned, number, shortest_atom, is_short}
use Rattle.clvm_spec.specs.Arithmetic.{if_fits, is_zero, quotient, remainder, complement, is_shift, shifted}
use Rattle.clvm_spec.specs.Outcomes.{WrongCount, WrongOperand, Raised, ZeroDivisor, WrongShift, Applied, Gives, Fails, TooWide}

-- ---- how operands are read: first how many there are, then each of them

-- what is made of exactly two, or else
abbrev pub of_two : {T : Type 0} → T → List Tree → (Tree → Tree → T) → T
of_two otherwise [] go = otherwise
of_two otherwise (a ∷ []) go = otherwise
of_two otherwise (a ∷ b ∷ []) go = go a b
of_two otherwise (a ∷ b ∷ c ∷ more) go = otherwise

abbrev pub one : List Tree → (Tree → Applied) → Applied
one [] go = Fails WrongCount
one (a ∷ []) go = go a
one (a ∷ b ∷ more) go = Fails WrongCount

abbrev pub two : List Tree → (Tree → Tree → Applied) → Applied
two operands go = of_two (Fails WrongCount) operands go

abbrev pub three : List Tree → (Tree → Tree → Tree → Applied) → Applied
three [] go = Fails WrongCount
three (a ∷ []) go = Fails WrongCount
three (a ∷ b ∷ []) go = Fails WrongCount
three (a ∷ b ∷ c ∷ []) go = go a b c
three (a ∷ b ∷ c ∷ d ∷ more) go = Fails WrongCount

abbrev pub two_or_three : List Tree → (Tree → Tree → Option Tree → Applied) → Applied
two_or_three [] go = Fails WrongCount
two_or_three (a ∷ []) go = Fails WrongCount
two_or_three (a ∷ b ∷ []) go = go a b None
two_or_three (a ∷ b ∷ c ∷ []) go = go a b (Some c)
two_or_three (a ∷ b ∷ c ∷ d ∷ more) go = Fails WrongCount

-- the operand of this place where a pair is needed
abbrev pub pair_at : ℕ → Tree → (Tree → Tree → Applied) → Applied
pair_at place (Atom bytes) go = Fails (WrongOperand place)
pair_at place (Pair first rest) go = go first rest

-- where an atom is needed
abbrev pub atom_at : ℕ → Tree → (List ℕ → Applied) → Applied
atom_at place (Atom bytes) go = go bytes
atom_at place (Pair first rest) go = Fails (WrongOperand place)

-- where a number is needed: an atom that is short enough
abbrev pub if_short : List ℕ → (List ℕ → Applied) → Applied
if_short bytes go = if is_short bytes then go bytes else TooWide

abbrev pub number_at : ℕ → Tree → (List ℕ → Applied) → Applied
number_at place operand go = atom_at place operand (λ bytes. if_short bytes go)

-- the number of this place, or the other where no operand stands there
abbrev pub number_or : ℤ → ℕ → Option Tree → (ℤ → Applied) → Applied
number_or other place None go = go other
number_or other place (Some operand) go = number_at place operand (λ bytes. go (number bytes))

-- how an operand is read at its place
abbrev pub Reader : Type 0
Reader = ℕ → Tree → (List ℕ → Applied) → Applied

abbrev pub two_read : Reader → List Tree → (List ℕ → List ℕ → Applied) → Applied
two_read read operands go = two operands (λ a b. read 0 a (λ a. read 1 b (λ b. go a b)))

abbrev pub two_atoms : List Tree → (List ℕ → List ℕ → Applied) → Applied
two_atoms operands go = two_read atom_at operands go

abbrev pub two_numbers : List Tree → (List ℕ → List ℕ → Applied) → Applied
two_numbers operands go = two_read number_at operands go

-- any count of operands, from this place on
abbrev pub each_read : Reader → ℕ → List Tree → (List (List ℕ) → Applied) → Applied
each_read read place [] go = go []
each_read read place (operand ∷ operands) go = read place operand (λ bytes. each_read read (suc place) operands (λ more. go (bytes ∷ more)))

abbrev pub atoms : List Tree → (List (List ℕ) → Applied) → Applied
atoms operands go = each_read atom_at 0 operands go

abbrev pub numbers : List Tree → (List (List ℕ) → Applied) → Applied
numbers operands go = each_read number_at 0 operands go

-- ---- how values are made

-- what is there already, or one of the two atoms for true and false
abbrev pub free : Tree → ℕ → Applied
free value cost = Gives value cost 0 0

abbrev pub flag : Bool → Tree
flag b = if b then Atom (1 ∷ []) else nil

abbrev pub is_nil : Tree → Bool
is_nil (Atom []) = true
is_nil (Atom (b ∷ bytes)) = false
is_nil (Pair first rest) = false

-- A new atom uses its length and some bytes more.
abbrev pub atom_bytes : List ℕ → ℕ
atom_bytes bytes = length bytes + ATOM_OVERHEAD

abbrev pub new_atom : ℕ → List ℕ → Applied
new_atom cost bytes = Gives (Atom bytes) cost 0 (atom_bytes bytes)

-- what the bytes of a result cost
abbrev pub result_cost : ℕ → ℕ
result_cost size = RESULT_BYTE_COST * size

abbrev pub written : ℕ → List ℕ → Applied
written cost bytes = new_atom (cost + result_cost (length bytes)) bytes

-- what is made of a number where there is one that 128 bits hold
abbrev pub or_wide : {T : Type 0} → Option T → (T → Applied) → Applied
or_wide None go = TooWide
or_wide (Some held) go = go held

abbrev pub new_number : ℕ → ℤ → Applied
new_number cost n = or_wide (if_fits n) (λ n. written cost (shortest_atom n))

-- a pair of two new atoms
abbrev pub written_pair : ℕ → List ℕ → List ℕ → Applied
written_pair cost a b = Gives (Pair (Atom a) (Atom b)) (cost + result_cost (length a + length b)) 1 (atom_bytes a + atom_bytes b)

abbrev pub new_pair_of_numbers : ℕ → ℤ → ℤ → Applied
new_pair_of_numbers cost a b = or_wide (if_fits a) (λ a. or_wide (if_fits b) (λ b. written_pair cost (shortest_atom a) (shortest_atom b)))

abbrev pub lengths : List (List ℕ) → ℕ
lengths atoms = sum_by length atoms

-- ---- trees

-- i: the third operand where the first is nil, else the second
abbrev pub choice : ℕ → List Tree → Applied
choice cost operands = three operands (λ test yes no. free (if is_nil test then no else yes) cost)

-- c
abbrev pub new_pair : ℕ → List Tree → Applied
new_pair cost operands = two operands (λ first rest. Gives (Pair first rest) cost 1 0)

-- f
abbrev pub first_of : ℕ → List Tree → Applied
first_of cost operands = one operands (λ operand. pair_at 0 operand (λ first rest. free first cost))

-- r
abbrev pub rest_of : ℕ → List Tree → Applied
rest_of cost operands = one operands (λ operand. pair_at 0 operand (λ first rest. free rest cost))

abbrev pub is_pair : Tree → Bool
is_pair (Atom bytes) = false
is_pair (Pair first rest) = true

-- l: 1 for a pair, else nil
abbrev pub pair_flag : ℕ → List Tree → Applied
pair_flag cost operands = one operands (λ operand. free (flag (is_pair operand)) cost)

-- x: raises the list of its operands
abbrev pub raised : ℕ → List Tree → Applied
raised cost operands = Fails (Raised (list_tree operands))

-- ---- atoms

-- 1 where the bytes of two atoms compare so, else nil
abbrev pub compared : (List ℕ → List ℕ → Bool) → ℕ → List Tree → Applied
compared holds cost operands = two_atoms operands (λ a b. free (flag (holds a b)) (cost + COMPARED_BYTE_COST * (length a + length b)))

-- =: where they are equal
abbrev pub equal_flag : ℕ → List Tree → Applied
equal_flag cost operands = compared bytes_eq cost operands

-- >s: where the first is larger, a proper prefix being smaller
abbrev pub bytes_greater_flag : ℕ → List Tree → Applied
bytes_greater_flag cost operands = compared (λ a b. is_gt (slice_cmp nat_cmp a b)) cost operands

abbrev pub joined_hash : List (List ℕ) → List ℕ
joined_hash atoms = sha256 (concat atoms)

-- sha256: the hash of their concatenation
abbrev pub hash_of : ℕ → List Tree → Applied
hash_of cost operands = atoms operands (λ atoms. new_atom (cost + HASHED_ATOM_COST * length atoms + HASHED_BYTE_COST * lengths atoms) (joined_hash atoms))

-- 0 <= start <= end <= length
abbrev pub is_part : ℤ → ℤ → ℕ → Bool
is_part start end length = int_le (pos 0) start && int_le start end && int_le end (pos length)

-- the bytes from a start to an end, where the atom has them
abbrev pub part : List ℕ → (start end : ℤ) → Option (List ℕ)
part a start end = if is_part start end (length a) then Some (slice_range a (nat_abs start) (nat_abs end)) else None

abbrev pub part_or_fault : ℕ → Option (List ℕ) → Applied
part_or_fault cost None = Fails (WrongOperand 1)
part_or_fault cost (Some bytes) = new_atom cost bytes

-- substr: that part; the end is the length by default
abbrev pub part_of : ℕ → List Tree → Applied
part_of cost operands = two_or_three operands (λ a start end. atom_at 0 a (λ a. number_at 1 start (λ start. number_or (pos (length a)) 2 end (λ end.
    part_or_fault cost (part a (number start) end)))))

-- strlen: the length, each byte of which costs more
abbrev pub new_length : (cost size : ℕ) → Applied
new_length cost size = new_number (cost + MEASURED_BYTE_COST * size) (pos size)

abbrev pub length_of : ℕ → List Tree → Applied
length_of cost operands = one operands (λ a. atom_at 0 a (λ a. new_length cost (length a)))

-- concat
abbrev pub concat_of : ℕ → List Tree → Applied
concat_of cost operands = atoms operands (λ atoms. written (cost + JOINED_ATOM_COST * length atoms + JOINED_BYTE_COST * lengths atoms) (concat atoms))

-- ---- numbers

-- goes on from the left, where each partial result has to fit
abbrev pub from_left : (ℤ → ℤ → ℤ) → ℤ → List ℤ → (ℤ → Applied) → Applied
from_left step so_far [] go = go so_far
from_left step so_far (n ∷ ns) go = or_wide (if_fits (step so_far n)) (λ next. from_left step next ns go)

-- what the operands of a sum or difference cost
abbrev pub terms_cost : List (List ℕ) → ℕ
terms_cost atoms = TERM_COST * length atoms + TERM_BYTE_COST * lengths atoms

-- +: the sum, 0 for none
abbrev pub sum_of : ℕ → List Tree → Applied
sum_of cost operands = numbers operands (λ atoms. from_left ◌+ℤ◌ (pos 0) (map number atoms) (new_number (cost + terms_cost atoms)))

-- -: the first less the others, 0 for none
abbrev pub difference_of : ℕ → List Tree → Applied
difference_of cost operands = numbers operands (λ atoms. let first = get_or atoms 0 [] in
    from_left ◌-ℤ◌ (number first) (map number (drop 1 atoms)) (new_number (cost + terms_cost atoms)))

-- what an operand of that length costs beside a running product: its own, the bytes of both, and the product of the two
-- lengths, divided
abbrev pub factor_cost : (size other : ℕ) → ℕ
factor_cost size other = FACTOR_COST + FACTOR_BYTE_COST * (size + other) + size * other / FACTOR_LENGTHS_DIVISOR

-- What the operands after the first cost. The running product's length is that of its shortest form; at first it's the
-- first operand's.
abbrev pub factors_cost : (size : ℕ) → ℤ → List (List ℕ) → ℕ
factors_cost size product [] = 0
factors_cost size product (a ∷ others) = factor_cost size (length a) + factors_cost (length (shortest_atom (product *ℤ number a))) (product *ℤ number a) others

-- *: the product, 1 for none
abbrev pub product_of : ℕ → List Tree → Applied
product_of cost operands = numbers operands (λ atoms. let first = get_or atoms 0 (1 ∷ []) in let others = drop 1 atoms in
    from_left ◌*ℤ◌ (number first) (map number others) (new_number (cost + factors_cost (length first) (number first) others)))

abbrev pub unless_zero : ℤ → Applied → Applied
unless_zero divisor applied = if is_zero divisor then Fails ZeroDivisor else applied

-- /: the quotient rounded down
abbrev pub quotient_of : ℕ → List Tree → Applied
quotient_of cost operands = two_numbers operands (λ a b. unless_zero (number b) (new_number (cost + QUOTIENT_BYTE_COST * (length a + length b)) (quotient (number a) (number b))))

-- divmod: the pair of the quotient rounded down and the remainder
abbrev pub quotient_and_remainder : ℕ → List Tree → Applied
quotient_and_remainder cost operands = two_numbers operands (λ a b. unless_zero (number b) (new_pair_of_numbers (cost + DIVISION_BYTE_COST * (length a + length b)) (quotient (number a) (number b)) (remainder (number a) (number b))))

abbrev pub is_greater : (a b : List ℕ) → Bool
is_greater a b = int_lt (number b) (number a)

-- >: 1 where the first is larger, else nil
abbrev pub greater_flag : ℕ → List Tree → Applied
greater_flag cost operands = two_numbers operands (λ a b. free (flag (is_greater a b)) (cost + GREATER_BYTE_COST * (length a + length b)))

-- a shifted number, of a value of that length
abbrev pub new_shifted : (cost size : ℕ) → ℤ → Applied
new_shifted cost size n = new_number (cost + SHIFT_BYTE_COST * (size + length (shortest_atom n))) n

-- the value, as it is read, times 2 ^ shift, rounded down
abbrev pub shift_of : (List ℕ → ℤ) → ℕ → List Tree → Applied
shift_of value cost operands = two_numbers operands (λ a by. if is_shift (number by) then new_shifted cost (length a) (shifted (value a) (number by)) else Fails WrongShift)

-- ash: the value read as a number
abbrev pub shift_of_number : ℕ → List Tree → Applied
shift_of_number cost operands = shift_of number cost operands

-- lsh: the value read without sign
abbrev pub shift_of_bits : ℕ → List Tree → Applied
shift_of_bits cost operands = shift_of (λ a. pos (unsigned a)) cost operands

-- what is made of numbers bit by bit: of two, and of none
pub record Bitwise : Type 0 where
  pub step : ℤ → ℤ → ℤ
  pub none : ℤ

abbrev pub conjunction : Bitwise
conjunction = record { step = int_bit_and w128; none = negsuc 0 }

abbrev pub disjunction : Bitwise
disjunction = record { step = int_bit_or w128; none = pos 0 }

abbrev pub exclusion : Bitwise
exclusion = record { step = int_bit_xor w128; none = pos 0 }

abbrev pub joined : Bitwise → List ℤ → ℤ
joined bitwise numbers = fold bitwise.step bitwise.none numbers

abbrev pub bits_of : Bitwise → ℕ → List Tree → Applied
bits_of bitwise cost operands = numbers operands (λ atoms. new_number (cost + BITS_COST * length atoms + BITS_BYTE_COST * lengths atoms) (joined bitwise (map number atoms)))

-- logand: -1 for none
abbrev pub and_of : ℕ → List Tree → Applied
and_of cost operands = bits_of conjunction cost operands

-- logior: 0 for none
abbrev pub or_of : ℕ → List Tree → Applied
or_of cost operands = bits_of disjunction cost operands

-- logxor: 0 for none
abbrev pub xor_of : ℕ → List Tree → Applied
xor_of cost operands = bits_of exclusion cost operands

-- lognot: -1 less the number
abbrev pub complement_of : ℕ → List Tree → Applied
complement_of cost operands = one operands (λ a. number_at 0 a (λ a. new_number (cost + COMPLEMENT_BYTE_COST * length a) (complement (number a))))

-- ---- truth

-- not: 1 for nil, else nil
abbrev pub nil_flag : ℕ → List Tree → Applied
nil_flag cost operands = one operands (λ operand. free (flag (is_nil operand)) cost)

abbrev pub is_true : Tree → Bool
is_true tree = not (is_nil tree)

abbrev pub is_one_true : List Tree → Bool
is_one_true trees = list_any is_true trees

abbrev pub are_all_true : List Tree → Bool
are_all_true trees = list_all is_true trees

-- 1 where this holds of the operands, else nil
abbrev pub truth_flag : (List Tree → Bool) → ℕ → List Tree → Applied
truth_flag holds cost operands = free (flag (holds operands)) (cost + TRUTH_COST * length operands)

-- any: one isn't nil
abbrev pub any_flag : ℕ → List Tree → Applied
any_flag cost operands = truth_flag is_one_true cost operands

-- all: none is nil
abbrev pub all_flag : ℕ → List Tree → Applied
all_flag cost operands = truth_flag are_all_true cost operands
