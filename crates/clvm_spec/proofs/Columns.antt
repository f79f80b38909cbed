-- What each row of the operator table gives of its operands, by how they are read: the laws of the columns.
use Rattle.std.proofs.Common.{◌≡◌, ℕ, suc, ◌+◌, ◌*◌, ◌<◌, ◌≤◌, ◌^◌, ℤ, pos, ◌+ℤ◌, ◌-ℤ◌, ◌*ℤ◌, Bool, true, false, cond, List, [], ◌∷◌, length, get_or, drop, map, Option, Some, None, refl, sym, ap, ◌∙◌, subst, arith}
use Rattle.std.specs.Prelude.{◌↔◌, codes, sum_by}
use Rattle.std.specs.Option.{option_or}
use Rattle.std.specs.List.{All, AllByRecursion}
use Rattle.std.proofs.lemmas.Bool.{cond_both, ltb-false}
use Rattle.std.proofs.lemmas.List.Elements.{All-from_recursion}
use Rattle.clvm_spec.specs.Numbers.{is_short}
use Rattle.clvm_spec.specs.Tree.{Tree, Atom, Pair, bytes_of}
use Rattle.clvm_spec.specs.Numbers.{number, shortest_atom}
use Rattle.clvm_spec.specs.Arithmetic.{fits_128, if_fits, is_zero, quotient, remainder}
use Rattle.clvm_spec.specs.Outcomes.{Why, NoStep, NotAList, WrongCount, WrongOperand, Raised, ZeroDivisor, WrongShift, NoOperator, Applied, Gives, Fails, TooWide}
use Rattle.clvm_spec.specs.declared.op_codes.TheConstants.{PART}
use Rattle.clvm_spec.specs.declared.costs.TheConstants.{PART_COST, LENGTH_COST, SUM_COST, DIFFERENCE_COST, PRODUCT_COST, DIVISION_COST, DIVISION_BYTE_COST, MEASURED_BYTE_COST}
use Rattle.clvm_spec.specs.Operators as op
use Rattle.clvm_spec.specs.declared.operands.Operands.{Operands}
use Rattle.clvm_spec.specs.declared.operands.Operands.TheVariants.{Any, Atoms, Numbers, AtomAndNumbers}
use Rattle.clvm_spec.specs.OperatorTable.{Operator, operator}
use Rattle.clvm_spec.specs.ColumnLaws.{rows_on_values, IsAtMost, HasCount, CountsAreColumns, operand_fault, pair_fault, atom_fault, number_fault, first_fault, KindsAreColumns, NoOtherIsWrong, OnlyNumbersAreTooWide, CostsAreColumns}

abbrev atom_length : Tree → ℕ
atom_length tree = length (bytes_of tree)

-- ---- what is to hold of what a row gives, once no operand is wrong by its kind

FaultOf : Operands → Why → Type 0
FaultOf kind NoStep = Unit {0}
FaultOf kind NotAList = Unit {0}
FaultOf kind WrongCount = ⊥
FaultOf kind (WrongOperand place) = (kind ≡ AtomAndNumbers) × (place ≡ 1)
FaultOf kind (Raised list) = Unit {0}
FaultOf kind ZeroDivisor = Unit {0}
FaultOf kind WrongShift = Unit {0}
FaultOf kind NoOperator = Unit {0}

GivenOf : Operands → (cost size : ℕ) → Applied → Type 0
GivenOf kind cost size (Gives value paid pairs bytes) = (cost ≤ paid) × (1 ≤ paid)
GivenOf kind cost size (Fails why) = FaultOf kind why
GivenOf kind cost size TooWide = size < 2 ^ 64 → kind ≡ Numbers

record IsGiven (kind : Operands) (cost size : ℕ) (a : Applied) : Type 0 where
  fact : GivenOf kind cost size a

module _ {kind : Operands} {cost size : ℕ} where
  gives : {value : Tree} {paid pairs bytes : ℕ} → cost ≤ paid → 1 ≤ paid → IsGiven kind cost size (Gives value paid pairs bytes)
  unfolding GivenOf
  gives h k = record { fact = (h, k) }

  fails : {why : Why} → FaultOf kind why → IsGiven kind cost size (Fails why)
  unfolding GivenOf
  fails h = record { fact = h }

  either : (b : Bool) (x y : Applied) → IsGiven kind cost size x → IsGiven kind cost size y → IsGiven kind cost size (cond b x y)
  either true x y p q = p
  either false x y p q = q

wide : {cost size : ℕ} → IsGiven Numbers cost size TooWide
unfolding GivenOf
wide = record { fact = λ small. refl }

-- ---- operands by their kind, from the first to the last

data IsFault : Applied → Type 0 where
  wrong : (place : ℕ) → IsFault (Fails (WrongOperand place))
  long : IsFault TooWide

data Reads (kind : Operands) (cost size place : ℕ) (operands : List Tree) : Applied → Type 0 where
  faulty : (fault : Applied) → IsFault fault → first_fault kind place operands ≡ Some fault → Reads kind cost size place operands fault
  fair : (a : Applied) → first_fault kind place operands ≡ None → IsGiven kind cost size a → Reads kind cost size place operands a

module _ (kind : Operands) (cost size place : ℕ) (operand : Tree) (operands : List Tree) where
  abbrev first_or_later : Option Applied → Option Applied
  first_or_later fault = option_or fault (first_fault kind (suc place) operands)

  later : (a : Applied) → operand_fault kind place operand ≡ None → Reads kind cost size (suc place) operands a → Reads kind cost size place (operand ∷ operands) a
  later a none (faulty fault is e) = faulty fault is (ap first_or_later none ∙ e)
  later a none (fair b e given) = fair b (ap first_or_later none ∙ e) given

  at_once : (fault : Applied) → IsFault fault → operand_fault kind place operand ≡ Some fault → Reads kind cost size place (operand ∷ operands) fault
  at_once fault is e = faulty fault is (ap first_or_later e)

in_pair : {kind : Operands} {cost size : ℕ} (place : ℕ) (operand : Tree) (operands : List Tree) (go : Tree → Tree → Applied) → ((t : Tree) → operand_fault kind place t ≡ pair_fault place t)
    → ((a b : Tree) → Reads kind cost size (suc place) operands (go a b)) → Reads kind cost size place (operand ∷ operands) (op.pair_at place operand go)
in_pair place (Atom bytes) operands go e p = at_once _ _ _ place (Atom bytes) operands _ (wrong place) (e (Atom bytes))
in_pair place (Pair a b) operands go e p = later _ _ _ place (Pair a b) operands _ (e (Pair a b)) (p a b)

in_atom : {kind : Operands} {cost size : ℕ} (place : ℕ) (operand : Tree) (operands : List Tree) (go : List ℕ → Applied) → ((t : Tree) → operand_fault kind place t ≡ atom_fault place t)
    → ((bytes : List ℕ) → operand ≡ Atom bytes → Reads kind cost size (suc place) operands (go bytes)) → Reads kind cost size place (operand ∷ operands) (op.atom_at place operand go)
in_atom place (Atom bytes) operands go e p = later _ _ _ place (Atom bytes) operands _ (e (Atom bytes)) (p bytes refl)
in_atom place (Pair a b) operands go e p = at_once _ _ _ place (Pair a b) operands _ (wrong place) (e (Pair a b))

by_length : {kind : Operands} {cost size : ℕ} (place : ℕ) (operand : Tree) (operands : List Tree) (a : Applied) (short : Bool) → operand_fault kind place operand ≡ cond short None (Some TooWide)
    → Reads kind cost size (suc place) operands a → Reads kind cost size place (operand ∷ operands) (cond short a TooWide)
by_length place operand operands a true e p = later _ _ _ place operand operands a e p
by_length place operand operands a false e p = at_once _ _ _ place operand operands _ long e

in_number : {kind : Operands} {cost size : ℕ} (place : ℕ) (operand : Tree) (operands : List Tree) (go : List ℕ → Applied) → ((t : Tree) → operand_fault kind place t ≡ number_fault place t)
    → ((bytes : List ℕ) → Reads kind cost size (suc place) operands (go bytes)) → Reads kind cost size place (operand ∷ operands) (op.number_at place operand go)
in_number place (Atom bytes) operands go e p = by_length place (Atom bytes) operands (go bytes) (is_short bytes) (e (Atom bytes)) (p bytes)
in_number place (Pair a b) operands go e p = at_once _ _ _ place (Pair a b) operands _ (wrong place) (e (Pair a b))

any_kind : (place : ℕ) (operands : List Tree) → first_fault Any place operands ≡ None
any_kind place [] = refl
any_kind place (operand ∷ operands) = any_kind (suc place) operands

in_atoms : {cost size : ℕ} (place : ℕ) (operands : List Tree) (go : List (List ℕ) → Applied) → ((atoms : List (List ℕ)) → IsGiven Atoms cost size (go atoms)) → Reads Atoms cost size place operands (op.each_read op.atom_at place operands go)
in_atoms place [] go p = fair _ refl (p [])
in_atoms place (operand ∷ operands) go p =
    in_atom place operand operands _ (λ t. refl) (λ bytes is. in_atoms (suc place) operands (λ more. go (bytes ∷ more)) (λ more. p (bytes ∷ more)))

in_numbers : {cost size : ℕ} (place : ℕ) (operands : List Tree) (go : List (List ℕ) → Applied) → ((atoms : List (List ℕ)) → IsGiven Numbers cost size (go atoms)) → Reads Numbers cost size place operands (op.each_read op.number_at place operands go)
in_numbers place [] go p = fair _ refl (p [])
in_numbers place (operand ∷ operands) go p =
    in_number place operand operands _ (λ t. refl) (λ bytes. in_numbers (suc place) operands (λ more. go (bytes ∷ more)) (λ more. p (bytes ∷ more)))

-- ---- how many operands there are

data Comes (row : Operator) (operands : List Tree) : Applied → Type 0 where
  miscounted : (¬ HasCount row operands) → Comes row operands (Fails WrongCount)
  counted : (a : Applied) → HasCount row operands → Reads row.kind row.cost (sum_by atom_length operands) 0 operands a → Comes row operands a

ReadsAll : Operator → List Tree → Applied → Type 0
ReadsAll row operands a = Reads row.kind row.cost (sum_by atom_length operands) 0 operands a

module _ (least most : ℕ) (row : Operator) (least_is : row.least ≡ least) (most_is : row.most ≡ Some most) where
  few : (operands : List Tree) → length operands < least → Comes row operands (Fails WrongCount)
  few operands h = miscounted (λ has. absurd (omega (arith, has.least, least_is)))

  many : (operands : List Tree) → most < length operands → Comes row operands (Fails WrongCount)
  many operands h = miscounted (λ has. let k : length operands ≤ most = subst (λ (m : Option ℕ). IsAtMost m (length operands)) most_is has.most in absurd (omega arith))

  right : (operands : List Tree) (a : Applied) → least ≤ length operands → length operands ≤ most → ReadsAll row operands a → Comes row operands a
  unfolding ReadsAll
  right operands a h k reads =
      counted a (record { least = omega (arith, least_is); most = subst (λ (m : Option ℕ). IsAtMost m (length operands)) (sym most_is) k }) reads

module _ (row : Operator) where
  in_one : (operands : List Tree) (go : Tree → Applied) → row.least ≡ 1 → row.most ≡ Some 1 → ((a : Tree) → ReadsAll row (a ∷ []) (go a)) → Comes row operands (op.one operands go)
  in_one [] go l m p = few 1 1 row l m _ (omega arith)
  in_one (a ∷ []) go l m p = right 1 1 row l m _ _ (omega arith) (omega arith) (p a)
  in_one (a ∷ b ∷ more) go l m p = many 1 1 row l m _ (omega arith)

  in_two : (operands : List Tree) (go : Tree → Tree → Applied) → row.least ≡ 2 → row.most ≡ Some 2 → ((a b : Tree) → ReadsAll row (a ∷ b ∷ []) (go a b)) → Comes row operands (op.two operands go)
  in_two [] go l m p = few 2 2 row l m _ (omega arith)
  in_two (a ∷ []) go l m p = few 2 2 row l m _ (omega arith)
  in_two (a ∷ b ∷ []) go l m p = right 2 2 row l m _ _ (omega arith) (omega arith) (p a b)
  in_two (a ∷ b ∷ d ∷ more) go l m p = many 2 2 row l m _ (omega arith)

  in_three : (operands : List Tree) (go : Tree → Tree → Tree → Applied) → row.least ≡ 3 → row.most ≡ Some 3 → ((a b d : Tree) → ReadsAll row (a ∷ b ∷ d ∷ []) (go a b d)) → Comes row operands (op.three operands go)
  in_three [] go l m p = few 3 3 row l m _ (omega arith)
  in_three (a ∷ []) go l m p = few 3 3 row l m _ (omega arith)
  in_three (a ∷ b ∷ []) go l m p = few 3 3 row l m _ (omega arith)
  in_three (a ∷ b ∷ d ∷ []) go l m p = right 3 3 row l m _ _ (omega arith) (omega arith) (p a b d)
  in_three (a ∷ b ∷ d ∷ e ∷ more) go l m p = many 3 3 row l m _ (omega arith)

  in_two_or_three : (operands : List Tree) (go : Tree → Tree → Option Tree → Applied) → row.least ≡ 2 → row.most ≡ Some 3 → ((a b : Tree) → ReadsAll row (a ∷ b ∷ []) (go a b None))
      → ((a b d : Tree) → ReadsAll row (a ∷ b ∷ d ∷ []) (go a b (Some d))) → Comes row operands (op.two_or_three operands go)
  in_two_or_three [] go l m p q = few 2 3 row l m _ (omega arith)
  in_two_or_three (a ∷ []) go l m p q = few 2 3 row l m _ (omega arith)
  in_two_or_three (a ∷ b ∷ []) go l m p q = right 2 3 row l m _ _ (omega arith) (omega arith) (p a b)
  in_two_or_three (a ∷ b ∷ d ∷ []) go l m p q = right 2 3 row l m _ _ (omega arith) (omega arith) (q a b d)
  in_two_or_three (a ∷ b ∷ d ∷ e ∷ more) go l m p q = many 2 3 row l m _ (omega arith)

  in_any : (operands : List Tree) (a : Applied) → row.least ≡ 0 → row.most ≡ None → ReadsAll row operands a → Comes row operands a
  unfolding ReadsAll
  in_any operands a least most reads =
      counted a (record { least = omega (arith, least); most = subst (λ (m : Option ℕ). IsAtMost m (length operands)) (sym most) tt }) reads

-- ---- two atoms, and two numbers

module _ (row : Operator) (a b : Tree) (go : List ℕ → List ℕ → Applied) where
  atoms_of_two : row.kind ≡ Atoms → ((a b : List ℕ) (size : ℕ) → IsGiven Atoms row.cost size (go a b)) → ReadsAll row (a ∷ b ∷ []) (op.atom_at 0 a (λ a. op.atom_at 1 b (λ b. go a b)))
  unfolding ReadsAll
  atoms_of_two k p =
      let size = sum_by atom_length (a ∷ b ∷ []) in
      subst (λ (kind : Operands). Reads kind row.cost size 0 (a ∷ b ∷ []) (op.atom_at 0 a (λ a. op.atom_at 1 b (λ b. go a b)))) (sym k)
      (in_atom 0 a (b ∷ []) _ (λ t. refl) (λ x is. in_atom 1 b [] _ (λ t. refl) (λ y is. fair _ refl (p x y size))))

  numbers_of_two : row.kind ≡ Numbers → ((a b : List ℕ) (size : ℕ) → IsGiven Numbers row.cost size (go a b)) → ReadsAll row (a ∷ b ∷ []) (op.number_at 0 a (λ a. op.number_at 1 b (λ b. go a b)))
  unfolding ReadsAll
  numbers_of_two k p =
      let size = sum_by atom_length (a ∷ b ∷ []) in
      subst (λ (kind : Operands). Reads kind row.cost size 0 (a ∷ b ∷ []) (op.number_at 0 a (λ a. op.number_at 1 b (λ b. go a b)))) (sym k)
      (in_number 0 a (b ∷ []) _ (λ t. refl) (λ x. in_number 1 b [] _ (λ t. refl) (λ y. fair _ refl (p x y size))))

in_two_atoms : (row : Operator) (operands : List Tree) (go : List ℕ → List ℕ → Applied) → row.least ≡ 2 → row.most ≡ Some 2 → row.kind ≡ Atoms → ((a b : List ℕ) (size : ℕ) → IsGiven Atoms row.cost size (go a b)) → Comes row operands (op.two_atoms operands go)
in_two_atoms row operands go l m k p = in_two row operands _ l m (λ a b. atoms_of_two row a b go k p)

in_two_numbers : (row : Operator) (operands : List Tree) (go : List ℕ → List ℕ → Applied) → row.least ≡ 2 → row.most ≡ Some 2 → row.kind ≡ Numbers → ((a b : List ℕ) (size : ℕ) → IsGiven Numbers row.cost size (go a b)) → Comes row operands (op.two_numbers operands go)
in_two_numbers row operands go l m k p = in_two row operands _ l m (λ a b. numbers_of_two row a b go k p)

-- ---- what is given of them

module _ {cost size : ℕ} where
  in_held : {T : Type 0} {go : T → Applied} (held : Option T) → ((value : T) → IsGiven Numbers cost size (go value)) → IsGiven Numbers cost size (op.or_wide held go)
  in_held None p = wide
  in_held (Some value) p = p value

  in_new_number : (paid : ℕ) (n : ℤ) → cost ≤ paid → 1 ≤ paid → IsGiven Numbers cost size (op.new_number paid n)
  in_new_number paid n h k = in_held (if_fits n) (λ n. gives (omega arith) (omega arith))

  in_new_pair : (paid : ℕ) (a b : ℤ) → cost ≤ paid → 1 ≤ paid → IsGiven Numbers cost size (op.new_pair_of_numbers paid a b)
  in_new_pair paid a b h k = in_held (if_fits a) (λ a. in_held (if_fits b) (λ b. gives (omega arith) (omega arith)))

  in_from_left : (step : ℤ → ℤ → ℤ) (so_far : ℤ) (ns : List ℤ) (paid : ℕ) → cost ≤ paid → 1 ≤ paid → IsGiven Numbers cost size (op.from_left step so_far ns (op.new_number paid))
  in_from_left step so_far [] paid h k = in_new_number paid so_far h k
  in_from_left step so_far (n ∷ ns) paid h k = in_held (if_fits (step so_far n)) (λ next. in_from_left step next ns paid h k)

in_sum : {size : ℕ} (cost : ℕ) (step : ℤ → ℤ → ℤ) (so_far : ℤ) (ns : List ℤ) (atoms : List (List ℕ)) → 1 ≤ cost → IsGiven Numbers cost size (op.from_left step so_far ns (op.new_number (cost + op.terms_cost atoms)))
in_sum cost step so_far ns atoms h = in_from_left step so_far ns (cost + op.terms_cost atoms) (omega arith) (omega arith)

in_product : {size : ℕ} (cost : ℕ) (first : List ℕ) (others : List (List ℕ)) → 1 ≤ cost
    → IsGiven Numbers cost size (op.from_left ◌*ℤ◌ (number first) (map number others) (op.new_number (cost + op.factors_cost (length first) (number first) others)))
in_product cost first others h = in_from_left ◌*ℤ◌ (number first) (map number others) (cost + op.factors_cost (length first) (number first) others) (omega arith) (omega arith)

-- the length of an atom, which 128 bits hold where it is below 2 ^ 64
in_length : (cost : ℕ) (a : Tree) (bytes : List ℕ) → 1 ≤ cost → a ≡ Atom bytes → IsGiven Atoms cost (sum_by atom_length (a ∷ [])) (op.new_number (cost + MEASURED_BYTE_COST * length bytes) (pos (length bytes)))
unfolding GivenOf
in_length cost a bytes h is =
    let size : sum_by atom_length (a ∷ []) ≡ length bytes = ap (λ (t : Tree). 0 + atom_length t) is ∙ omega arith in
    cond_both (fits_128 (pos (length bytes))) _ None (λ held. IsGiven Atoms cost (sum_by atom_length (a ∷ [])) (op.or_wide held (λ n. op.written (cost + MEASURED_BYTE_COST * length bytes) (shortest_atom n))))
    (λ e. gives (omega arith) (omega arith))
    (λ e. let large = ltb-false (length bytes) (2 ^ 127) e in record { fact = λ small. absurd (omega (arith, size)) })

in_quotient_and_remainder : {size : ℕ} (cost : ℕ) (a b : List ℕ) → 1 ≤ cost
    → IsGiven Numbers cost size (op.unless_zero (number b) (op.new_pair_of_numbers (cost + DIVISION_BYTE_COST * (length a + length b)) (quotient (number a) (number b)) (remainder (number a) (number b))))
unfolding FaultOf
in_quotient_and_remainder cost a b h =
    either (is_zero (number b)) (Fails ZeroDivisor) _ (fails tt) (in_new_pair (cost + DIVISION_BYTE_COST * (length a + length b)) (quotient (number a) (number b)) (remainder (number a) (number b)) (omega arith) (omega arith))

in_part : {cost size : ℕ} (part : Option (List ℕ)) → 1 ≤ cost → IsGiven AtomAndNumbers cost size (op.part_or_fault cost part)
unfolding FaultOf
in_part None h = fails (refl, refl)
in_part (Some bytes) h = gives (omega arith) h

-- ---- the rows

IsColumned : Operator → Type 0
IsColumned row = (operands : List Tree) → Comes row operands (row.applied operands)

substr : Operator
substr = operator PART (codes "substr") 2 (Some 3) AtomAndNumbers PART_COST op.part_of

substr_columns : IsColumned substr
unfolding IsColumned ReadsAll substr
substr_columns operands = in_two_or_three _ operands _ refl refl
    (λ a start. in_atom 0 a (start ∷ []) _ (λ t. refl) (λ bytes is. in_number 1 start [] _ (λ t. refl) (λ start. fair _ refl (in_part _ (omega arith)))))
    (λ a start end. in_atom 0 a (start ∷ end ∷ []) _ (λ t. refl) (λ bytes is. in_number 1 start (end ∷ []) _ (λ t. refl) (λ start. in_number 2 end [] _ (λ t. refl) (λ end. fair _ refl (in_part _ (omega arith))))))

columns : AllByRecursion IsColumned rows_on_values
unfolding IsColumned ReadsAll FaultOf substr
columns = (
  (λ operands. in_three _ operands _ refl refl (λ a b d. fair _ refl (gives (omega arith) (omega arith)))),
  (
    (λ operands. in_two _ operands _ refl refl (λ a b. fair _ refl (gives (omega arith) (omega arith)))),
    (
      (λ operands. in_one _ operands _ refl refl (λ a. in_pair 0 a [] _ (λ t. refl) (λ first rest. fair _ refl (gives (omega arith) (omega arith))))),
      (
        (λ operands. in_one _ operands _ refl refl (λ a. in_pair 0 a [] _ (λ t. refl) (λ first rest. fair _ refl (gives (omega arith) (omega arith))))),
        (
          (λ operands. in_one _ operands _ refl refl (λ a. fair _ refl (gives (omega arith) (omega arith)))),
          (
            (λ operands. in_any _ operands _ refl refl (fair _ (any_kind 0 operands) (fails tt))),
            (
              (λ operands. in_two_atoms _ operands _ refl refl refl (λ a b size. gives (omega arith) (omega arith))),
              (
                (λ operands. in_two_atoms _ operands _ refl refl refl (λ a b size. gives (omega arith) (omega arith))),
                (
                  (λ operands. in_any _ operands _ refl refl (in_atoms 0 operands _ (λ atoms. gives (omega arith) (omega arith)))),
                  (
                    substr_columns,
                    (
                      (λ operands. in_one _ operands _ refl refl (λ a. in_atom 0 a [] _ (λ t. refl) (λ bytes is. fair _ refl (in_length LENGTH_COST a bytes (omega arith) is)))),
                      (
                        (λ operands. in_any _ operands _ refl refl (in_atoms 0 operands _ (λ atoms. gives (omega arith) (omega arith)))),
                        (
                          (λ operands. in_any _ operands _ refl refl (in_numbers 0 operands _ (λ atoms. in_sum SUM_COST ◌+ℤ◌ (pos 0) (map number atoms) atoms (omega arith)))),
                          (
                            (λ operands. in_any _ operands _ refl refl (in_numbers 0 operands _ (λ atoms. in_sum DIFFERENCE_COST ◌-ℤ◌ (number (get_or atoms 0 [])) (map number (drop 1 atoms)) atoms (omega arith)))),
                            (
                              (λ operands. in_any _ operands _ refl refl (in_numbers 0 operands _ (λ atoms. in_product PRODUCT_COST (get_or atoms 0 (1 ∷ [])) (drop 1 atoms) (omega arith)))),
                              (
                                (λ operands. in_two_numbers _ operands _ refl refl refl (λ a b size. either _ _ _ (fails tt) (in_held _ (λ n. gives (omega arith) (omega arith))))),
                                (
                                  (λ operands. in_two_numbers _ operands _ refl refl refl (λ a b size. in_quotient_and_remainder DIVISION_COST a b (omega arith))),
                                  (
                                    (λ operands. in_two_numbers _ operands _ refl refl refl (λ a b size. gives (omega arith) (omega arith))),
                                    (
                                      (λ operands. in_two_numbers _ operands _ refl refl refl (λ a by size. either _ _ _ (in_held _ (λ n. gives (omega arith) (omega arith))) (fails tt))),
                                      (
                                        (λ operands. in_two_numbers _ operands _ refl refl refl (λ a by size. either _ _ _ (in_held _ (λ n. gives (omega arith) (omega arith))) (fails tt))),
                                        (
                                          (λ operands. in_any _ operands _ refl refl (in_numbers 0 operands _ (λ atoms. in_held _ (λ n. gives (omega arith) (omega arith))))),
                                          (
                                            (λ operands. in_any _ operands _ refl refl (in_numbers 0 operands _ (λ atoms. in_held _ (λ n. gives (omega arith) (omega arith))))),
                                            (
                                              (λ operands. in_any _ operands _ refl refl (in_numbers 0 operands _ (λ atoms. in_held _ (λ n. gives (omega arith) (omega arith))))),
                                              (
                                                (λ operands. in_one _ operands _ refl refl (λ a. in_number 0 a [] _ (λ t. refl) (λ bytes. fair _ refl (in_held _ (λ n. gives (omega arith) (omega arith)))))),
                                                (
                                                  (λ operands. in_one _ operands _ refl refl (λ a. fair _ refl (gives (omega arith) (omega arith)))),
                                                  (
                                                    (λ operands. in_any _ operands _ refl refl (fair _ (any_kind 0 operands) (gives (omega arith) (omega arith)))),
                                                    (
                                                      (λ operands. in_any _ operands _ refl refl (fair _ (any_kind 0 operands) (gives (omega arith) (omega arith)))),
                                                      tt,
                                                    ),
                                                  ),
                                                ),
                                              ),
                                            ),
                                          ),
                                        ),
                                      ),
                                    ),
                                  ),
                                ),
                              ),
                            ),
                          ),
                        ),
                      ),
                    ),
                  ),
                ),
              ),
            ),
          ),
        ),
      ),
    ),
  ),
)

-- ---- the laws

is_fault_count : (a : Applied) → IsFault a → a ≡ Fails WrongCount → ⊥
is_fault_count a (wrong place) e = cc
is_fault_count a long e = cc

is_fault_value : {value : Tree} {cost pairs bytes : ℕ} (a : Applied) → IsFault a → a ≡ Gives value cost pairs bytes → ⊥
is_fault_value a (wrong place) e = cc
is_fault_value a long e = cc

counts_of : (row : Operator) (operands : List Tree) (a : Applied) → Comes row operands a → (a ≡ Fails WrongCount) ↔ (¬ HasCount row operands)
unfolding GivenOf FaultOf
counts_of row operands a (miscounted lacks) = (λ e. lacks, λ n. refl)
counts_of row operands a (counted b has (faulty fault is e)) = (λ same. absurd (is_fault_count fault is same), λ n. absurd (n has))
counts_of row operands a (counted b has (fair given e fact)) = (λ same. absurd (subst (GivenOf row.kind row.cost (sum_by atom_length operands)) same fact.fact), λ n. absurd (n has))

kinds_of : (row : Operator) (operands : List Tree) (a fault : Applied) → Comes row operands a → HasCount row operands → first_fault row.kind 0 operands ≡ Some fault → a ≡ fault
kinds_of row operands a fault (miscounted lacks) has e = absurd (lacks has)
kinds_of row operands a fault (counted b counts (faulty other is k)) has e = cc
kinds_of row operands a fault (counted b counts (fair given k fact)) has e = cc

others_of : (row : Operator) (operands : List Tree) (place : ℕ) (a : Applied) → Comes row operands a → first_fault row.kind 0 operands ≡ None → a ≡ Fails (WrongOperand place) → (row.kind ≡ AtomAndNumbers) × (place ≡ 1)
unfolding GivenOf FaultOf
others_of row operands place a (miscounted lacks) e same = cc
others_of row operands place a (counted b counts (faulty fault is k)) e same = cc
others_of row operands place a (counted b counts (fair given k fact)) e same = subst (GivenOf row.kind row.cost (sum_by atom_length operands)) same fact.fact

held_of : (row : Operator) (operands : List Tree) (a : Applied) → Comes row operands a → first_fault row.kind 0 operands ≡ None → sum_by atom_length operands < 2 ^ 64 → a ≡ TooWide → row.kind ≡ Numbers
unfolding GivenOf
held_of row operands a (miscounted lacks) e small same = cc
held_of row operands a (counted b counts (faulty fault is k)) e small same = cc
held_of row operands a (counted b counts (fair given k fact)) e small same = subst (GivenOf row.kind row.cost (sum_by atom_length operands)) same fact.fact small

costs_of : (row : Operator) (operands : List Tree) (value : Tree) (cost pairs bytes : ℕ) (a : Applied) → Comes row operands a → a ≡ Gives value cost pairs bytes → (row.cost ≤ cost) × (1 ≤ cost)
unfolding GivenOf
costs_of row operands value cost pairs bytes a (miscounted lacks) same = cc
costs_of row operands value cost pairs bytes a (counted b counts (faulty fault is k)) same = absurd (is_fault_value fault is same)
costs_of row operands value cost pairs bytes a (counted b counts (fair given k fact)) same = subst (GivenOf row.kind row.cost (sum_by atom_length operands)) same fact.fact

all_columned : All IsColumned rows_on_values
all_columned = All-from_recursion IsColumned rows_on_values columns

pub counts_law : CountsAreColumns
unfolding IsColumned
counts_law k d h operands = counts_of _ operands _ (all_columned k d h operands)

pub kinds_law : KindsAreColumns
unfolding IsColumned
kinds_law k d h operands fault = kinds_of _ operands _ fault (all_columned k d h operands)

pub others_law : NoOtherIsWrong
unfolding IsColumned
others_law k d h operands place = others_of _ operands place _ (all_columned k d h operands)

pub held_law : OnlyNumbersAreTooWide
unfolding IsColumned
held_law k d h operands = held_of _ operands _ (all_columned k d h operands)

pub costs_law : CostsAreColumns
unfolding IsColumned
costs_law k d h operands value cost pairs bytes e = (costs_of _ operands value cost pairs bytes _ (all_columned k d h operands) e).0

-- Each row costs something too, for `x` gives nothing.
abbrev pub CostsSomething : Operator → Type 0
CostsSomething row = (operands : List Tree) (value : Tree) (cost pairs bytes : ℕ) → row.applied operands ≡ Gives value cost pairs bytes → 1 ≤ cost

pub some_law : All CostsSomething rows_on_values
unfolding IsColumned
some_law k d h operands value cost pairs bytes e = (costs_of _ operands value cost pairs bytes _ (all_columned k d h operands) e).1
