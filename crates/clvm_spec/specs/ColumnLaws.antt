-- What the columns of the operator table say of the operators: laws over each row but those of `q` and `a`, which
-- evaluation treats. They are this project's own.
use Rattle.std.specs.Prelude.{◌≡◌, ℕ, zero, suc, ◌<◌, ◌≤◌, ◌^◌, ◌↔◌, ⊤, List, [], ◌∷◌, length, drop, sum_by, if◌then◌else◌, Option, Some, None}
use Rattle.std.specs.Option.{option_or}
use Rattle.std.specs.List.{All}
use Rattle.clvm_spec.specs.Numbers.{is_short}
use Rattle.clvm_spec.specs.Tree.{Tree, Atom, Pair, bytes_of}
use Rattle.clvm_spec.specs.Outcomes.{WrongCount, WrongOperand, Applied, Gives, Fails, TooWide}
use Rattle.clvm_spec.specs.declared.operands.Operands.{Operands}
use Rattle.clvm_spec.specs.declared.operands.Operands.TheVariants.{Any, Pairs, Atoms, Numbers, AtomAndNumbers}
use Rattle.clvm_spec.specs.OperatorTable.{Operator, operators}

abbrev pub rows_on_values : List Operator
rows_on_values = drop 2 operators

-- ---- how many operands

abbrev pub IsAtMost : Option ℕ → ℕ → Type 0
IsAtMost None count = ⊤
IsAtMost (Some most) count = count ≤ most

pub record HasCount (row : Operator) (operands : List Tree) : Type 0 where
  pub least : row.least ≤ length operands
  pub most : IsAtMost row.most (length operands)

-- The count is wrong exactly where it isn't from the least to the most.
abbrev pub CountsAreColumns : Type 0
CountsAreColumns = All (λ row. (operands : List Tree) → (row.applied operands ≡ Fails WrongCount) ↔ (¬ HasCount row operands)) rows_on_values

-- ---- which operand is wrong

abbrev pub pair_fault : ℕ → Tree → Option Applied
pair_fault place (Atom bytes) = Some (Fails (WrongOperand place))
pair_fault place (Pair first rest) = None

abbrev pub atom_fault : ℕ → Tree → Option Applied
atom_fault place (Atom bytes) = None
atom_fault place (Pair first rest) = Some (Fails (WrongOperand place))

-- A number is an atom of at most 16 bytes.
abbrev pub number_fault : ℕ → Tree → Option Applied
number_fault place (Atom bytes) = if is_short bytes then None else Some TooWide
number_fault place (Pair first rest) = Some (Fails (WrongOperand place))

-- what an operand at this place is where it isn't of the kind
abbrev pub operand_fault : Operands → ℕ → Tree → Option Applied
operand_fault Any place operand = None
operand_fault Pairs place operand = pair_fault place operand
operand_fault Atoms place operand = atom_fault place operand
operand_fault Numbers place operand = number_fault place operand
operand_fault AtomAndNumbers zero operand = atom_fault 0 operand
operand_fault AtomAndNumbers (suc place) operand = number_fault (suc place) operand

-- the same of operands from this place on: that of the first that isn't
abbrev pub first_fault : Operands → ℕ → List Tree → Option Applied
first_fault kind place [] = None
first_fault kind place (operand ∷ operands) = option_or (operand_fault kind place operand) (first_fault kind (suc place) operands)

-- Where the count is right, the first operand that isn't of the row's kind is the fault.
abbrev pub KindsAreColumns : Type 0
KindsAreColumns = All (λ row. (operands : List Tree) (fault : Applied) → HasCount row operands → first_fault row.kind 0 operands ≡ Some fault → row.applied operands ≡ fault) rows_on_values

-- Where each is of its kind, none is wrong, but for the range that isn't within the atom, whose fault stands at operand 1.
abbrev pub NoOtherIsWrong : Type 0
NoOtherIsWrong = All (λ row. (operands : List Tree) (place : ℕ) → first_fault row.kind 0 operands ≡ None → row.applied operands ≡ Fails (WrongOperand place) → (row.kind ≡ AtomAndNumbers) × (place ≡ 1)) rows_on_values

-- Nor is one too wide, but of numbers, for atoms whose lengths together are below 2 ^ 64.
abbrev pub OnlyNumbersAreTooWide : Type 0
OnlyNumbersAreTooWide = All (λ row. (operands : List Tree) → first_fault row.kind 0 operands ≡ None → sum_by (λ operand. length (bytes_of operand)) operands < 2 ^ 64 → row.applied operands ≡ TooWide → row.kind ≡ Numbers) rows_on_values

-- ---- what it costs

-- Whatever a row gives costs at least the row's cost.
abbrev pub CostsAreColumns : Type 0
CostsAreColumns = All (λ row. (operands : List Tree) (value : Tree) (cost pairs bytes : ℕ) → row.applied operands ≡ Gives value cost pairs bytes → row.cost ≤ cost) rows_on_values
