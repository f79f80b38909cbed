-- What the laws of columns say of single operands.
use Rattle.std.specs.Prelude.{◌≡◌, [], ◌∷◌, replicate, Some, None, refl}
use Rattle.std.proofs.Common.{arith}
use Rattle.clvm_spec.specs.Tree.{Tree, Atom, Pair, nil}
use Rattle.clvm_spec.specs.Outcomes.{WrongOperand, Fails, TooWide}
use Rattle.clvm_spec.specs.declared.operands.Operands.TheVariants.{Any, Pairs, Atoms, Numbers, AtomAndNumbers}
use Rattle.clvm_spec.specs.ColumnLaws.{IsAtMost, operand_fault, first_fault}

-- a number, an atom that is no number, and a pair
abbrev five : Tree
five = Atom (5 ∷ [])

abbrev long : Tree
long = Atom (replicate 17 1)

abbrev both : Tree
both = Pair nil nil

each_kind :
    (operand_fault Any 0 both ≡ None) × (operand_fault Any 0 long ≡ None)
    × (operand_fault Pairs 0 both ≡ None) × (operand_fault Pairs 0 five ≡ Some (Fails (WrongOperand 0)))
    × (operand_fault Atoms 1 long ≡ None) × (operand_fault Atoms 1 both ≡ Some (Fails (WrongOperand 1)))
    × (operand_fault Numbers 2 five ≡ None) × (operand_fault Numbers 2 (Atom (replicate 16 1)) ≡ None)
    × (operand_fault Numbers 2 long ≡ Some TooWide) × (operand_fault Numbers 2 both ≡ Some (Fails (WrongOperand 2)))
    × (operand_fault AtomAndNumbers 0 long ≡ None) × (operand_fault AtomAndNumbers 1 long ≡ Some TooWide)
    × (operand_fault AtomAndNumbers 0 both ≡ Some (Fails (WrongOperand 0))) × (operand_fault AtomAndNumbers 2 both ≡ Some (Fails (WrongOperand 2)))
each_kind = (refl, refl, refl, refl, refl, refl, refl, refl, refl, refl, refl, refl, refl, refl)

-- The first from the front is told.
the_first :
    (first_fault Numbers 0 [] ≡ None) × (first_fault Numbers 0 (five ∷ five ∷ []) ≡ None)
    × (first_fault Numbers 0 (five ∷ both ∷ long ∷ []) ≡ Some (Fails (WrongOperand 1)))
    × (first_fault Numbers 0 (five ∷ long ∷ both ∷ []) ≡ Some TooWide)
    × (first_fault AtomAndNumbers 0 (long ∷ five ∷ both ∷ []) ≡ Some (Fails (WrongOperand 2)))
the_first = (refl, refl, refl, refl, refl)

counts : IsAtMost None 5 × IsAtMost (Some 3) 3 × (IsAtMost (Some 3) 4 → ⊥)
counts = (tt, omega arith, λ h. absurd (omega (arith, h)))
