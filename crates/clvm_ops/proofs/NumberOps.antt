-- Operators on numbers, by what is read of their operands.
use Rattle.std.proofs.Common.{◌≡◌, ℕ, ◌+◌, ◌*◌, ℤ, pos, ◌+ℤ◌, Bool, true, false, Option, List, [], ◌∷◌, length, map, sym, ap, ap₂, ◌∙◌, arith}
use Rattle.std.proofs.lemmas.Bool.{cond-false}
use Rattle.clvm_spec.specs.declared.costs.TheConstants.{TERM_COST, TERM_BYTE_COST, QUOTIENT_BYTE_COST, GREATER_BYTE_COST, BITS_COST, BITS_BYTE_COST, COMPLEMENT_BYTE_COST}
use Rattle.clvm_spec.specs.Tree.{Tree, Atom}
use Rattle.clvm_spec.specs.Numbers.{number, shortest_atom, is_short}
use Rattle.clvm_spec.specs.Arithmetic.{if_fits, is_zero, quotient, complement}
use Rattle.clvm_spec.specs.Outcomes.{Applied, Fails, ZeroDivisor}
use Rattle.clvm_spec.specs.Operators.{two_numbers, from_left, or_wide, new_number, written, terms_cost, sum_of, quotient_of, is_greater, greater_flag, complement_of, Bitwise, joined, bits_of, unless_zero, free, flag, lengths}
use Rattle.clvm_tree.specs.Operators.{trees_at}
use Rattle.clvm_tree.specs.declared.Node.{Node}
use Rattle.clvm_ops.specs.OperandAtoms.{atoms_at, HaveNumbers}
use Rattle.clvm_ops.specs.Folds.{numbers_at}
use Rattle.clvm_ops.proofs.Answered.{asked_once}
use Rattle.clvm_ops.proofs.NodeLists.{count_atoms}
use Rattle.clvm_ops.proofs.ReadLaws.{number_read}

pub terms_cost_is : (cost : ℕ) (trees : List Tree) (operands : List Node) (size : ℕ) → HaveNumbers trees operands size → cost + terms_cost (atoms_at trees operands) ≡ cost + TERM_COST * length operands + TERM_BYTE_COST * size
terms_cost_is cost trees operands size have = omega (arith, have.size_is, count_atoms trees operands)

pub sum_of_is : (cost : ℕ) (trees : List Tree) (operands : List Node) (size : ℕ) (sum : Option ℤ) → HaveNumbers trees operands size
    → ((go : ℤ → Applied) → from_left ◌+ℤ◌ (pos 0) (numbers_at trees operands) go ≡ or_wide sum go) → sum_of cost (trees_at trees operands) ≡ or_wide sum (new_number (cost + TERM_COST * length operands + TERM_BYTE_COST * size))
sum_of_is cost trees operands size sum have is =
    have.read (λ atoms. from_left ◌+ℤ◌ (pos 0) (map number atoms) (new_number (cost + terms_cost atoms))) ∙ is (new_number (cost + terms_cost (atoms_at trees operands)))
    ∙ ap (λ cost. or_wide sum (new_number cost)) (terms_cost_is cost trees operands size have)

pub quotient_of_is : (cost : ℕ) (operands : List Tree) (x y : List ℕ) (n d : ℤ) (held : Option ℤ) → ((go : List ℕ → List ℕ → Applied) → two_numbers operands go ≡ go x y) → n ≡ number x → d ≡ number y
    → is_zero d ≡ false → held ≡ if_fits (quotient n d) → quotient_of cost operands ≡ or_wide held (new_number (cost + QUOTIENT_BYTE_COST * (length x + length y)))
quotient_of_is cost operands x y n d held read first second some is =
    let costs = cost + QUOTIENT_BYTE_COST * (length x + length y) in
    read (λ a b. unless_zero (number b) (new_number (cost + QUOTIENT_BYTE_COST * (length a + length b)) (quotient (number a) (number b))))
    ∙ cond-false _ (Fails ZeroDivisor) (new_number costs (quotient (number x) (number y))) (ap is_zero (sym second) ∙ some)
    ∙ ap₂ (λ a b. new_number costs (quotient a b)) (sym first) (sym second)
    ∙ sym (asked_once (quotient n d) (λ _ n. written costs (shortest_atom n))) ∙ ap (λ held. or_wide held (new_number costs)) (sym is)

pub greater_flag_is : (cost : ℕ) (operands : List Tree) (x y : List ℕ) (greater : Bool) → ((go : List ℕ → List ℕ → Applied) → two_numbers operands go ≡ go x y) → greater ≡ is_greater x y
    → greater_flag cost operands ≡ free (flag greater) (cost + GREATER_BYTE_COST * (length x + length y))
greater_flag_is cost operands x y greater read is =
    read (λ a b. free (flag (is_greater a b)) (cost + GREATER_BYTE_COST * (length a + length b))) ∙ ap (λ g. free (flag g) (cost + GREATER_BYTE_COST * (length x + length y))) (sym is)

pub complement_of_is : (cost : ℕ) (operands : List Tree) (a : Tree) (bytes : List ℕ) (n : ℤ) → operands ≡ a ∷ [] → a ≡ Atom bytes → is_short bytes ≡ true → n ≡ complement (number bytes)
    → complement_of cost operands ≡ new_number (cost + COMPLEMENT_BYTE_COST * length bytes) n
complement_of_is cost operands a bytes n list is short e =
    ap (complement_of cost) list ∙ number_read 0 a bytes (λ a. new_number (cost + COMPLEMENT_BYTE_COST * length a) (complement (number a))) is short ∙ ap (new_number (cost + COMPLEMENT_BYTE_COST * length bytes)) (sym e)

pub bits_of_is : (cost : ℕ) (bitwise : Bitwise) (trees : List Tree) (operands : List Node) (size : ℕ) (n : ℤ) → HaveNumbers trees operands size → n ≡ joined bitwise (numbers_at trees operands)
    → bits_of bitwise cost (trees_at trees operands) ≡ new_number (cost + BITS_COST * length operands + BITS_BYTE_COST * size) n
bits_of_is cost bitwise trees operands size n have is =
    let costs : cost + BITS_COST * length (atoms_at trees operands) + BITS_BYTE_COST * lengths (atoms_at trees operands) ≡ cost + BITS_COST * length operands + BITS_BYTE_COST * size = omega (arith, have.size_is, count_atoms trees operands) in
    have.read (λ atoms. new_number (cost + BITS_COST * length atoms + BITS_BYTE_COST * lengths atoms) (joined bitwise (map number atoms))) ∙ ap₂ new_number costs (sym is)
