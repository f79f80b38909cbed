-- Shifts either way.
use Rattle.std.proofs.Common.{◌≡◌, ℕ, ◌+◌, ◌*◌, ℤ, pos, true, cond, Option, List, length, sym, ap, ap₂, ◌∙◌}
use Rattle.std.proofs.lemmas.Bool.{cond-true}
use Rattle.clvm_spec.specs.declared.costs.TheConstants.{SHIFT_BYTE_COST}
use Rattle.clvm_spec.specs.Tree.{Tree}
use Rattle.clvm_spec.specs.Numbers.{number, unsigned, shortest_atom}
use Rattle.clvm_spec.specs.Arithmetic.{if_fits, is_shift, shifted}
use Rattle.clvm_spec.specs.Outcomes.{Applied, Fails, WrongShift}
use Rattle.clvm_spec.specs.Operators.{two_numbers, or_wide, new_shifted, written, shift_of_number, shift_of_bits}
use Rattle.clvm_ops.proofs.Answered.{asked_once}

abbrev shift : (cost size : ℕ) (n by : ℤ) → Applied
shift cost size n by = cond (is_shift by) (new_shifted cost size (shifted n by)) (Fails WrongShift)

shift_held : (cost size : ℕ) (n by : ℤ) (result : Option ℤ) → is_shift by ≡ true → result ≡ if_fits (shifted n by) → shift cost size n by ≡ or_wide result (new_shifted cost size)
shift_held cost size n by result fair is =
    cond-true _ (new_shifted cost size (shifted n by)) (Fails WrongShift) fair ∙ sym (asked_once (shifted n by) (λ m n. written (cost + SHIFT_BYTE_COST * (size + length (shortest_atom m))) (shortest_atom n)))
    ∙ ap (λ held. or_wide held (new_shifted cost size)) (sym is)

pub shift_of_number_is : (cost : ℕ) (operands : List Tree) (x y : List ℕ) (n by : ℤ) (result : Option ℤ) → ((go : List ℕ → List ℕ → Applied) → two_numbers operands go ≡ go x y) → n ≡ number x → by ≡ number y
    → is_shift by ≡ true → result ≡ if_fits (shifted n by) → shift_of_number cost operands ≡ or_wide result (new_shifted cost (length x))
shift_of_number_is cost operands x y n by result read first second fair is =
    read (λ a by. shift cost (length a) (number a) (number by)) ∙ ap₂ (shift cost (length x)) (sym first) (sym second) ∙ shift_held cost (length x) n by result fair is

pub shift_of_bits_is : (cost : ℕ) (operands : List Tree) (x y : List ℕ) (n : ℕ) (by : ℤ) (result : Option ℤ) → ((go : List ℕ → List ℕ → Applied) → two_numbers operands go ≡ go x y) → n ≡ unsigned x → by ≡ number y
    → is_shift by ≡ true → result ≡ if_fits (shifted (pos n) by) → shift_of_bits cost operands ≡ or_wide result (new_shifted cost (length x))
shift_of_bits_is cost operands x y n by result read first second fair is =
    read (λ a by. shift cost (length a) (pos (unsigned a)) (number by)) ∙ ap₂ (λ k b. shift cost (length x) (pos k) b) (sym first) (sym second) ∙ shift_held cost (length x) (pos n) by result fair is
