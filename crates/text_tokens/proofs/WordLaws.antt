-- Digits, decimal and hexadecimal.
use Rattle.std.proofs.Common.{◌≡◌, ℕ, ◌*◌, ◌%◌, ◌==◌, ℤ, pos, negsuc, Bool, true, false, cond, ◌&&◌, List, [], ◌∷◌, length, drop, Some, None, Result, Ok, Err, is_ok, refl, sym, ◌∙◌, ap, subst, arith}
use Rattle.std.specs.Prelude.{FitsSigned}
use Rattle.std.specs.Int.{w128}
use Rattle.std.specs.List.{list_all, AllPass}
use Rattle.std.specs.Result.{result_ok, result_unwrap_or}
use Rattle.std.specs.Char.{is_ascii_digit, is_ascii_hexdigit}
use Rattle.std.specs.Str.{all_ascii_digits, IsAscii}
use Rattle.std.specs.Str.Parse.{IsNumeral, ParsesSigned, signed_digits_value, without_leading_sign, without_leading_plus}
use Rattle.std.proofs.lemmas.Bool.Decides.{nat_tests}
use Rattle.std.proofs.lemmas.List.Elements.{All-cons, All-head, All-nil, All-tail}
use Rattle.std.proofs.lemmas.Str.Ascii.{IsAscii-nil, IsAscii-cons}
use Rattle.std.proofs.lemmas.Str.Parse.{tells_all_ascii_digits, numerals_by_value}
use Rattle.hex.specs.Hex.{decode_of, is_hex_digit}
use Rattle.hex.specs.declared.error.FromHexError.{FromHexError}
use Rattle.hex.proofs.HexLemmas.{decode_of-ok, decode_of-digits}
use Rattle.clvm_spec.specs.Arithmetic.{fits_128, if_fits}
use Rattle.clvm_spec.specs.Tokens.{without_minus, is_number}

true_false : true ≡ false → ⊥
true_false e = cc

false_true : false ≡ true → ⊥
false_true e = cc

and_first : (a b : Bool) → (a && b) ≡ true → a ≡ true
and_first true b e = refl
and_first false b e = cc

and_second : (a b : Bool) → (a && b) ≡ true → b ≡ true
and_second true b e = e
and_second false b e = cc

pub all_digits : (digits : List ℕ) → all_ascii_digits digits ≡ list_all is_ascii_digit digits
all_digits [] = refl
all_digits (b ∷ digits) = ap (λ t. is_ascii_digit b && t) (all_digits digits)

-- ---- hexadecimal

same_digit : (c : ℕ) → is_hex_digit c ≡ is_ascii_hexdigit c
same_digit c = grind (arith, nat_tests)

all_pass : (digits : List ℕ) → list_all is_ascii_hexdigit digits ≡ true → AllPass is_hex_digit digits
all_pass [] e = All-nil (λ c. is_hex_digit c ≡ true)
all_pass (c ∷ digits) e =
    All-cons (λ c. is_hex_digit c ≡ true) c digits (same_digit c ∙ and_first (is_ascii_hexdigit c) (list_all is_ascii_hexdigit digits) e) (all_pass digits (and_second (is_ascii_hexdigit c) (list_all is_ascii_hexdigit digits) e))

passes_all : (digits : List ℕ) → AllPass is_hex_digit digits → list_all is_ascii_hexdigit digits ≡ true
passes_all [] h = refl
passes_all (c ∷ digits) h =
    let first : is_ascii_hexdigit c ≡ true = sym (same_digit c) ∙ All-head (λ c. is_hex_digit c ≡ true) c digits h in
    rw (first, passes_all digits (All-tail (λ c. is_hex_digit c ≡ true) c digits h)) refl

-- what is decoded is an even number of digits
decodes : (digits : List ℕ) → length digits % 2 ≡ 0 → list_all is_ascii_hexdigit digits ≡ true → is_ok (decode_of digits) ≡ true
decodes digits even e = ap is_ok (decode_of-digits digits even (all_pass digits e)).1

pub decoded : (digits : List ℕ) (found : Result (List ℕ) FromHexError) → decode_of digits ≡ found → is_ok found ≡ true → (length digits % 2 ≡ 0) × (list_all is_ascii_hexdigit digits ≡ true) × (length digits ≡ 2 * length (result_unwrap_or found []))
decoded digits (Ok bytes) e h = let all = decode_of-ok digits bytes e in (all.0, passes_all digits all.1, all.2)
decoded digits (Err why) e h = absurd (false_true h)

same_truth : (a b : Bool) → (a ≡ true → b ≡ true) → (b ≡ true → a ≡ true) → a ≡ b
same_truth true b f g = sym (f refl)
same_truth false true f g = g refl
same_truth false false f g = refl

pub hex_test : (digits : List ℕ) → length digits % 2 ≡ 0 → list_all is_ascii_hexdigit digits ≡ is_ok (decode_of digits)
hex_test digits even = same_truth (list_all is_ascii_hexdigit digits) (is_ok (decode_of digits)) (decodes digits even) (λ h. (decoded digits (decode_of digits) refl h).1)

-- ---- decimal

-- a word of a minus or none and digits
abbrev IsSigned : List ℕ → Type 0
IsSigned word = IsAscii word × IsNumeral 10 (without_leading_sign word)

pub parsed : {E : Type 0} (word : List ℕ) (found : Result ℤ E) → IsNumeral 10 (without_leading_sign word) → ParsesSigned w128 10 word found → result_ok found ≡ if_fits (signed_digits_value 10 word)
parsed word (Ok n) numeral h = ap Some h.1 ∙ sym (fits (signed_digits_value 10 word) h.0.1)
  where
    fits : (z : ℤ) → FitsSigned w128 z → if_fits z ≡ Some z
    fits (pos n) h = let below = h.sfits in grind (arith, nat_tests)
    fits (negsuc n) h = let below = h.sfits in grind (arith, nat_tests)
parsed word (Err why) numeral h = refuse (signed_digits_value 10 word) (λ f. h (numeral, f))
  where
    refuse : (z : ℤ) → (FitsSigned w128 z → ⊥) → None ≡ if_fits z
    refuse z h = elim (fits_128 z) as (λ t. fits_128 z ≡ t → None ≡ cond t (Some z) None) [ true ↦ (λ t. absurd (h (fit z t))) | false ↦ (λ t. refl) ] refl
      where
        fit : (z : ℤ) → fits_128 z ≡ true → FitsSigned w128 z
        fit (pos n) t = record { sfits = grind (arith, nat_tests) }
        fit (negsuc n) t = record { sfits = grind (arith, nat_tests) }

ascii_digits : (digits : List ℕ) → all_ascii_digits digits ≡ true → IsAscii digits
ascii_digits [] e = IsAscii-nil
ascii_digits (c ∷ digits) e =
    let first : is_ascii_digit c ≡ true = and_first (is_ascii_digit c) (all_ascii_digits digits) e in
    IsAscii-cons c digits (grind (arith, nat_tests)) (ascii_digits digits (and_second (is_ascii_digit c) (all_ascii_digits digits) e))

numeral : (digits : List ℕ) → is_number digits ≡ true → (all_ascii_digits digits ≡ true) × IsNumeral 10 digits
numeral [] e = absurd (false_true e)
numeral (b ∷ digits) e = (e, (omega arith, (numerals_by_value (λ ds. all_ascii_digits ds ≡ true) tells_all_ascii_digits).to (b ∷ digits) e))

pub signed_word : (word : List ℕ) → is_number (without_minus word) ≡ true → IsSigned word
signed_word [] e = absurd (false_true e)
signed_word (b ∷ digits) e =
    elim (b == 0x2d) as (λ t. (b == 0x2d) ≡ t → is_number (cond t digits (b ∷ digits)) ≡ true → IsAscii (b ∷ digits) × IsNumeral 10 (cond t digits (without_leading_plus (b ∷ digits)))) [
      | true ↦ (λ t e. let n = numeral digits e in (IsAscii-cons b digits (grind (arith, nat_tests)) (ascii_digits digits n.0), n.1))
      | false ↦
          (λ t e.
          let n = numeral (b ∷ digits) e in
          let first : is_ascii_digit b ≡ true = and_first (is_ascii_digit b) (all_ascii_digits digits) n.0 in
          let no_plus : (b == 0x2b) ≡ false = grind (arith, nat_tests) in
          (ascii_digits (b ∷ digits) n.0, subst (λ t. IsNumeral 10 (drop (cond t 1 0) (b ∷ digits))) (sym no_plus) n.1))
    ] refl e
