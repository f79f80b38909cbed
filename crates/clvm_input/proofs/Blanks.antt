-- Blanks at the end of a text.
use Rattle.std.proofs.Common.{◌≡◌, ◌∙◌, ℕ, zero, suc, ◌-◌, ◌≤◌, List, [], ◌∷◌, ◌++◌, length, take, reverse, get_or, true, false, refl, ap, sym, arith, if◌then◌else◌}
use Rattle.std.proofs.lemmas.List.{reverse-append, reverse-reverse}
use Rattle.clvm_spec.specs.Tokens.{is_separator}
use Rattle.clvm_input.specs.Texts.{without_front_blanks, without_end_blanks}

pub end-blank : (text : List ℕ) (b : ℕ) → is_separator b ≡ true → without_end_blanks (text ++ b ∷ []) ≡ without_end_blanks text
end-blank text b blank =
    ap (λ t. reverse (without_front_blanks t)) (reverse-append text (b ∷ []))
    ∙ ap (λ t. reverse (if t then without_front_blanks (reverse text) else b ∷ reverse text)) blank

pub end-other : (text : List ℕ) (b : ℕ) → is_separator b ≡ false → without_end_blanks (text ++ b ∷ []) ≡ text ++ b ∷ []
end-other text b other =
    ap (λ t. reverse (without_front_blanks t)) (reverse-append text (b ∷ []))
    ∙ ap (λ t. reverse (if t then without_front_blanks (reverse text) else b ∷ reverse text)) other
    ∙ ap reverse (sym (reverse-append text (b ∷ [])))
    ∙ reverse-reverse (text ++ b ∷ [])

last-split : (text : List ℕ) (n d : ℕ) → length text ≡ suc n → text ≡ take n text ++ get_or text n d ∷ []
last-split [] n d e = absurd (omega (arith, e))
last-split (b ∷ []) zero d e = refl
last-split (b ∷ []) (suc n) d e = absurd (omega (arith, e))
last-split (b ∷ c ∷ text) zero d e = absurd (omega (arith, e))
last-split (b ∷ c ∷ text) (suc n) d e = ap (λ t. b ∷ t) (last-split (c ∷ text) n d (omega (arith, e)))

split : (text : List ℕ) (d : ℕ) → 1 ≤ length text → text ≡ take (length text - 1) text ++ get_or text (length text - 1) d ∷ []
split text d some = last-split text (length text - 1) d (omega (arith, some))

pub blank-last : (text : List ℕ) (d : ℕ) → 1 ≤ length text → is_separator (get_or text (length text - 1) d) ≡ true
    → without_end_blanks (take (length text - 1) text) ≡ without_end_blanks text
blank-last text d some blank = sym (ap without_end_blanks (split text d some) ∙ end-blank (take (length text - 1) text) _ blank)

pub other-last : (text : List ℕ) (d : ℕ) → 1 ≤ length text → is_separator (get_or text (length text - 1) d) ≡ false → text ≡ without_end_blanks text
other-last text d some other = split text d some ∙ sym (ap without_end_blanks (split text d some) ∙ end-other (take (length text - 1) text) _ other)
