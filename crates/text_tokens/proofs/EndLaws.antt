-- Where a token stands in its text.
use Rattle.std.proofs.Common.{◌≡◌, ℕ, ◌+◌, ◌-◌, ◌<◌, ◌≤◌, false, List, [], ◌∷◌, length, drop, refl, sym, ◌∙◌, ap, subst, arith, ⊎_elim}
use Rattle.std.proofs.lemmas.Bool.{cases_lt}
use Rattle.std.proofs.lemmas.List.{length-drop, drop-drop}
use Rattle.clvm_spec.specs.Tokens.{Front, Took, Unread, AtEnd, without_blanks, token_of}
use Rattle.clvm_spec.proofs.ScanLaws.{Stands, stands, blanks_suffix}
use Rattle.text_tokens.specs.Ends.{IsEnd, AreEnds}

both_empty : (xs ys : List ℕ) → length xs ≡ 0 → length ys ≡ 0 → xs ≡ ys
both_empty [] [] a b = refl
both_empty (x ∷ xs) ys a b = absurd (omega (arith, a))
both_empty [] (y ∷ ys) a b = absurd (omega (arith, b))

drop_is_end : (k : ℕ) (text : List ℕ) → IsEnd (drop k text) text
drop_is_end k text = record {
  within = omega (arith, length-drop k text);
  stands = ⊎_elim (λ (within : k < length text).
      let same : k ≡ length text - length (drop k text) = omega (arith, length-drop k text) in
      ap (λ n. drop n text) same)
      (λ (past : length text ≤ k). both_empty (drop k text) (drop (length text - length (drop k text)) text)
      (omega (arith, past, length-drop k text))
      (omega (arith, past, length-drop k text, length-drop (length text - length (drop k text)) text)))
      (cases_lt k (length text));
}

is_end : (k : ℕ) (end text : List ℕ) → end ≡ drop k text → IsEnd end text
is_end k end text e = subst (λ t. IsEnd t text) (sym e) (drop_is_end k text)

ends_behind : (text bytes : List ℕ) (k : ℕ) (front : Front) → bytes ≡ drop k text → Stands bytes front → AreEnds text front
ends_behind text bytes k (Took token from rest) e s = (
  is_end k from text (s.0 ∙ e),
  is_end (k + s.2.0) rest text (s.2.1 ∙ ap (drop s.2.0) e ∙ drop-drop s.2.0 k text),
  omega (arith, s.1, ap length s.0),
)
ends_behind text bytes k (Unread kind from) e s = is_end k from text (s.0 ∙ e)
ends_behind text bytes k AtEnd e s = tt

pub ends : (text : List ℕ) → AreEnds text (token_of text)
ends text = let b = blanks_suffix text in ends_behind text (without_blanks false text) b.0 (token_of text) b.1 (stands text)

-- An end of an end is an end.
pub IsEnd-within : (a b c : List ℕ) → IsEnd a b → IsEnd b c → IsEnd a c
IsEnd-within a b c inner outer =
    let k = length c - length b in
    let n = length b - length a in
    is_end (k + n) a c (inner.stands ∙ ap (drop n) outer.stands ∙ drop-drop n k c)

pub IsEnd-itself : (text : List ℕ) → IsEnd text text
IsEnd-itself text = drop_is_end 0 text
