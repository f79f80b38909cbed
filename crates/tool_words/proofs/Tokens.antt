-- How `clap` looks at a word, beside how the definitions do.
use Rattle.std.proofs.Common.{◌≡◌, ◌∙◌, ℕ, Bool, true, false, cond, ◌==◌, [], ◌∷◌, length, nat_le, Option, Some, None, refl, sym, ap, subst, true≢false, eqb-true, bytes_eq}
use Rattle.std.specs.Option.{option_map_or, option_and_then, is_some}
use Rattle.std.proofs.lemmas.Bool.{false_from_ne_true, and_right}
use Rattle.std.proofs.lemmas.Slice.Eq.{bytes_eq-Decides}
use Rattle.clap.specs.Lexer.{strip_byte, long_of, long_of_rest, short_of, short_of_rest}
use Rattle.tool_words.specs.declared.limits.TheConstants.{MOST_DIGITS}
use Rattle.tool_words.specs.Rows.{Text, Row, Wrong, behind_hyphen, name_in, value_in, is_among, option_of, hyphened, sorted, sort_of, is_digits}
use Rattle.tool_words.specs.Parser.{is_long, is_readable}

abbrev pub dashes : Text
dashes = 45 ∷ 45 ∷ []

strip_is : (w : Text) → strip_byte 45 w ≡ behind_hyphen w
strip_is [] = refl
strip_is (x ∷ w) = refl

long_is : (w r t : Text) (x : ℕ) → behind_hyphen w ≡ Some r → behind_hyphen r ≡ Some (x ∷ t) → long_of w ≡ Some (name_in (x ∷ t), value_in (x ∷ t))
long_is w r t x e f =
    let first : strip_byte 45 w ≡ Some r = strip_is w ∙ e in
    let second : strip_byte 45 r ≡ Some (x ∷ t) = strip_is r ∙ f in
    ap (λ o. option_and_then long_of_rest (option_and_then (strip_byte 45) o)) first ∙ ap (option_and_then long_of_rest) second

pub plain_long : (w : Text) → behind_hyphen w ≡ None → long_of w ≡ None
plain_long w e = ap (λ o. option_and_then long_of_rest (option_and_then (strip_byte 45) o)) (strip_is w ∙ e)

pub plain_short : (w : Text) → behind_hyphen w ≡ None → short_of w ≡ None
plain_short w e = ap (λ o. option_and_then short_of_rest o) (strip_is w ∙ e)

pub plain_dashes : (w : Text) → behind_hyphen w ≡ None → bytes_eq w dashes ≡ false
plain_dashes w e = false_from_ne_true _ (λ same.
    let is : Some (45 ∷ []) ≡ None = ap behind_hyphen (sym ((bytes_eq-Decides w dashes).0 same)) ∙ e in
    true≢false (ap is_some is))

abbrev is_filled : Option Text → Bool
is_filled None = false
is_filled (Some []) = false
is_filled (Some (x ∷ t)) = true

long_dashes : (w r t : Text) (x : ℕ) → behind_hyphen w ≡ Some r → behind_hyphen r ≡ Some (x ∷ t) → bytes_eq w dashes ≡ false
long_dashes w r t x e f = false_from_ne_true _ (λ same.
    let is : Some (45 ∷ []) ≡ Some r = ap behind_hyphen (sym ((bytes_eq-Decides w dashes).0 same)) ∙ e in
    let rest : Some [] ≡ Some (x ∷ t) = ap (option_and_then behind_hyphen) is ∙ f in
    true≢false (sym (ap is_filled rest)))

hyphen_first : (x : ℕ) (xs r : Text) → behind_hyphen (x ∷ xs) ≡ Some r → x ≡ 45
hyphen_first x xs r e = go (x == 45) refl e
  where
    go : (b : Bool) → (x == 45) ≡ b → cond b (Some xs) None ≡ Some r → x ≡ 45
    go true p q = eqb-true x 45 p
    go false p q = absurd (true≢false (sym (ap is_some q)))

no_digits_45 : (xs : Text) → is_digits (45 ∷ xs) ≡ false
no_digits_45 xs = and_right (nat_le 1 (length (45 ∷ xs))) _ (and_right (nat_le (length (45 ∷ xs)) MOST_DIGITS) _ refl)

no_digits : (w r : Text) → behind_hyphen w ≡ Some r → is_digits w ≡ false
no_digits [] r e = absurd (true≢false (sym (ap is_some e)))
no_digits (x ∷ xs) r e = subst (λ (b : ℕ). is_digits (b ∷ xs) ≡ false) (sym (hyphen_first x xs r e)) (no_digits_45 xs)

empty_option : (row : Row) → is_among row.flags [] ≡ false → is_among row.numbers [] ≡ false → option_of row (name_in []) (value_in []) ≡ Wrong
empty_option row p q = rw (p, q) refl

pub data View (w : Text) : Type 0 where
  IsPlain : behind_hyphen w ≡ None → View w
  IsUnreadable : is_readable w ≡ false
      → ((row : Row) → is_among row.flags [] ≡ false → is_among row.numbers [] ≡ false → sort_of row w ≡ Wrong)
      → is_digits w ≡ false → View w
  IsLong : (name : Text) (value : Option Text) → bytes_eq w dashes ≡ false → long_of w ≡ Some (name, value)
      → ((row : Row) → sort_of row w ≡ option_of row name value) → is_readable w ≡ true → is_digits w ≡ false → View w

pub view : (w : Text) → View w
view w = first (behind_hyphen w) refl
  where
    readable : (r : Text) → behind_hyphen w ≡ Some r → is_readable w ≡ is_long (behind_hyphen r)
    readable r e = ap (λ o. option_map_or (λ rest. is_long (behind_hyphen rest)) o true) e

    sort : (r : Text) → behind_hyphen w ≡ Some r → (row : Row) → sort_of row w ≡ hyphened row (behind_hyphen r)
    sort r e row = ap (sorted row w) e

    second : (r : Text) → behind_hyphen w ≡ Some r → (o : Option Text) → behind_hyphen r ≡ o → View w
    second r e None f = IsUnreadable (readable r e ∙ ap is_long f) (λ row p q. sort r e row ∙ ap (hyphened row) f) (no_digits w r e)
    second r e (Some []) f = IsUnreadable (readable r e ∙ ap is_long f) (λ row p q. sort r e row ∙ (ap (hyphened row) f ∙ empty_option row p q)) (no_digits w r e)
    second r e (Some (x ∷ t)) f = IsLong (name_in (x ∷ t)) (value_in (x ∷ t)) (long_dashes w r t x e f) (long_is w r t x e f)
        (λ row. sort r e row ∙ ap (hyphened row) f) (readable r e ∙ ap is_long f) (no_digits w r e)

    first : (o : Option Text) → behind_hyphen w ≡ o → View w
    first None e = IsPlain e
    first (Some r) e = second r e (behind_hyphen r) refl
