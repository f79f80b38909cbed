-- Tokens take bytes.
use Rattle.std.proofs.Common.{◌≡◌, ℕ, suc, ◌+◌, ◌<◌, ◌≤◌, ◌==◌, Bool, true, false, not, cond, ◌||◌, nat_lt, List, [], ◌∷◌, length, take, drop, Result, Ok, Err, refl, sym, subst, arith}
use Rattle.std.specs.List.{prefix_len}
use Rattle.std.proofs.lemmas.List.{length-drop}
use Rattle.clvm_spec.specs.declared.scan_kind.ScanKind.{ScanKind}
use Rattle.clvm_spec.specs.declared.scan_kind.ScanKind.TheVariants.{Text, Byte}
use Rattle.clvm_spec.specs.Tokens.{Token, Opening, Closing, Literal, Front, Took, Unread, AtEnd, is_separator, is_plain, is_word_byte, without_blanks, word_token, word_front, word_at, quoted_of, quoted, at_word, at_quote, at_closing, at_front, token_of}

-- ---- tokens take bytes

-- The token stands at the front of the bytes, and what is behind it is a shorter end of them.
abbrev pub Stands : List ℕ → Front → Type 0
Stands bytes (Took token from rest) = (from ≡ bytes) × (length rest < length bytes) × ((k : ℕ) × (rest ≡ drop k bytes))
Stands bytes (Unread kind from) = (from ≡ bytes) × (0 < length bytes)
Stands bytes AtEnd = bytes ≡ []

stands_if : (bytes : List ℕ) (test : Bool) (f g : Front) → (test ≡ true → Stands bytes f) → (test ≡ false → Stands bytes g) → Stands bytes (cond test f g)
stands_if bytes true f g hf hg = hf refl
stands_if bytes false f g hf hg = hg refl

stands_word : (b : ℕ) (bytes : List ℕ) (token : Result Token ScanKind) (size : ℕ) → 1 ≤ size → Stands (b ∷ bytes) (word_front (b ∷ bytes) size token)
stands_word b bytes (Ok token) size h = (refl, omega (arith, h, length-drop size (b ∷ bytes)), (size, refl))
stands_word b bytes (Err kind) size h = (refl, omega arith)

stands_quoted : (b : ℕ) (bytes : List ℕ) (size : ℕ) → Stands (b ∷ bytes) (quoted_of b size bytes)
stands_quoted b bytes size =
    stands_if (b ∷ bytes) (nat_lt size (length bytes)) (Took (Literal (take size bytes)) (b ∷ bytes) (drop (suc size) bytes)) (Unread Text (b ∷ bytes))
    (λ t. (refl, omega (arith, length-drop (suc size) bytes), (suc (suc size), refl)))
    (λ t. (refl, omega arith))

some_word : (b : ℕ) (bytes : List ℕ) → is_word_byte b ≡ true → 1 ≤ prefix_len is_word_byte (b ∷ bytes)
some_word b bytes e = subst (λ t. 1 ≤ cond t (1 + prefix_len is_word_byte bytes) 0) (sym e) (omega arith)

stands_front : (b : ℕ) (bytes : List ℕ) → (b == 0x3b) ≡ false → Stands (b ∷ bytes) (at_front (b ∷ bytes))
stands_front b bytes e =
    stands_if (b ∷ bytes) (b == 0x28) (Took Opening (b ∷ bytes) bytes) (at_closing b bytes)
    (λ t. (refl, omega arith, (1, refl)))
    (λ o. stands_if (b ∷ bytes) (b == 0x29) (Took Closing (b ∷ bytes) bytes) (at_quote b bytes)
    (λ t. (refl, omega arith, (1, refl)))
    (λ c. stands_if (b ∷ bytes) (b == 0x22 || b == 0x27) (quoted b bytes) (at_word b bytes)
    (λ t. stands_quoted b bytes (prefix_len (λ c. not (c == b)) bytes))
    (λ q. stands_if (b ∷ bytes) (is_plain b) (word_at (b ∷ bytes)) (Unread Byte (b ∷ bytes))
    (λ t. stands_word b bytes (word_token (take (prefix_len is_word_byte (b ∷ bytes)) (b ∷ bytes))) (prefix_len is_word_byte (b ∷ bytes))
    (some_word b bytes (word_byte b e o c q t)))
    (λ t. (refl, omega arith)))))
  where
    word_byte : (b : ℕ) → (b == 0x3b) ≡ false → (b == 0x28) ≡ false → (b == 0x29) ≡ false → (b == 0x22 || b == 0x27) ≡ false → is_plain b ≡ true → is_word_byte b ≡ true
    word_byte b e o c q t = rw (t, o, c, e, q) refl

-- ---- blanks

none_blank : (text : List ℕ) (in_comment : Bool) → (k : ℕ) × (without_blanks in_comment text ≡ drop k text)
none_blank [] in_comment = (0, refl)
none_blank (b ∷ bytes) true = let h = none_blank bytes (not (b == 0x0a)) in (suc h.0, h.1)
none_blank (b ∷ bytes) false =
    elim (is_separator b || b == 0x3b) as (λ t. (k : ℕ) × (cond t (without_blanks (b == 0x3b) bytes) (b ∷ bytes) ≡ drop k (b ∷ bytes)))
    [ true ↦ (let h = none_blank bytes (b == 0x3b) in (suc h.0, h.1)) | false ↦ (0, refl) ]

-- What begins behind blanks is no comment.
abbrev BeginsNoComment : List ℕ → Type 0
BeginsNoComment [] = Unit {0}
BeginsNoComment (b ∷ bytes) = (b == 0x3b) ≡ false

no_comment_if : (b : ℕ) (bytes blank : List ℕ) (test : Bool) → (test ≡ false → (b == 0x3b) ≡ false) → BeginsNoComment blank → BeginsNoComment (cond test blank (b ∷ bytes))
no_comment_if b bytes blank true h g = g
no_comment_if b bytes blank false h g = h refl

or_false : (a c : Bool) → (a || c) ≡ false → c ≡ false
or_false true c e = cc
or_false false c e = e

no_comment : (in_comment : Bool) (text : List ℕ) → BeginsNoComment (without_blanks in_comment text)
no_comment in_comment [] = tt
no_comment true (b ∷ bytes) = no_comment (not (b == 0x0a)) bytes
no_comment false (b ∷ bytes) = no_comment_if b bytes (without_blanks (b == 0x3b) bytes) (is_separator b || b == 0x3b) (or_false (is_separator b) (b == 0x3b)) (no_comment (b == 0x3b) bytes)

stands_behind : (bytes : List ℕ) → BeginsNoComment bytes → Stands bytes (at_front bytes)
stands_behind [] h = refl
stands_behind (b ∷ bytes) h = stands_front b bytes h

-- What stands at the front of a text stands behind its blanks.
pub stands : (text : List ℕ) → Stands (without_blanks false text) (token_of text)
unfolding token_of
stands text = stands_behind (without_blanks false text) (no_comment false text)

pub blanks_suffix : (text : List ℕ) → (k : ℕ) × (without_blanks false text ≡ drop k text)
blanks_suffix text = none_blank text false

shorter_drop : (text : List ℕ) (k : ℕ) → length (drop k text) ≤ length text
shorter_drop text k = omega (arith, length-drop k text)

pub fewer_behind : (text : List ℕ) → length (without_blanks false text) ≤ length text
fewer_behind text = let h = blanks_suffix text in subst (λ t. length t ≤ length text) (sym h.1) (shorter_drop text h.0)

-- A token takes at least one byte.
pub token_takes : (text : List ℕ) (token : Token) (from rest : List ℕ) → token_of text ≡ Took token from rest → length rest < length text
token_takes text token from rest e =
    let h = subst (Stands (without_blanks false text)) e (stands text) in
    omega (arith, h.1, fewer_behind text)

-- ---- what is left behind a token

-- what stands behind the token is shorter than that
abbrev pub Less : ℕ → Front → Type 0
Less n (Took token from rest) = length rest < n
Less n (Unread kind from) = Unit {0}
Less n AtEnd = Unit {0}

pub less_front : (text : List ℕ) (n : ℕ) (front : Front) → token_of text ≡ front → length text ≤ n → Less n front
less_front text n (Took token from rest) e h = omega (arith, h, token_takes text token from rest e)
less_front text n (Unread kind from) e h = tt
less_front text n AtEnd e h = tt

pub none_left : token_of [] ≡ AtEnd
unfolding token_of
none_left = refl
