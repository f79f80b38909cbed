-- Hexadecimal of 32 bytes, and what stands behind an `@`.
use Rattle.std.proofs.Common.{◌≡◌, ◌∙◌, ◌==◌, ◌%◌, ◌/◌, ◌*◌, ℕ, Bool, true, false, List, [], ◌∷◌, length, Option, Some, None, Result, Ok, Err, option_map, MatchOption, ◌≢◌, refl, ap, sym, arith}
use Rattle.std.specs.Borrow.{Bor}
use Rattle.std.specs.Result.{result_ok}
use Rattle.std.proofs.lemmas.Bool.Decides.{nat_tests}
use Rattle.hex.specs.Hex.{decode_of, decode_sized}
use Rattle.hex.specs.declared.error.FromHexError.{FromHexError}
use Rattle.hex.proofs.HexLemmas.{decode_of-ok, decode_sized-twice}
use Rattle.session_spec.specs.Steps.{◌>>=◌, when}
use Rattle.session_spec.specs.Values.{if_few, exactly, text_of_hash, without_hex_mark}
use Rattle.session_spec.specs.LineMembers.{behind_at}

-- ---- hexadecimal

other_count : (bytes : List ℕ) (few : Bool) → (length bytes == 32) ≡ false → (when few bytes >>= exactly 32) ≡ None
other_count bytes true other = ap (λ b. when b bytes) other
other_count bytes false other = refl

not_sized : (digits bytes : List ℕ) (why : FromHexError) → decode_sized digits 32 ≡ Err why → decode_of digits ≡ Ok bytes → (b : Bool) → (length bytes == 32) ≡ b → (length bytes == 32) ≡ false
not_sized digits bytes why wrong is false e = e
not_sized digits bytes why wrong is true e =
    let twice = (decode_of-ok digits bytes is).2 in
    let same : length bytes ≡ 32 = grind (arith, nat_tests) in
    let long : length digits ≡ 2 * 32 = omega (arith, twice, same) in
    absurd (cc (sym wrong ∙ decode_sized-twice digits 32 long ∙ is))

unsized : (digits : List ℕ) (why : FromHexError) → decode_sized digits 32 ≡ Err why → (r : Result (List ℕ) FromHexError) → decode_of digits ≡ r
    → (result_ok r >>= if_few >>= exactly 32) ≡ None
unsized digits why wrong (Err other) is = refl
unsized digits why wrong (Ok bytes) is = other_count bytes _ (not_sized digits bytes why wrong is (length bytes == 32) refl)

unsized_by : (text : List ℕ) (r : Result (List ℕ) FromHexError) → decode_sized (without_hex_mark text) 32 ≡ r → result_ok r ≡ None → text_of_hash text ≡ None
unsized_by text (Ok bytes) is none = cc
unsized_by text (Err why) is none =
    ap (λ found. found >>= λ bytes. Some (record { bytes = bytes })) (unsized (without_hex_mark text) why is _ refl)

pub text_of_hash-unsized : (text : List ℕ) → result_ok (decode_sized (without_hex_mark text) 32) ≡ None → text_of_hash text ≡ None
text_of_hash-unsized text none = unsized_by text _ refl none

-- ---- behind an `@`

behind_at-at : (rest : List ℕ) → behind_at (64 ∷ rest) ≡ Some rest
behind_at-at rest = refl

pub behind_at-from : (text : List ℕ) (r : Option (Bor (List ℕ)))
    → MatchOption r ((rest : List ℕ) → text ≢ 64 ∷ rest) (λ x. text ≡ 64 ∷ x.now) → option_map (λ s. s.now) r ≡ behind_at text
behind_at-from [] None h = refl
behind_at-from [] (Some x) h = cc
behind_at-from (b ∷ text) None h = go (b == 64) refl
  where
    go : (t : Bool) → (b == 64) ≡ t → None ≡ behind_at (b ∷ text)
    go true e = absurd (h text (ap (λ n. n ∷ text) (grind (arith, nat_tests))))
    go false e = rw e
behind_at-from (b ∷ text) (Some x) h = sym (ap behind_at h ∙ behind_at-at x.now)
