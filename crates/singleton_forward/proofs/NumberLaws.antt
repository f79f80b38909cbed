-- What the tests of an atom's bytes say of its number.
use Rattle.std.proofs.Common.{◌≡◌, ℕ, ◌<◌, Bool, true, false, ◌&&◌, List, length, Option, None, pos, nat_lt, ap, sym, ◌∙◌, arith}
use Rattle.std.specs.Prelude.{option_map}
use Rattle.std.specs.Str.{bytes_eq}
use Rattle.std.proofs.lemmas.Bool.{false_from_ne_true, and_parts}
use Rattle.std.proofs.lemmas.Slice.Eq.{bytes_eq-Decides}
use Rattle.clvm_spec.specs.Tree.{Atom}
use Rattle.clvm_spec.specs.Numbers.{unsigned, shortest_atom}
use Rattle.clvm_spec.proofs.LengthLaws.{length_most}
use Rattle.coin_facts.specs.Steps.{when}
use Rattle.coin_facts.specs.Atoms.{number_below, is_shortest_below}

abbrev tested : Bool → List ℕ → Option ℕ
tested test bytes = option_map unsigned (when test bytes)

-- An atom of more than 16 bytes is none of a number.
pub long_is_none : (limit : ℕ) (bytes : List ℕ) → 16 < length bytes → None ≡ number_below limit (Atom bytes)
long_is_none limit bytes long =
    ap (λ b. tested b bytes) (sym (false_from_ne_true (is_shortest_below limit bytes) (λ e.
    let same = (bytes_eq-Decides bytes (shortest_atom (pos (unsigned bytes)))).0 (and_parts (nat_lt (unsigned bytes) limit) _ e).1 in
    absurd (omega (arith, ap length same, length_most (pos (unsigned bytes)))))))

by_test : (test : Bool) (bytes : List ℕ) (limit : ℕ) → is_shortest_below limit bytes ≡ test → tested test bytes ≡ number_below limit (Atom bytes)
by_test test bytes limit e = ap (λ b. tested b bytes) (sym e)

pub is_number_below : (limit value : ℕ) (bytes short : List ℕ) (same : Bool) → value ≡ unsigned bytes → short ≡ shortest_atom (pos value) → nat_lt value limit ≡ true → same ≡ bytes_eq bytes short
    → tested same bytes ≡ number_below limit (Atom bytes)
is_number_below limit value bytes short same is shortest below e =
    let first = ap (λ n. nat_lt n limit) (sym is) ∙ below in
    let second = ap (bytes_eq bytes) (ap (λ n. shortest_atom (pos n)) (sym is) ∙ sym shortest) ∙ sym e in
    by_test same bytes limit (ap (λ b. b && bytes_eq bytes (shortest_atom (pos (unsigned bytes)))) first ∙ second)

pub not_below : (limit value : ℕ) (bytes : List ℕ) → value ≡ unsigned bytes → nat_lt value limit ≡ false → None ≡ number_below limit (Atom bytes)
not_below limit value bytes is above =
    by_test false bytes limit (ap (λ b. b && bytes_eq bytes (shortest_atom (pos (unsigned bytes)))) (ap (λ n. nat_lt n limit) (sym is) ∙ above))
