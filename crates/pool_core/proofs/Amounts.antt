-- What a test of an atom's bytes against the shortest ones says of its amount.
use Rattle.std.proofs.Common.{◌≡◌, ℕ, ◌^◌, Bool, true, false, ◌&&◌, List, Option, Some, None, pos, nat_lt, if◌then◌else◌, ap, sym, ◌∙◌, refl}
use Rattle.std.specs.Prelude.{option_map}
use Rattle.std.specs.Str.{bytes_eq}
use Rattle.clvm_spec.specs.Tree.{Atom}
use Rattle.clvm_spec.specs.Numbers.{unsigned, shortest_atom}
use Rattle.coin_facts.specs.Steps.{when}
use Rattle.coin_facts.specs.Atoms.{amount_of}

-- the number of a `Some` that stands where a test holds
some_of : (test : Bool) (n v : ℕ) → Some v ≡ (if test then Some n else None) → (test ≡ true) × (v ≡ n)
some_of true n v e = (refl, cc)
some_of false n v e = cc

-- the number that is read where both tests hold
abbrev tested : Bool → List ℕ → Option ℕ
tested test bytes = option_map unsigned (when test bytes)

by_tests : (small same : Bool) (bytes : List ℕ) → small ≡ true → tested (small && same) bytes ≡ tested same bytes
by_tests small same bytes e = ap (λ b. tested (b && same) bytes) e

pub is_amount_of : (bytes : List ℕ) (v : ℕ) (short : List ℕ) → Some v ≡ (if nat_lt (unsigned bytes) (2 ^ 64) then Some (unsigned bytes) else None) → short ≡ shortest_atom (pos v) → true ≡ bytes_eq bytes short → Some v ≡ amount_of (Atom bytes)
is_amount_of bytes v short found is same =
    let h = some_of _ _ _ found in
    let same_there = same ∙ ap (bytes_eq bytes) (is ∙ ap (λ n. shortest_atom (pos n)) h.1) in
    ap Some h.1 ∙ ap (λ b. tested b bytes) same_there ∙ sym (by_tests (nat_lt (unsigned bytes) (2 ^ 64)) _ bytes h.0)

pub no_amount_of : (bytes : List ℕ) (v : ℕ) (short : List ℕ) → Some v ≡ (if nat_lt (unsigned bytes) (2 ^ 64) then Some (unsigned bytes) else None) → short ≡ shortest_atom (pos v) → false ≡ bytes_eq bytes short → None ≡ amount_of (Atom bytes)
no_amount_of bytes v short found is same =
    let h = some_of _ _ _ found in
    let same_there = same ∙ ap (bytes_eq bytes) (is ∙ ap (λ n. shortest_atom (pos n)) h.1) in
    ap (λ b. tested b bytes) same_there ∙ sym (by_tests (nat_lt (unsigned bytes) (2 ^ 64)) _ bytes h.0)
