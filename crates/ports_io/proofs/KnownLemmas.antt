-- Bytes that are taken or appended in several calls.
use Rattle.std.proofs.Common.{◌≡◌, ℕ, ◌+◌, ◌≤◌, List, ◌++◌, Option, take, drop, length, ap, ◌∙◌, subst, sym, arith, append-nil, length-append, length-take, take-add}
use Rattle.std.specs.Io.KnownBytes.{Appends, Consumes}
use Rattle.std.proofs.KnownBytes.{Consumes-trans, Appends-trans}

-- a call that took nothing, after others
pub Consumes-none : (a b c : Option (List ℕ)) (bs piece : List ℕ) (n : ℕ) → n ≡ 0 → Consumes a b bs → Consumes b c (take n piece) → Consumes a c bs
Consumes-none a b c bs piece n none before now =
    subst (Consumes a c) (ap (λ k. bs ++ take k piece) none ∙ append-nil bs) (Consumes-trans a b c bs (take n piece) before now)

-- a call that took some, after others
pub Consumes-more : (a b c : Option (List ℕ)) (bs all more : List ℕ) → all ≡ bs ++ more → Consumes a b bs → Consumes b c more → Consumes a c all
Consumes-more a b c bs all more whole before now = subst (Consumes a c) (sym whole) (Consumes-trans a b c bs more before now)

-- with one more piece the bytes pass their limit by at most that piece
pub length_with_piece : (bs piece : List ℕ) (n most : ℕ) → length bs ≤ most → length (bs ++ take n piece) ≤ most + length piece
length_with_piece bs piece n most within = omega (arith, length-append bs (take n piece), length-take n piece)

-- the next n of these bytes, after the first k
pub Appends-next : (a b c : Option (List ℕ)) (bytes : List ℕ) (k n : ℕ) → Appends a b (take k bytes) → Appends b c (take n (drop k bytes)) → Appends a c (take (k + n) bytes)
Appends-next a b c bytes k n before now =
    subst (Appends a c) (sym (take-add k n bytes)) (Appends-trans a b c (take k bytes) (take n (drop k bytes)) before now)
