-- Hashes that stand in a list more than once.
use Rattle.std.proofs.Common.{◌≡◌, ℕ, ◌+◌, ◌<◌, ◌≤◌, Bool, true, false, cond, not, ◌&&◌, nat_lt, List, [], ◌∷◌, length, map, take, get_or, refl, ap, sym, ◌∙◌, add-zero, arith}
use Rattle.std.specs.Prelude.{zip}
use Rattle.std.specs.List.{list_all}
use Rattle.std.specs.HashSet.{contains}
use Rattle.std.proofs.lemmas.List.{length-map}
use Rattle.std.proofs.lemmas.Slice.Zip.{length-zip}
use Rattle.std.proofs.lemmas.List.Sums.{sum_by_more}
use Rattle.std.proofs.lemmas.Slice.Eq.{bytes_eq-Decides}
use Rattle.std.proofs.lemmas.Bool.{ltb-true, ltb-false, lt-ltb, le-ltb}
use Rattle.coin_facts.specs.declared.hash32.Hash32.{Hash32}
use Rattle.coin_facts.specs.IdLists.{is_same_id}
use Rattle.same_spend.specs.Marks.{HashesSet, times, HasRepeated, has_lone_shape, forwards}

pub same-is : (a b : Hash32) → is_same_id a b ≡ true → a ≡ b
same-is a b e = let bytes = (bytes_eq-Decides a.bytes b.bytes).0 e in (λ i. record { bytes = bytes i })

pub is-same : (a : Hash32) → is_same_id a a ≡ true
is-same a = (bytes_eq-Decides a.bytes a.bytes).1 refl

-- how often the hashes so far have a hash
abbrev pub HasSeen : ℕ → HashesSet → List Hash32 → Type 0
HasSeen n set hashes = (hash : Hash32) → contains is_same_id set hash ≡ nat_lt n (times hashes hash)

abbrev pub Adds : HashesSet → HashesSet → Hash32 → Type 0
Adds old new hash = (q : Hash32) → contains is_same_id new q ≡ cond (is_same_id hash q) true (contains is_same_id old q)

one-more : (hashes : List Hash32) (i : ℕ) (d q : Hash32) → i < length hashes
    → times (take (i + 1) hashes) q ≡ times (take i hashes) q + cond (is_same_id (get_or hashes i d) q) 1 0
one-more hashes i d q h = sum_by_more (λ other. cond (is_same_id other q) 1 0) hashes i d h

seen-step : (b : Bool) (n : ℕ) → cond b true (nat_lt 0 n) ≡ nat_lt 0 (n + cond b 1 0)
seen-step true n = sym (lt-ltb 0 (n + 1) (omega arith))
seen-step false n = ap (nat_lt 0) (sym (add-zero n))

pub seen-more : (old new : HashesSet) (hashes : List Hash32) (i : ℕ) (d : Hash32) → i < length hashes → HasSeen 0 old (take i hashes)
    → Adds old new (get_or hashes i d) → HasSeen 0 new (take (i + 1) hashes)
seen-more old new hashes i d h has adds q =
    adds q ∙ ap (λ b. cond (is_same_id (get_or hashes i d) q) true b) (has q)
    ∙ seen-step (is_same_id (get_or hashes i d) q) (times (take i hashes) q) ∙ ap (nat_lt 0) (sym (one-more hashes i d q h))

new-step : (b : Bool) (n : ℕ) → (b ≡ true → nat_lt 0 n ≡ false) → nat_lt 1 n ≡ nat_lt 1 (n + cond b 1 0)
new-step true n none =
    let zero : n ≤ 0 = ltb-false 0 n (none refl) in
    le-ltb 1 n (omega arith) ∙ sym (le-ltb 1 (n + 1) (omega arith))
new-step false n none = ap (nat_lt 1) (sym (add-zero n))

old-step : (b : Bool) (n : ℕ) → (b ≡ true → nat_lt 0 n ≡ true) → cond b true (nat_lt 1 n) ≡ nat_lt 1 (n + cond b 1 0)
old-step true n some =
    let more : 0 < n = ltb-true 0 n (some refl) in
    sym (lt-ltb 1 (n + 1) (omega arith))
old-step false n some = ap (nat_lt 1) (sym (add-zero n))

at-same : (set : HashesSet) (hashes : List Hash32) (a q : Hash32) (b : Bool) → HasSeen 0 set hashes → contains is_same_id set a ≡ b → is_same_id a q ≡ true → nat_lt 0 (times hashes q) ≡ b
at-same set hashes a q b has is same = ap (λ x. nat_lt 0 (times hashes x)) (sym (same-is a q same)) ∙ sym (has a) ∙ is

-- the hash wasn't there
pub repeated-stays : (seen repeated : HashesSet) (hashes : List Hash32) (i : ℕ) (d : Hash32) → i < length hashes → HasSeen 0 seen (take i hashes)
    → HasSeen 1 repeated (take i hashes) → contains is_same_id seen (get_or hashes i d) ≡ false → HasSeen 1 repeated (take (i + 1) hashes)
repeated-stays seen repeated hashes i d h has more new q =
    more q
    ∙ new-step (is_same_id (get_or hashes i d) q) (times (take i hashes) q) (at-same seen (take i hashes) (get_or hashes i d) q false has new)
    ∙ ap (nat_lt 1) (sym (one-more hashes i d q h))

-- the hash was there
pub repeated-more : (seen old new : HashesSet) (hashes : List Hash32) (i : ℕ) (d : Hash32) → i < length hashes → HasSeen 0 seen (take i hashes)
    → HasSeen 1 old (take i hashes) → contains is_same_id seen (get_or hashes i d) ≡ true → Adds old new (get_or hashes i d) → HasSeen 1 new (take (i + 1) hashes)
repeated-more seen old new hashes i d h has more there adds q =
    adds q ∙ ap (λ b. cond (is_same_id (get_or hashes i d) q) true b) (more q)
    ∙ old-step (is_same_id (get_or hashes i d) q) (times (take i hashes) q) (at-same seen (take i hashes) (get_or hashes i d) q true has there)
    ∙ ap (nat_lt 1) (sym (one-more hashes i d q h))

-- ---- which spends are Forward

marks-by-set : (set : HashesSet) (all hashes : List Hash32) (shaped : List Bool) → HasRepeated set all
    → map (λ (pair : Hash32 × Bool). pair.1 && not (contains is_same_id set pair.0)) (zip hashes shaped) ≡ map (has_lone_shape all) (zip hashes shaped)
marks-by-set set all [] shaped has = refl
marks-by-set set all (hash ∷ hashes) [] has = refl
marks-by-set set all (hash ∷ hashes) (mark ∷ shaped) has =
    (λ i. (mark && not (has hash i)) ∷ marks-by-set set all hashes shaped has i)

pub forwards-by-set : (set : HashesSet) (hashes : List Hash32) (shaped lone marks : List Bool) → HasRepeated set hashes
    → lone ≡ map (λ (pair : Hash32 × Bool). pair.1 && not (contains is_same_id set pair.0)) (zip hashes shaped)
    → marks ≡ map (λ (mark : Bool). mark && not (list_all (λ (other : Bool). other) lone)) lone → marks ≡ forwards hashes shaped
forwards-by-set set hashes shaped lone marks has is marked =
    marked ∙ ap (λ (all : List Bool). map (λ (mark : Bool). mark && not (list_all (λ (other : Bool). other) all)) all)
    (is ∙ marks-by-set set hashes hashes shaped has)

pub forwards-count : (hashes : List Hash32) (shaped marks : List Bool) → length shaped ≡ length hashes → marks ≡ forwards hashes shaped → length marks ≡ length hashes
forwards-count hashes shaped marks e is =
    let lone : List Bool = map (has_lone_shape hashes) (zip hashes shaped) in
    let many : length marks ≡ length lone = ap (λ (l : List Bool). length l) is ∙ length-map lone (λ (mark : Bool). mark && not (list_all (λ (other : Bool). other) lone)) in
    let pairs : length lone ≡ length (zip hashes shaped) = length-map (zip hashes shaped) (has_lone_shape hashes) in
    omega (arith, many, pairs, length-zip hashes shaped, e)

pub new_from_added : (b : Bool) {added : Bool} → added ≡ true → added ≡ not b → b ≡ false
new_from_added true holds e = cc
new_from_added false holds e = refl

pub old_from_added : (b : Bool) {added : Bool} → added ≡ false → added ≡ not b → b ≡ true
old_from_added true holds e = refl
old_from_added false holds e = cc
