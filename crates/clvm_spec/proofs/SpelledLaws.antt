-- What is spelled is read, and what is read is spelled.
use Rattle.std.proofs.Common.{◌≡◌, ℕ, ◌+◌, ◌*◌, ◌-◌, ◌/◌, ◌%◌, ◌^◌, ◌<◌, ◌≤◌, ◌==◌, Bool, true, false, cond, nat_lt, List, [], ◌∷◌, ◌++◌, length, take, drop, refl, sym, ◌∙◌, ap, subst, arith, append_assoc}
use Rattle.std.specs.Int.Digits.{AllBelowBase}
use Rattle.std.proofs.lemmas.List.{length-append, length-take-le, take-append-drop, take_at, drop_at}
use Rattle.std.proofs.lemmas.Bool.{cond-true}
use Rattle.std.proofs.lemmas.Bool.Decides.{nat_tests}
use Rattle.clvm_spec.specs.Tree.{Tree, Atom, Pair}
use Rattle.clvm_spec.specs.Spelling.{prefix, atom_spelling, spelling, HasSpelling}
use Rattle.clvm_spec.specs.Reading.{Cut, LongSpelling, BadPrefix, Head, PairMark, Leaf, Beginning, Begins, Flawed, leaf, atom_behind, long_atom, prefixed, head_at, Found, with_first, with_both, tree_at_front}
use Rattle.clvm_spec.proofs.PrefixLaws.{at_80, prefix_one, prefix_two, prefix_three, prefix_four, head_at-prefix}
use Rattle.clvm_spec.proofs.FrontLaws.{front_leaf, front_open}

-- ---- what is spelled is read

atom_here : (atom rest : List ℕ) → atom_behind (length atom) (atom ++ rest) ≡ leaf atom rest
atom_here atom rest =
    let enough : nat_lt (length (atom ++ rest)) (length atom) ≡ false = grind (arith, nat_tests, length-append) in
    ap (λ t. cond t (Flawed Cut) (leaf (take (length atom) (atom ++ rest)) (drop (length atom) (atom ++ rest)))) enough
    ∙ ap (λ a. leaf a (drop (length atom) (atom ++ rest))) (take_at atom rest (length atom) refl) ∙ ap (leaf atom) (drop_at atom rest (length atom) refl)

one_byte : (b : ℕ) (rest : List ℕ) (test : Bool) → nat_lt b 0x80 ≡ test → head_at (cond test (b ∷ []) (0x81 ∷ b ∷ []) ++ rest) ≡ Begins (Leaf (b ∷ [])) rest
unfolding head_at
one_byte b rest true e = cond-true (nat_lt b 0x80) _ _ e
one_byte b rest false e = atom_here (b ∷ []) rest ∙ ap (λ t. cond t (Flawed LongSpelling) (Begins (Leaf (b ∷ [])) rest)) e

pub head_at-atom : (atom rest : List ℕ) → length atom < 2 ^ 27 → head_at (atom_spelling atom ++ rest) ≡ Begins (Leaf atom) rest
head_at-atom [] rest h = at_80 0x80 rest (omega arith) (omega arith) ∙ atom_here [] rest
head_at-atom (b ∷ []) rest h = one_byte b rest (nat_lt b 0x80) refl
head_at-atom (b ∷ c ∷ bytes) rest h =
    let size = length (b ∷ c ∷ bytes) in
    ap head_at (append_assoc (prefix size) (b ∷ c ∷ bytes) rest) ∙ head_at-prefix size (b ∷ c ∷ bytes ++ rest) h ∙ atom_here (b ∷ c ∷ bytes) rest

pub head_at-open : (rest : List ℕ) → head_at (0xff ∷ rest) ≡ Begins PairMark rest
unfolding head_at
head_at-open rest = refl

-- A spelled tree is found, whatever follows it.
pub front-spelling : (tree : Tree) (rest : List ℕ) → HasSpelling tree → tree_at_front (spelling tree ++ rest) ≡ Found tree rest
front-spelling (Atom bytes) rest h = front_leaf (atom_spelling bytes ++ rest) bytes rest (head_at-atom bytes rest h)
front-spelling (Pair first second) rest h =
    let behind = spelling second ++ rest in
    ap (λ s. tree_at_front (0xff ∷ s)) (append_assoc (spelling first) (spelling second) rest)
    ∙ front_open (0xff ∷ (spelling first ++ behind)) (spelling first ++ behind) (head_at-open (spelling first ++ behind))
    ∙ ap (with_both tree_at_front) (front-spelling first behind h.0)
    ∙ ap (with_first first) (front-spelling second rest h.1)

-- ---- what is read is spelled

-- how a head was spelled
abbrev pub Spelled : List ℕ → Head → List ℕ → Type 0
Spelled bytes PairMark rest = bytes ≡ 0xff ∷ rest
Spelled bytes (Leaf atom) rest = (length atom < 2 ^ 27) × (bytes ≡ atom_spelling atom ++ rest)

abbrev pub Says : List ℕ → Beginning → Type 0
Says bytes (Begins head rest) = Spelled bytes head rest
Says bytes (Flawed flaw) = Unit {0}

says_if : (bytes : List ℕ) (test : Bool) (f g : Beginning) → (test ≡ true → Says bytes f) → (test ≡ false → Says bytes g) → Says bytes (cond test f g)
says_if bytes true f g hf hg = hf refl
says_if bytes false f g hf hg = hg refl

says_leaf : (atom rest bytes : List ℕ) → length atom < 2 ^ 27 → bytes ≡ prefix (length atom) ++ (atom ++ rest) → Says bytes (leaf atom rest)
says_leaf [] rest bytes h e = (h, e)
says_leaf (b ∷ []) rest bytes h e =
    says_if bytes (nat_lt b 0x80) (Flawed LongSpelling) (Begins (Leaf (b ∷ [])) rest) (λ t. tt)
    (λ t. (h, e ∙ sym (ap (λ c. cond c (b ∷ []) (0x81 ∷ b ∷ []) ++ rest) t)))
says_leaf (b ∷ c ∷ atom) rest bytes h e = (h, e ∙ sym (append_assoc (prefix (length (b ∷ c ∷ atom))) (b ∷ c ∷ atom) rest))

says_atom : (size : ℕ) (behind bytes : List ℕ) → size < 2 ^ 27 → bytes ≡ prefix size ++ behind → Says bytes (atom_behind size behind)
says_atom size behind bytes h e =
    says_if bytes (nat_lt (length behind) size) (Flawed Cut) (leaf (take size behind) (drop size behind)) (λ t. tt)
    (λ t.
    let enough : size ≤ length behind = grind (arith, nat_tests) in
    let long = length-take-le size behind enough in
    says_leaf (take size behind) (drop size behind) bytes (omega (arith, long))
    (e ∙ ap (λ n. prefix n ++ behind) (sym long) ∙ ap (λ b. prefix (length (take size behind)) ++ b) (sym (take-append-drop size behind))))

says_long : (least size : ℕ) (behind bytes : List ℕ) → size < 2 ^ 27 → (least ≤ size → bytes ≡ prefix size ++ behind) → Says bytes (long_atom least size behind)
says_long least size behind bytes h e =
    says_if bytes (nat_lt size least) (Flawed LongSpelling) (atom_behind size behind) (λ t. tt)
    (λ t. let enough : least ≤ size = grind (arith, nat_tests) in says_atom size behind bytes h (e enough))

says_two : (high : ℕ) (rest : List ℕ) → high < 32 → AllBelowBase 256 rest → Says ((0xc0 + high) ∷ rest) (prefixed 1 0x40 high rest)
says_two high [] h all = tt
says_two high (b ∷ rest) h all =
    let size = high * 256 + b in
    let below = all.0 in
    let small : size < 0x2000 = omega arith in
    let first : 0xc0 + high ≡ 0xc0 + size / 256 = omega arith in
    let second : b ≡ size % 256 = omega arith in
    says_long 0x40 size rest ((0xc0 + high) ∷ b ∷ rest) (omega arith)
    (λ low. ap (λ n. n ∷ b ∷ rest) first ∙ ap (λ n. (0xc0 + size / 256) ∷ n ∷ rest) second ∙ ap (λ p. p ++ rest) (sym (prefix_two size low small)))

says_three : (high : ℕ) (rest : List ℕ) → high < 16 → AllBelowBase 256 rest → Says ((0xe0 + high) ∷ rest) (prefixed 2 0x2000 high rest)
says_three high [] h all = tt
says_three high (b ∷ []) h all = tt
says_three high (b ∷ c ∷ rest) h all =
    let size = (high * 256 + b) * 256 + c in
    let below = all.0 in
    let below' = all.1.0 in
    let small : size < 0x10_0000 = omega arith in
    let first : 0xe0 + high ≡ 0xe0 + size / 2 ^ 16 = omega arith in
    let second : b ≡ size / 256 % 256 = omega arith in
    let third : c ≡ size % 256 = omega arith in
    says_long 0x2000 size rest ((0xe0 + high) ∷ b ∷ c ∷ rest) (omega arith)
    (λ low. ap (λ n. n ∷ b ∷ c ∷ rest) first ∙ ap (λ n. (0xe0 + size / 2 ^ 16) ∷ n ∷ c ∷ rest) second
    ∙ ap (λ n. (0xe0 + size / 2 ^ 16) ∷ (size / 256 % 256) ∷ n ∷ rest) third ∙ ap (λ p. p ++ rest) (sym (prefix_three size low small)))

says_four : (high : ℕ) (rest : List ℕ) → high < 8 → AllBelowBase 256 rest → Says ((0xf0 + high) ∷ rest) (prefixed 3 0x10_0000 high rest)
says_four high [] h all = tt
says_four high (b ∷ []) h all = tt
says_four high (b ∷ c ∷ []) h all = tt
says_four high (b ∷ c ∷ d ∷ rest) h all =
    let size = ((high * 256 + b) * 256 + c) * 256 + d in
    let below = all.0 in
    let below' = all.1.0 in
    let below'' = all.1.1.0 in
    let small : size < 2 ^ 27 = omega arith in
    let first : 0xf0 + high ≡ 0xf0 + size / 2 ^ 24 = omega arith in
    let second : b ≡ size / 2 ^ 16 % 256 = omega arith in
    let third : c ≡ size / 256 % 256 = omega arith in
    let fourth : d ≡ size % 256 = omega arith in
    says_long 0x10_0000 size rest ((0xf0 + high) ∷ b ∷ c ∷ d ∷ rest) small
    (λ low. ap (λ n. n ∷ b ∷ c ∷ d ∷ rest) first ∙ ap (λ n. (0xf0 + size / 2 ^ 24) ∷ n ∷ c ∷ d ∷ rest) second
    ∙ ap (λ n. (0xf0 + size / 2 ^ 24) ∷ (size / 2 ^ 16 % 256) ∷ n ∷ d ∷ rest) third
    ∙ ap (λ n. (0xf0 + size / 2 ^ 24) ∷ (size / 2 ^ 16 % 256) ∷ (size / 256 % 256) ∷ n ∷ rest) fourth ∙ ap (λ p. p ++ rest) (sym (prefix_four size low)))

-- a first byte as the low end of its range and the rest of it
says_high : (low b : ℕ) (rest : List ℕ) (f : Beginning) → low ≤ b → Says ((low + (b - low)) ∷ rest) f → Says (b ∷ rest) f
says_high low b rest f h s = let e : low + (b - low) ≡ b = omega arith in subst (λ n. Says (n ∷ rest) f) e s

says_byte : (b : ℕ) (rest : List ℕ) → AllBelowBase 256 rest → Says (b ∷ rest) (head_at (b ∷ rest))
unfolding head_at
says_byte b rest all =
    let bytes = b ∷ rest in
    says_if bytes (nat_lt b 0x80) (Begins (Leaf (b ∷ [])) rest) _
    (λ t. (omega arith, sym (ap (λ c. cond c (b ∷ []) (0x81 ∷ b ∷ []) ++ rest) t)))
    (λ t. says_if bytes (nat_lt b 0xc0) (atom_behind (b - 0x80) rest) _
    (λ t'.
    let low : 0x80 ≤ b = grind (arith, nat_tests) in
    let high : b < 0xc0 = grind (arith, nat_tests) in
    let byte : b ≡ 0x80 + (b - 0x80) = omega arith in
    says_atom (b - 0x80) rest bytes (omega arith) (ap (λ n. n ∷ rest) byte ∙ ap (λ p. p ++ rest) (sym (prefix_one (b - 0x80) (omega arith)))))
    (λ t'. says_if bytes (nat_lt b 0xe0) (prefixed 1 0x40 (b - 0xc0) rest) _
    (λ u.
    let low : 0xc0 ≤ b = grind (arith, nat_tests) in
    let high : b < 0xe0 = grind (arith, nat_tests) in
    says_high 0xc0 b rest (prefixed 1 0x40 (b - 0xc0) rest) low (says_two (b - 0xc0) rest (omega arith) all))
    (λ u. says_if bytes (nat_lt b 0xf0) (prefixed 2 0x2000 (b - 0xe0) rest) _
    (λ u'.
    let low : 0xe0 ≤ b = grind (arith, nat_tests) in
    let high : b < 0xf0 = grind (arith, nat_tests) in
    says_high 0xe0 b rest (prefixed 2 0x2000 (b - 0xe0) rest) low (says_three (b - 0xe0) rest (omega arith) all))
    (λ u'. says_if bytes (nat_lt b 0xf8) (prefixed 3 0x10_0000 (b - 0xf0) rest) _
    (λ v.
    let low : 0xf0 ≤ b = grind (arith, nat_tests) in
    let high : b < 0xf8 = grind (arith, nat_tests) in
    says_high 0xf0 b rest (prefixed 3 0x10_0000 (b - 0xf0) rest) low (says_four (b - 0xf0) rest (omega arith) all))
    (λ v. says_if bytes (b == 0xff) (Begins PairMark rest) (Flawed BadPrefix)
    (λ w. let e : b ≡ 0xff = grind (arith, nat_tests) in ap (λ n. n ∷ rest) e)
    (λ w. tt))))))

no_byte : Says [] (head_at [])
unfolding head_at
no_byte = tt

-- What a head was read from is its spelling and the rest.
pub says_front : (bytes : List ℕ) → AllBelowBase 256 bytes → Says bytes (head_at bytes)
says_front [] all = no_byte
says_front (b ∷ rest) all = says_byte b rest all.1
