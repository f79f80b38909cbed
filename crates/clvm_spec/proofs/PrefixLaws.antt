-- The prefix of an atom says its length.
use Rattle.std.proofs.Common.{◌≡◌, ℕ, ◌+◌, ◌*◌, ◌-◌, ◌/◌, ◌%◌, ◌^◌, ◌<◌, ◌≤◌, true, false, nat_lt, List, [], ◌∷◌, ◌++◌, refl, ◌∙◌, ap, ⊎_elim, arith}
use Rattle.std.proofs.lemmas.Bool.{cases_lt}
use Rattle.std.proofs.lemmas.Bool.Decides.{nat_tests}
use Rattle.clvm_spec.specs.Spelling.{prefix}
use Rattle.clvm_spec.specs.Reading.{atom_behind, long_atom, prefixed, head_at}

ltb_yes : (m n : ℕ) → m < n → nat_lt m n ≡ true
ltb_yes m n h = grind (arith, nat_tests)

ltb_no : (m n : ℕ) → n ≤ m → nat_lt m n ≡ false
ltb_no m n h = grind (arith, nat_tests)

pub at_80 : (b : ℕ) (rest : List ℕ) → 0x80 ≤ b → b < 0xc0 → head_at (b ∷ rest) ≡ atom_behind (b - 0x80) rest
unfolding head_at
at_80 b rest low high = rw (ltb_no b 0x80 low, ltb_yes b 0xc0 high) refl

pub at_c0 : (b : ℕ) (rest : List ℕ) → 0xc0 ≤ b → b < 0xe0 → head_at (b ∷ rest) ≡ prefixed 1 0x40 (b - 0xc0) rest
unfolding head_at
at_c0 b rest low high = rw (ltb_no b 0x80 (omega arith), ltb_no b 0xc0 low, ltb_yes b 0xe0 high) refl

pub at_e0 : (b : ℕ) (rest : List ℕ) → 0xe0 ≤ b → b < 0xf0 → head_at (b ∷ rest) ≡ prefixed 2 0x2000 (b - 0xe0) rest
unfolding head_at
at_e0 b rest low high = rw (ltb_no b 0x80 (omega arith), ltb_no b 0xc0 (omega arith), ltb_no b 0xe0 low, ltb_yes b 0xf0 high) refl

pub at_f0 : (b : ℕ) (rest : List ℕ) → 0xf0 ≤ b → b < 0xf8 → head_at (b ∷ rest) ≡ prefixed 3 0x10_0000 (b - 0xf0) rest
unfolding head_at
at_f0 b rest low high = rw (ltb_no b 0x80 (omega arith), ltb_no b 0xc0 (omega arith), ltb_no b 0xe0 (omega arith), ltb_no b 0xf0 low, ltb_yes b 0xf8 high) refl

long_is : (least size : ℕ) (rest : List ℕ) → least ≤ size → long_atom least size rest ≡ atom_behind size rest
long_is least size rest h = rw (ltb_no size least h) refl

head_one : (size : ℕ) (rest : List ℕ) → size < 0x40 → head_at ((0x80 + size) ∷ rest) ≡ atom_behind size rest
head_one size rest h =
    let high : 0x80 + size - 0x80 ≡ size = omega arith in
    at_80 (0x80 + size) rest (omega arith) (omega arith) ∙ ap (λ n. atom_behind n rest) high

head_two : (size : ℕ) (rest : List ℕ) → 0x40 ≤ size → size < 0x2000 → head_at ((0xc0 + size / 256) ∷ (size % 256) ∷ rest) ≡ atom_behind size rest
head_two size rest low high =
    let whole : (0xc0 + size / 256 - 0xc0) * 256 + size % 256 ≡ size = omega arith in
    at_c0 (0xc0 + size / 256) ((size % 256) ∷ rest) (omega arith) (omega arith)
    ∙ ap (λ n. long_atom 0x40 n rest) whole ∙ long_is 0x40 size rest low

head_three : (size : ℕ) (rest : List ℕ) → 0x2000 ≤ size → size < 0x10_0000 → head_at ((0xe0 + size / 2 ^ 16) ∷ (size / 256 % 256) ∷ (size % 256) ∷ rest) ≡ atom_behind size rest
head_three size rest low high =
    let whole : ((0xe0 + size / 2 ^ 16 - 0xe0) * 256 + size / 256 % 256) * 256 + size % 256 ≡ size = omega arith in
    at_e0 (0xe0 + size / 2 ^ 16) ((size / 256 % 256) ∷ (size % 256) ∷ rest) (omega arith) (omega arith)
    ∙ ap (λ n. long_atom 0x2000 n rest) whole ∙ long_is 0x2000 size rest low

head_four : (size : ℕ) (rest : List ℕ) → 0x10_0000 ≤ size → size < 2 ^ 27 → head_at ((0xf0 + size / 2 ^ 24) ∷ (size / 2 ^ 16 % 256) ∷ (size / 256 % 256) ∷ (size % 256) ∷ rest) ≡ atom_behind size rest
head_four size rest low high =
    let whole : (((0xf0 + size / 2 ^ 24 - 0xf0) * 256 + size / 2 ^ 16 % 256) * 256 + size / 256 % 256) * 256 + size % 256 ≡ size = omega arith in
    at_f0 (0xf0 + size / 2 ^ 24) ((size / 2 ^ 16 % 256) ∷ (size / 256 % 256) ∷ (size % 256) ∷ rest) (omega arith) (omega arith)
    ∙ ap (λ n. long_atom 0x10_0000 n rest) whole ∙ long_is 0x10_0000 size rest low

-- the four forms of a prefix
pub prefix_one : (size : ℕ) → size < 0x40 → prefix size ≡ (0x80 + size) ∷ []
prefix_one size h = rw (ltb_yes size 0x40 h) refl

pub prefix_two : (size : ℕ) → 0x40 ≤ size → size < 0x2000 → prefix size ≡ (0xc0 + size / 256) ∷ (size % 256) ∷ []
prefix_two size low h = rw (ltb_no size 0x40 low, ltb_yes size 0x2000 h) refl

pub prefix_three : (size : ℕ) → 0x2000 ≤ size → size < 0x10_0000 → prefix size ≡ (0xe0 + size / 2 ^ 16) ∷ (size / 256 % 256) ∷ (size % 256) ∷ []
prefix_three size low h = rw (ltb_no size 0x40 (omega arith), ltb_no size 0x2000 low, ltb_yes size 0x10_0000 h) refl

pub prefix_four : (size : ℕ) → 0x10_0000 ≤ size → prefix size ≡ (0xf0 + size / 2 ^ 24) ∷ (size / 2 ^ 16 % 256) ∷ (size / 256 % 256) ∷ (size % 256) ∷ []
prefix_four size low = rw (ltb_no size 0x40 (omega arith), ltb_no size 0x2000 (omega arith), ltb_no size 0x10_0000 low) refl

-- Behind the prefix of a length stands an atom of that length.
pub head_at-prefix : (size : ℕ) (rest : List ℕ) → size < 2 ^ 27 → head_at (prefix size ++ rest) ≡ atom_behind size rest
head_at-prefix size rest h =
    ⊎_elim (λ (a : size < 0x40). ap (λ p. head_at (p ++ rest)) (prefix_one size a) ∙ head_one size rest a)
    (λ (a : 0x40 ≤ size).
    ⊎_elim (λ (b : size < 0x2000). ap (λ p. head_at (p ++ rest)) (prefix_two size a b) ∙ head_two size rest a b)
    (λ (b : 0x2000 ≤ size).
    ⊎_elim (λ (c : size < 0x10_0000). ap (λ p. head_at (p ++ rest)) (prefix_three size b c) ∙ head_three size rest b c)
    (λ (c : 0x10_0000 ≤ size). ap (λ p. head_at (p ++ rest)) (prefix_four size c) ∙ head_four size rest c h)
    (cases_lt size 0x10_0000))
    (cases_lt size 0x2000))
    (cases_lt size 0x40)
