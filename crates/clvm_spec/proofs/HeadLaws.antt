-- What stands behind a head is an end of what the head stands before, and shorter.
use Rattle.std.proofs.Common.{◌≡◌, ℕ, zero, suc, ◌+◌, ◌*◌, ◌-◌, ◌<◌, ◌≤◌, ◌==◌, Bool, true, false, cond, nat_lt, List, [], ◌∷◌, length, take, drop, refl, ◌∙◌, ap, subst, arith}
use Rattle.std.proofs.lemmas.List.{length-drop, drop-drop}
use Rattle.clvm_spec.specs.Reading.{Flaw, Cut, LongSpelling, BadPrefix, Head, PairMark, Leaf, Beginning, Begins, Flawed, leaf, atom_behind, long_atom, prefixed, head_at}

-- The fact holds of what stands behind a head.
abbrev pub Leaves : (List ℕ → Type 0) → Beginning → Type 0
Leaves P (Begins head rest) = P rest
Leaves P (Flawed flaw) = Unit {0}

-- for a fact that ends of a list keep
module _ (P : List ℕ → Type 0) (ends : (k : ℕ) (bytes : List ℕ) → P bytes → P (drop k bytes)) where
  leaves_if : (test : Bool) (f g : Beginning) → Leaves P f → Leaves P g → Leaves P (cond test f g)
  leaves_if true f g hf hg = hf
  leaves_if false f g hf hg = hg

  leaves_leaf : (atom rest : List ℕ) → P rest → Leaves P (leaf atom rest)
  leaves_leaf [] rest h = h
  leaves_leaf (b ∷ []) rest h = leaves_if (nat_lt b 0x80) (Flawed LongSpelling) (Begins (Leaf (b ∷ [])) rest) tt h
  leaves_leaf (b ∷ c ∷ atom) rest h = h

  leaves_atom : (size : ℕ) (bytes : List ℕ) → P bytes → Leaves P (atom_behind size bytes)
  leaves_atom size bytes h =
      leaves_if (nat_lt (length bytes) size) (Flawed Cut) (leaf (take size bytes) (drop size bytes)) tt
      (leaves_leaf (take size bytes) (drop size bytes) (ends size bytes h))

  leaves_long : (least size : ℕ) (bytes : List ℕ) → P bytes → Leaves P (long_atom least size bytes)
  leaves_long least size bytes h = leaves_if (nat_lt size least) (Flawed LongSpelling) (atom_behind size bytes) tt (leaves_atom size bytes h)

  leaves_prefixed : (more least size : ℕ) (bytes : List ℕ) → P bytes → Leaves P (prefixed more least size bytes)
  leaves_prefixed zero least size bytes h = leaves_long least size bytes h
  leaves_prefixed (suc more) least size [] h = tt
  leaves_prefixed (suc more) least size (b ∷ rest) h = leaves_prefixed more least (size * 256 + b) rest (ends 1 (b ∷ rest) h)

  leaves_front : (b : ℕ) (rest : List ℕ) → P rest → Leaves P (head_at (b ∷ rest))
  unfolding head_at
  leaves_front b rest h =
      leaves_if (nat_lt b 0x80) _ _ h
      (leaves_if (nat_lt b 0xc0) _ _ (leaves_atom (b - 0x80) rest h)
      (leaves_if (nat_lt b 0xe0) _ _ (leaves_prefixed 1 0x40 (b - 0xc0) rest h)
      (leaves_if (nat_lt b 0xf0) _ _ (leaves_prefixed 2 0x2000 (b - 0xe0) rest h)
      (leaves_if (nat_lt b 0xf8) _ _ (leaves_prefixed 3 0x10_0000 (b - 0xf0) rest h)
      (leaves_if (b == 0xff) (Begins PairMark rest) (Flawed BadPrefix) h tt)))))

no_head : (head : Head) (rest : List ℕ) → head_at [] ≡ Begins head rest → ⊥
unfolding head_at
no_head head rest e = cc

-- A head takes at least one byte.
pub head_shrinks : (bytes : List ℕ) (head : Head) (rest : List ℕ) → head_at bytes ≡ Begins head rest → length rest < length bytes
head_shrinks [] head rest e = absurd (no_head head rest e)
head_shrinks (b ∷ bytes) head rest e =
    let P : List ℕ → Type 0 = λ xs. length xs ≤ length bytes in
    let h = subst (Leaves P) e (leaves_front P (λ k xs le. omega (arith, length-drop k xs)) b bytes (omega arith)) in
    omega (arith, h)

-- Behind a head stands an end of the bytes.
pub head_suffix : (bytes : List ℕ) (head : Head) (rest : List ℕ) → head_at bytes ≡ Begins head rest → (k : ℕ) × (rest ≡ drop k bytes)
head_suffix [] head rest e = absurd (no_head head rest e)
head_suffix (b ∷ bytes) head rest e =
    let P : List ℕ → Type 0 = λ xs. (k : ℕ) × (xs ≡ drop k (b ∷ bytes)) in
    subst (Leaves P) e (leaves_front P (λ k xs h. (h.0 + k, ap (drop k) h.1 ∙ drop-drop k h.0 (b ∷ bytes))) b bytes (1, refl))

-- A flaw other than a cut is not that of no bytes.
pub flaw_has_byte : (bytes : List ℕ) (flaw : Flaw) → head_at bytes ≡ Flawed flaw → (flaw ≡ Cut → ⊥) → 0 < length bytes
unfolding head_at
flaw_has_byte [] flaw e h = absurd (h cc)
flaw_has_byte (b ∷ bytes) flaw e h = omega arith
