-- The lengths of spellings.
use Rattle.std.proofs.Common.{ℕ, ◌^◌, ◌<◌, ◌≤◌, true, false, cond, nat_lt, List, [], ◌∷◌, length, arith}
use Rattle.std.proofs.lemmas.List.{length-append}
use Rattle.clvm_spec.specs.Tree.{Tree, Atom, Pair}
use Rattle.clvm_spec.specs.Spelling.{prefix, atom_spelling, spelling, HasSpelling}

-- An atom has no more bytes than its spelling.
atom_shorter : (bytes : List ℕ) → length bytes ≤ length (atom_spelling bytes)
atom_shorter [] = omega arith
atom_shorter (b ∷ []) = elim (nat_lt b 0x80) as (λ t. 1 ≤ length (cond t (b ∷ []) (0x81 ∷ b ∷ []))) [ true ↦ omega arith | false ↦ omega arith ]
atom_shorter (b ∷ c ∷ bytes) = omega (arith, length-append (prefix (length (b ∷ c ∷ bytes))) (b ∷ c ∷ bytes))

some_prefix : (size : ℕ) → 1 ≤ length (prefix size)
some_prefix size = grind arith

atom_spelling_some : (bytes : List ℕ) → 1 ≤ length (atom_spelling bytes)
atom_spelling_some [] = omega arith
atom_spelling_some (b ∷ []) = elim (nat_lt b 0x80) as (λ t. 1 ≤ length (cond t (b ∷ []) (0x81 ∷ b ∷ []))) [ true ↦ omega arith | false ↦ omega arith ]
atom_spelling_some (b ∷ c ∷ bytes) = omega (arith, length-append (prefix (length (b ∷ c ∷ bytes))) (b ∷ c ∷ bytes), some_prefix (length (b ∷ c ∷ bytes)))

-- No spelling is empty.
pub spelling_some : (tree : Tree) → 1 ≤ length (spelling tree)
spelling_some (Atom bytes) = atom_spelling_some bytes
spelling_some (Pair first rest) = omega arith

-- What is spelled in fewer than 2 ^ 27 bytes has a spelling.
pub short_has_spelling : (tree : Tree) → length (spelling tree) < 2 ^ 27 → HasSpelling tree
short_has_spelling (Atom bytes) h = omega (arith, h, atom_shorter bytes)
short_has_spelling (Pair first rest) h =
    let whole = length-append (spelling first) (spelling rest) in
    (short_has_spelling first (omega (arith, h, whole)), short_has_spelling rest (omega (arith, h, whole)))
