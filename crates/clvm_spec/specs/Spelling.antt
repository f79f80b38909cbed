-- The one spelling of a tree as bytes. Source: serialization of the CLVM reference, shortest forms only, which
-- is this project's own rule.
use Rattle.std.specs.Prelude.{◌≡◌, ℕ, ◌+◌, ◌/◌, ◌%◌, ◌^◌, ◌<◌, Bool, List, [], ◌∷◌, ◌++◌, length, nat_lt, if◌then◌else◌}
use Rattle.clvm_spec.specs.Tree.{Tree, Atom, Pair}

-- what stands before an atom of this many bytes
abbrev pub prefix : ℕ → List ℕ
prefix size =
    if nat_lt size 0x40 then (0x80 + size) ∷ []
    else if nat_lt size 0x2000 then (0xc0 + size / 256) ∷ (size % 256) ∷ []
    else if nat_lt size 0x10_0000 then (0xe0 + size / 2 ^ 16) ∷ (size / 256 % 256) ∷ (size % 256) ∷ []
    else (0xf0 + size / 2 ^ 24) ∷ (size / 2 ^ 16 % 256) ∷ (size / 256 % 256) ∷ (size % 256) ∷ []

abbrev pub prefixed_atom : List ℕ → List ℕ
prefixed_atom bytes = prefix (length bytes) ++ bytes

-- whether an atom of this one byte has no prefix
abbrev pub is_bare : ℕ → Bool
is_bare b = nat_lt b 0x80

-- A byte below 0x80 is itself. Every other atom has its prefix and its bytes, and so the empty one is 0x80.
abbrev pub atom_spelling : List ℕ → List ℕ
atom_spelling [] = prefixed_atom []
atom_spelling (b ∷ []) = if is_bare b then b ∷ [] else prefixed_atom (b ∷ [])
atom_spelling (b ∷ c ∷ bytes) = prefixed_atom (b ∷ c ∷ bytes)

abbrev pub pair_mark : ℕ
pair_mark = 0xff

-- A pair is 0xff, its first and its rest.
abbrev pub spelling : Tree → List ℕ
spelling (Atom bytes) = atom_spelling bytes
spelling (Pair first rest) = pair_mark ∷ spelling first ++ spelling rest

-- An atom of 2 ^ 27 bytes or more has no prefix, and a tree with one no spelling.
abbrev pub IsPrefixed : ℕ → Type 0
IsPrefixed size = size < 2 ^ 27

abbrev pub HasSpelling : Tree → Type 0
HasSpelling (Atom bytes) = IsPrefixed (length bytes)
HasSpelling (Pair first rest) = HasSpelling first × HasSpelling rest

abbrev pub Spells : Tree → List ℕ → Type 0
Spells tree bytes = HasSpelling tree × (bytes ≡ spelling tree)
