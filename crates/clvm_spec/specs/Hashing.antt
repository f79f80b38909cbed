-- The tree hash: of 1 and the bytes for an atom, of 2 and both hashes for a pair. Source: Chialisp reference, over
-- FIPS 180-4.
use Rattle.std.specs.Prelude.{ℕ, List, ◌∷◌, ◌++◌}
use Rattle.sha2.specs.Sha256.{sha256}
use Rattle.clvm_spec.specs.Tree.{Tree, Atom, Pair, nil, listed}

abbrev pub atom_hash : List ℕ → List ℕ
atom_hash bytes = sha256 (1 ∷ bytes)

-- of the hashes of first and rest
abbrev pub pair_hash : List ℕ → List ℕ → List ℕ
pair_hash first rest = sha256 (2 ∷ first ++ rest)

abbrev pub tree_hash : Tree → List ℕ
tree_hash (Atom bytes) = atom_hash bytes
tree_hash (Pair first rest) = pair_hash (tree_hash first) (tree_hash rest)

-- of a proper list, from the hashes of its elements
abbrev pub list_hash : List (List ℕ) → List ℕ
list_hash hashes = listed (tree_hash nil) pair_hash hashes
