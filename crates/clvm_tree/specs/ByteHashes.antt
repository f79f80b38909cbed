-- Hashes of the atoms of one byte, by the byte, as far as they are known. Source: this project's own.
use Rattle.std.specs.Prelude.{◌≡◌, ℕ, List, [], ◌∷◌, Option, Some, None, slice_index_or}
use Rattle.clvm_spec.specs.Hashing.{atom_hash}

abbrev pub AreByteHashes : List (Option (List ℕ)) → Type 0
AreByteHashes known = (byte : ℕ) (hash : List ℕ) → slice_index_or known byte None ≡ Some hash → hash ≡ atom_hash (byte ∷ [])
