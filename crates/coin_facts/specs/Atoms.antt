-- What the atoms of conditions, spends and blocks stand for: hashes, keys, amounts and other small numbers. Source: Chia
-- documentation of conditions; that a number is read of its shortest atom alone is this project's own.
use Rattle.std.specs.Prelude.{ℕ, ◌^◌, ◌==◌, ◌&&◌, pos, List, length, nat_lt, Bool, Option, Some, None, option_map}
use Rattle.std.specs.Str.{bytes_eq}
use Rattle.clvm_spec.specs.Tree.{Tree, Atom, Pair}
use Rattle.clvm_spec.specs.Numbers.{unsigned, shortest_atom}
use Rattle.coin_facts.specs.declared.hash32.Hash32.{Hash32}
use Rattle.coin_facts.specs.declared.sizes.TheConstants.{HASH_BYTES, KEY_BYTES}
use Rattle.coin_facts.specs.Steps.{when}

-- the bytes of an atom that a test lets through
abbrev pub atom_where : (List ℕ → Bool) → Tree → Option (List ℕ)
atom_where test (Atom bytes) = when (test bytes) bytes
atom_where test (Pair first rest) = None

-- the bytes of any atom
abbrev pub atom_bytes : Tree → Option (List ℕ)
atom_bytes (Atom bytes) = Some bytes
atom_bytes (Pair first rest) = None

-- A hash is an atom of 32 bytes.
abbrev pub hash_of : Tree → Option Hash32
hash_of tree = option_map (λ bytes. record { bytes = bytes }) (atom_where (λ bytes. length bytes == HASH_BYTES) tree)

-- A key is an atom of 48 bytes.
abbrev pub key_of : Tree → Option (List ℕ)
key_of tree = atom_where (λ bytes. length bytes == KEY_BYTES) tree

-- the atom of a whole number
abbrev pub number_atom : ℕ → Tree
number_atom n = Atom (shortest_atom (pos n))

-- A whole number below a limit is read of its shortest atom.
abbrev pub is_shortest_below : ℕ → List ℕ → Bool
is_shortest_below limit bytes = nat_lt (unsigned bytes) limit && bytes_eq bytes (shortest_atom (pos (unsigned bytes)))

abbrev pub number_below : ℕ → Tree → Option ℕ
number_below limit tree = option_map unsigned (atom_where (is_shortest_below limit) tree)

-- An amount is below 2 ^ 64.
abbrev pub amount_of : Tree → Option ℕ
amount_of tree = number_below (2 ^ 64) tree
