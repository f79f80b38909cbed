-- Hashes of known trees, and spellings at both sides of each length of a prefix. The digests are computed by an
-- independent program.
use Rattle.std.specs.Prelude.{◌≡◌, ℕ, ◌^◌, ◌≤◌, List, [], ◌∷◌, ◌++◌, length, map, take, codes, pos, negsuc, Some, None, Ok, refl}
use Rattle.std.proofs.Common.{ap, arith}
use Prim.Native.String.{String}
use Rattle.std.proofs.Math.ListN.{replicate}
use Rattle.hex.specs.Hex.{decode_of, decode_pairs}
use Rattle.sha2.specs.Sha256.{sha256, digest_bytes, hash_after, compress, rounds, schedule, first_words}
use Rattle.clvm_spec.specs.Tree.{Tree, Atom, Pair, list_tree}
use Rattle.clvm_spec.specs.Spelling.{spelling, prefix, Spells}
use Rattle.clvm_spec.specs.Reading.{Flaw, Cut, LongSpelling, BadPrefix, Found, Faulty, tree_of, tree_at_front, head_at}
use Rattle.clvm_spec.specs.Hashing.{pair_hash, tree_hash, list_hash}
use Rattle.clvm_spec.specs.Numbers.{number, shortest_atom, without_sign_bytes}
use Rattle.clvm_spec.proofs.Cases.{spelled}

abbrev hashes : String → String → Type 0
hashes spelling digest = Ok (tree_hash (spelled spelling)) ≡ decode_of (codes digest)

hash_of_trees :
    hashes "80" "4bf5122f344554c53bde2ebb8cd2b7e3d1600ad631c385a5d7cce23c7785459a"
    × hashes "01" "9dcf97a184f32623d11a73124ceb99a5709b083721e878a16d78f596718ba7b2"
    × hashes "8180" "3be90d393f91241448d7dceadad32d91c1c94f307805937b46ed01ea669c17c3"
    × hashes "ff0102" "48f6eb3dcb192667016ff10dac09fb21b9388f18d91a863a270f4a91477e8528"
    × hashes "ff0180" "ba4484b961b7a2369d948d06c55b64bdbfaffb326bc13b490ab1215dd33d8d46"
    × hashes "ff8080" "52db9ef97986e7382ef78b8eae2dacdbb2ce823ed1396a0fb2f7f120a2b40a63"
    × hashes "ff02ffff0102ff0180" "25ab054d6f91cf2b9aa6149776e6aad6353a0c6b32575768deeaf959144415d2"
unfolding decode_pairs head_at tree_at_front sha256 digest_bytes hash_after compress rounds schedule first_words
hash_of_trees = (refl, refl, refl, refl, refl, refl, refl)

-- The hash of a proper list, by those of its elements.
hash_of_lists : (trees : List Tree) → list_hash (map tree_hash trees) ≡ tree_hash (list_tree trees)
hash_of_lists [] = refl
hash_of_lists (tree ∷ trees) = ap (pair_hash (tree_hash tree)) (hash_of_lists trees)

-- An atom of 2 ^ 27 bytes has no spelling, and so no pair with it has one.
no_spelling : (atom bytes : List ℕ) → 2 ^ 27 ≤ length atom → Spells (Atom atom) bytes → ⊥
no_spelling atom bytes long h = absurd (omega (arith, long, h.0))

no_spelling_of_pairs : (atom bytes : List ℕ) (tree : Tree) → 2 ^ 27 ≤ length atom → (Spells (Pair (Atom atom) tree) bytes → ⊥) × (Spells (Pair tree (Atom atom)) bytes → ⊥)
no_spelling_of_pairs atom bytes tree long = (λ h. absurd (omega (arith, long, h.0.0)), λ h. absurd (omega (arith, long, h.0.1)))

-- The longest atom of each prefix, and the shortest of the next.
prefixes :
    (prefix 63 ≡ 0xbf ∷ [])
    × (prefix 64 ≡ 0xc0 ∷ 0x40 ∷ [])
    × (prefix 0x1fff ≡ 0xdf ∷ 0xff ∷ [])
    × (prefix 0x2000 ≡ 0xe0 ∷ 0x20 ∷ 0 ∷ [])
    × (prefix 0xf_ffff ≡ 0xef ∷ 0xff ∷ 0xff ∷ [])
    × (prefix 0x10_0000 ≡ 0xf0 ∷ 0x10 ∷ 0 ∷ 0 ∷ [])
    × (prefix 0x7ff_ffff ≡ 0xf7 ∷ 0xff ∷ 0xff ∷ 0xff ∷ [])
prefixes = (refl, refl, refl, refl, refl, refl, refl)

spellings :
    (spelling (Atom []) ≡ 0x80 ∷ [])
    × (spelling (Atom (0 ∷ [])) ≡ 0 ∷ [])
    × (spelling (Atom (0x7f ∷ [])) ≡ 0x7f ∷ [])
    × (spelling (Atom (0x80 ∷ [])) ≡ 0x81 ∷ 0x80 ∷ [])
    × (spelling (Atom (1 ∷ 2 ∷ [])) ≡ 0x82 ∷ 1 ∷ 2 ∷ [])
    × (take 3 (spelling (Atom (replicate 63 7))) ≡ 0xbf ∷ 7 ∷ 7 ∷ [])
    × (take 3 (spelling (Atom (replicate 64 7))) ≡ 0xc0 ∷ 0x40 ∷ 7 ∷ [])
spellings = (refl, refl, refl, refl, refl, refl, refl)

abbrev reads : List ℕ → ℕ → Type 0
reads before size = tree_of (before ++ replicate size 7) ≡ Some (Atom (replicate size 7))

abbrev flawed : List ℕ → ℕ → Flaw → Type 0
flawed before size flaw = tree_at_front (before ++ replicate size 7) ≡ Faulty flaw (before ++ replicate size 7)

-- A prefix that is longer than need be is told before bytes that are missing.
long_prefixes :
    reads (0xbf ∷ []) 63
    × flawed (0xbf ∷ []) 62 Cut
    × reads (0xc0 ∷ 0x40 ∷ []) 64
    × flawed (0xc0 ∷ 0x40 ∷ []) 63 Cut
    × flawed (0xc0 ∷ 0x3f ∷ []) 63 LongSpelling
    × flawed (0xc0 ∷ 0x3f ∷ []) 0 LongSpelling
    × flawed (0xc0 ∷ []) 0 Cut
    × reads (0xdf ∷ 0xff ∷ []) 0x1fff
    × reads (0xe0 ∷ 0x20 ∷ 0 ∷ []) 0x2000
    × flawed (0xe0 ∷ 0x1f ∷ 0xff ∷ []) 0x1fff LongSpelling
    × flawed (0xe0 ∷ 0x20 ∷ []) 0 Cut
    × flawed (0xf0 ∷ 0x0f ∷ 0xff ∷ 0xff ∷ []) 0 LongSpelling
    × flawed (0xf0 ∷ 0x10 ∷ 0 ∷ 0 ∷ []) 0 Cut
    × flawed (0xf7 ∷ 0xff ∷ 0xff ∷ 0xff ∷ []) 0 Cut
    × flawed (0xf0 ∷ 0x10 ∷ 0 ∷ []) 0 Cut
unfolding head_at tree_at_front
long_prefixes = (refl, refl, refl, refl, refl, refl, refl, refl, refl, refl, refl, refl, refl, refl, refl)

-- More bytes than one tree, in a pair and behind it.
pairs :
    (tree_at_front (0xff ∷ 0x80 ∷ 0x80 ∷ 5 ∷ []) ≡ Found (spelled "ff8080") (5 ∷ []))
    × (tree_of (0xff ∷ 0x80 ∷ 0x80 ∷ 5 ∷ []) ≡ None)
    × (tree_at_front (0xff ∷ 0x81 ∷ 0x7f ∷ []) ≡ Faulty LongSpelling (0x81 ∷ 0x7f ∷ []))
    × (tree_at_front (0xff ∷ 0xf8 ∷ 0xff ∷ []) ≡ Faulty BadPrefix (0xf8 ∷ 0xff ∷ []))
    × (tree_at_front [] ≡ Faulty Cut [])
    × (tree_at_front (0x81 ∷ []) ≡ Faulty Cut (0x81 ∷ []))
unfolding decode_pairs head_at tree_at_front
pairs = (refl, refl, refl, refl, refl, refl)

-- Numbers at the borders of one byte and of 128 bits.
numbers :
    (number (0x7f ∷ []) ≡ pos 127)
    × (number (0x80 ∷ []) ≡ negsuc 127)
    × (number (0xff ∷ 0x7f ∷ []) ≡ negsuc 128)
    × (number (0 ∷ 0xff ∷ []) ≡ pos 255)
    × (number (0 ∷ 0 ∷ 5 ∷ []) ≡ pos 5)
    × (number (0xff ∷ 0xff ∷ []) ≡ negsuc 0)
    × (shortest_atom (pos 127) ≡ 0x7f ∷ [])
    × (shortest_atom (negsuc 127) ≡ 0x80 ∷ [])
    × (shortest_atom (negsuc 128) ≡ 0xff ∷ 0x7f ∷ [])
    × (shortest_atom (pos 0x8000) ≡ 0 ∷ 0x80 ∷ 0 ∷ [])
    × (shortest_atom (negsuc 0x8000) ≡ 0xff ∷ 0x7f ∷ 0xff ∷ [])
    × (length (shortest_atom (pos 170141183460469231731687303715884105727)) ≡ 16)
    × (length (shortest_atom (negsuc 170141183460469231731687303715884105727)) ≡ 16)
unfolding without_sign_bytes shortest_atom
numbers = (refl, refl, refl, refl, refl, refl, refl, refl, refl, refl, refl, refl, refl)
