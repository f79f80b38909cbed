-- The tree, the bytes and the hash of a block. Source: this project's own.
use Rattle.std.specs.Prelude.{ℕ, List, [], ◌∷◌}
use Rattle.clvm_spec.specs.Tree.{Tree, Atom, list_tree}
use Rattle.clvm_spec.specs.Spelling.{spelling}
use Rattle.clvm_spec.specs.Hashing.{tree_hash}
use Rattle.coin_facts.specs.declared.hash32.Hash32.{Hash32}
use Rattle.coin_facts.specs.Atoms.{number_atom}
use Rattle.block_spec.specs.declared.block.Block.{Block}
use Rattle.block_spec.specs.BundleTree.{generator, attested_tree}

-- (previous height seconds reward_hash generator attested)
abbrev pub block_tree : Block → Tree
block_tree block = list_tree
    (Atom block.previous.bytes ∷ number_atom block.height ∷ number_atom block.seconds ∷ Atom block.reward_hash.bytes
    ∷ generator block.spends ∷ attested_tree block.attested ∷ [])

-- a block as bytes
abbrev pub block_bytes : Block → List ℕ
block_bytes block = spelling (block_tree block)

abbrev pub block_hash : Block → Hash32
block_hash block = record { bytes = tree_hash (block_tree block) }
