-- The law that a written block is read. It follows from the definitions.
use Rattle.std.specs.Prelude.{◌≡◌, ◌^◌, ◌<◌, IsTrue, length, Ok}
use Rattle.std.specs.List.{AllByRecursion}
use Rattle.clvm_spec.specs.Laws.{AreBytes}
use Rattle.clvm_spec.specs.Spelled.{is_spelled, spelled_tree}
use Rattle.coin_facts.specs.declared.hash32.Hash32.{Hash32}
use Rattle.coin_facts.specs.declared.sizes.TheConstants.{HASH_BYTES}
use Rattle.block_spec.specs.declared.spend.Spend.{Spend}
use Rattle.block_spec.specs.declared.block.Block.{Block}
use Rattle.block_spec.specs.Attestable.{AreAttestable}
use Rattle.block_spec.specs.BlockTree.{block_bytes}
use Rattle.block_spec.specs.BlockReading.{hash_of_tree, block_of}

abbrev pub IsHash : Hash32 → Type 0
IsHash hash = length hash.bytes ≡ HASH_BYTES

-- What a spend's type keeps, and that the coin's puzzle hash is that of the puzzle: the bytes of a block don't have it.
pub record IsWritableSpend (spend : Spend) : Type 0 where
  pub parent : IsHash spend.coin.parent
  pub amount : spend.coin.amount < 2 ^ 64
  pub own : hash_of_tree (spelled_tree spend.puzzle) ≡ spend.coin.puzzle_hash
  pub puzzle : AreBytes spend.puzzle × IsTrue (is_spelled spend.puzzle)
  pub solution : AreBytes spend.solution × IsTrue (is_spelled spend.solution)

-- the same of a block
pub record IsWritable (block : Block) : Type 0 where
  pub previous : IsHash block.previous
  pub height : block.height < 2 ^ 32
  pub seconds : block.seconds < 2 ^ 64
  pub reward : IsHash block.reward_hash
  pub spends : AllByRecursion IsWritableSpend block.spends
  pub attested : AreAttestable block.attested

-- A block's bytes are read as that block.
abbrev pub WrittenIsRead : Type 0
WrittenIsRead = (block : Block) → IsWritable block → block_of (block_bytes block) ≡ Ok block
