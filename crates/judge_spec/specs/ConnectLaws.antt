-- The law that an accepted block can be connected. It follows from the rules.
use Rattle.std.specs.Prelude.{◌≡◌, ℕ, ◌^◌, ◌<◌, List}
use Rattle.block_spec.specs.declared.block.Block.{Block}
use Rattle.chain_spec.specs.Chain.{Ledger, Chain, ledger_of}
use Rattle.chain_spec.specs.Soundness.{CanConnect, IsSound}
use Rattle.chain_spec.specs.ChangeLaws.{with_one_more}
use Rattle.judge_spec.specs.Facts.{Facts}
use Rattle.judge_spec.specs.Checks.{Terms}
use Rattle.judge_spec.specs.Judgement.{Fine, spends_in}
use Rattle.judge_spec.specs.BlockJudgement.{verdict_of_block, connected_block}
use Rattle.judge_spec.specs.JudgeLaws.{AreFound}

-- a block whose spends have these facts, and which breaks no rule on a ledger
pub record IsFineBlock (terms : Terms) (ledger : Ledger) (block : Block) (list : List Facts) (cost fee : ℕ) : Type 0 where
  pub height : block.height < 2 ^ 32
  pub found : AreFound terms.limit list
  pub these : spends_in list ≡ block.spends
  pub fine : verdict_of_block terms ledger block ≡ Fine cost fee

-- Such a block can be connected, with its reward coin.
abbrev pub FineConnects : Type 0
FineConnects = (reward : ℕ) (terms : Terms) (ledger : Ledger) (block : Block) (list : List Facts) (cost fee : ℕ) →
    IsFineBlock terms ledger block list cost fee → CanConnect ledger (connected_block reward ledger block list)

-- So a sound chain stays sound.
abbrev pub FineStaysSound : Type 0
FineStaysSound = (reward : ℕ) (terms : Terms) (chain : Chain) (block : Block) (list : List Facts) (cost fee : ℕ) →
    IsSound chain → IsFineBlock terms (ledger_of chain) block list cost fee →
    IsSound (with_one_more (connected_block reward (ledger_of chain) block list) chain)
