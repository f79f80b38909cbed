-- Whether a block's bytes are accepted on a chain, and the block as the chain then has it. Source: Chia documentation of the
-- coin set; the rules' numbers and the reward coin are this project's own.
use Rattle.std.specs.Prelude.{ℕ, suc, ◌==◌, ◌&&◌, ◌||◌, List, ◌++◌, map, nat_lt, Bool, not, Option, option_to_list, Result, Ok, Err}
use Rattle.coin_facts.specs.declared.coin.Coin.{Coin}
use Rattle.coin_facts.specs.CoinId.{coin_id}
use Rattle.coin_facts.specs.Steps.{when}
use Rattle.coin_facts.specs.IdLists.{is_same_id, is_among}
use Rattle.block_spec.specs.declared.block.Block.{Block}
use Rattle.block_spec.specs.BlockTree.{block_hash}
use Rattle.block_spec.specs.BlockReading.{block_of}
use Rattle.chain_spec.specs.declared.chain.Peak.{Peak}
use Rattle.chain_spec.specs.Chain.{Ledger, is_in_chain, Connected}
use Rattle.cond_spec.specs.Acts.{created_coins, spent_ids}
use Rattle.judge_spec.specs.declared.rule.Rule.TheVariants.{NotABlock, NotNext, NotLater}
use Rattle.judge_spec.specs.Rules.{number_of}
use Rattle.judge_spec.specs.Facts.{Facts, acts_of}
use Rattle.judge_spec.specs.Checks.{Terms}
use Rattle.judge_spec.specs.Judgement.{Verdict, Fine, Broken, unless_broken, judgement}

pub data BlockVerdict : Type 0 where
  Accepts : (block : Block) (cost fee : ℕ) → BlockVerdict
  Breaks : (rule place : ℕ) → BlockVerdict

-- Rule 41: previous hash or height don't follow the peak.
abbrev pub follows : Peak → Block → Bool
follows peak block = is_same_id block.previous peak.hash && (block.height == suc peak.height)

abbrev pub not_next : Peak → Block → Option ℕ
not_next peak block = when (not (follows peak block)) 0

-- Rule 42: the seconds aren't more than the peak's.
abbrev pub not_later : Peak → Block → Option ℕ
not_later peak block = when (not (nat_lt peak.seconds block.seconds)) 0

abbrev pub verdict_of_block : Terms → Ledger → Block → Verdict
verdict_of_block terms ledger block =
    unless_broken NotNext (not_next ledger.peak block)
    (unless_broken NotLater (not_later ledger.peak block)
    (judgement terms ledger block.spends block.attested))

abbrev pub by_verdict : Block → Verdict → BlockVerdict
by_verdict block (Fine cost fee) = Accepts block cost fee
by_verdict block (Broken rule place) = Breaks rule place

-- Rule 40: the bytes aren't a block.
abbrev pub if_block : Terms → Ledger → Result Block ℕ → BlockVerdict
if_block terms ledger (Ok block) = by_verdict block (verdict_of_block terms ledger block)
if_block terms ledger (Err place) = Breaks (number_of NotABlock) place

-- 40, 41, 42, and then 2 to 23
abbrev pub block_judgement : Terms → Ledger → List ℕ → BlockVerdict
block_judgement terms ledger bytes = if_block terms ledger (block_of bytes)

-- ---- the block as the chain has it

abbrev pub reward_coin : ℕ → Block → Coin
reward_coin reward block = record { parent = block.previous; puzzle_hash = block.reward_hash; amount = reward }

-- The reward coin is made unless the reward is 0, or its id is in the chain or made by the block.
abbrev pub is_rewarded : ℕ → Ledger → Block → List Coin → Bool
is_rewarded reward ledger block created =
    let id = coin_id (reward_coin reward block) in
    nat_lt 0 reward && not (is_in_chain ledger id || is_among (map coin_id created) id)

abbrev pub with_reward : ℕ → Ledger → Block → List Coin → List Coin
with_reward reward ledger block created =
    created ++ option_to_list (when (is_rewarded reward ledger block created) (reward_coin reward block))

-- a block of these facts, with its coins and then the reward coin
abbrev pub connected_block : ℕ → Ledger → Block → List Facts → Connected
connected_block reward ledger block list = record {
  hash = block_hash block;
  seconds = block.seconds;
  spent = spent_ids (map acts_of list);
  created = with_reward reward ledger block (created_coins (map acts_of list));
}
