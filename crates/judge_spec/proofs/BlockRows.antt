-- Verdicts on blocks, and the blocks as the chain has them, computed.
use Rattle.std.proofs.Common.{◌≡◌, ℕ, ◌+◌, ◌*◌, None, List, [], ◌∷◌, ◌++◌, refl}
use Rattle.sha2.specs.Sha256.{sha256, digest_bytes, hash_after, compress, rounds, schedule, first_words}
use Rattle.clvm_spec.specs.Reading.{head_at, tree_at_front}
use Rattle.clvm_spec.specs.Numbers.{without_sign_bytes, shortest_atom}
use Rattle.clvm_spec.specs.Evaluation.{evaluation}
use Rattle.coin_facts.specs.declared.coin.Coin.{Coin}
use Rattle.coin_facts.specs.CoinId.{coin_id}
use Rattle.block_spec.specs.declared.spend.Spend.{Spend}
use Rattle.block_spec.specs.declared.block.Block.{Block}
use Rattle.block_spec.specs.BlockTree.{block_bytes}
use Rattle.block_spec.specs.BlockReading.{block_of}
use Rattle.chain_spec.specs.declared.chain.Record.{Record}
use Rattle.cond_spec.specs.declared.condition.Condition.TheVariants.{CreateCoin}
use Rattle.cond_spec.specs.Conditions.{conditions_of}
use Rattle.cond_spec.proofs.ConditionRows.{hash}
use Rattle.judge_spec.specs.Facts.{Facts, facts_of}
use Rattle.judge_spec.specs.Judgement.{judgement}
use Rattle.judge_spec.specs.BlockJudgement.{BlockVerdict, Accepts, Breaks, block_judgement, connected_block}
use Rattle.judge_spec.proofs.RowParts.{asks, ledger, there, pays}

-- ---- the parts

-- a block on the peak of height 10 and 1,000 seconds
abbrev next : List Spend → Block
next spends = record { previous = hash 0x22; height = 11; seconds = 1001; reward_hash = hash 0x33; spends = spends; attested = [] }

abbrev judged_within : ℕ → List Record → List ℕ → BlockVerdict
judged_within limit records bytes = block_judgement (record { limit = limit }) (ledger records) bytes

abbrev judged : List Record → Block → BlockVerdict
judged records block = judged_within 11_000_000_000 records (block_bytes block)

-- ---- what is accepted

an_empty_block : judged [] (next []) ≡ Accepts (next []) 60_000 0
unfolding block_of judgement head_at tree_at_front without_sign_bytes shortest_atom
an_empty_block = refl

-- Rule 5 asks each spend, and here is none.
an_empty_block_over_the_limit : judged_within 0 [] (block_bytes (next [])) ≡ Accepts (next []) 60_000 0
unfolding block_of judgement head_at tree_at_front without_sign_bytes shortest_atom
an_empty_block_over_the_limit = refl

a_block_with_a_spend : judged (there (asks (pays 900 ∷ [])) ∷ []) (next (asks (pays 900 ∷ []) ∷ [])) ≡ Accepts (next (asks (pays 900 ∷ []) ∷ [])) (12_000 * 93 + 20 + 1_800_000) 100
unfolding block_of judgement facts_of conditions_of evaluation head_at tree_at_front without_sign_bytes shortest_atom sha256 digest_bytes hash_after compress rounds schedule first_words
a_block_with_a_spend = refl

-- ---- the rules of blocks

rule_40_of_no_block : judged_within 11_000_000_000 [] (0x80 ∷ []) ≡ Breaks 40 0
unfolding block_of head_at tree_at_front
rule_40_of_no_block = refl

rule_40_of_cut_bytes : judged_within 11_000_000_000 [] (0xff ∷ 0xa0 ∷ 0x22 ∷ []) ≡ Breaks 40 3
unfolding block_of head_at tree_at_front
rule_40_of_cut_bytes = refl

rule_40_of_a_byte_behind : judged_within 11_000_000_000 [] (block_bytes (next []) ++ 0x80 ∷ []) ≡ Breaks 40 83
unfolding block_of judgement head_at tree_at_front without_sign_bytes shortest_atom
rule_40_of_a_byte_behind = refl

rule_41_by_the_hash : judged [] (record (next []) { previous = hash 0x23 }) ≡ Breaks 41 0
unfolding block_of judgement head_at tree_at_front without_sign_bytes shortest_atom
rule_41_by_the_hash = refl

rule_41_by_the_height : judged [] (record (next []) { height = 12 }) ≡ Breaks 41 0
unfolding block_of judgement head_at tree_at_front without_sign_bytes shortest_atom
rule_41_by_the_height = refl

rule_42 : judged [] (record (next []) { seconds = 1000 }) ≡ Breaks 42 0
unfolding block_of judgement head_at tree_at_front without_sign_bytes shortest_atom
rule_42 = refl

-- ---- two at once

rules_40_and_41 : judged_within 11_000_000_000 [] (block_bytes (record (next []) { height = 12 }) ++ 0x80 ∷ []) ≡ Breaks 40 83
unfolding block_of judgement head_at tree_at_front without_sign_bytes shortest_atom
rules_40_and_41 = refl

rules_41_and_42 : judged [] (record (next []) { height = 10; seconds = 1000 }) ≡ Breaks 41 0
unfolding block_of judgement head_at tree_at_front without_sign_bytes shortest_atom
rules_41_and_42 = refl

rules_42_and_2 : judged [] (record (next (asks [] ∷ asks [] ∷ [])) { seconds = 1000 }) ≡ Breaks 42 0
unfolding block_of judgement facts_of conditions_of evaluation head_at tree_at_front without_sign_bytes shortest_atom sha256 digest_bytes hash_after compress rounds schedule first_words
rules_42_and_2 = refl

rule_2_of_a_block : judged [] (next (asks [] ∷ asks [] ∷ [])) ≡ Breaks 2 1
unfolding block_of judgement facts_of conditions_of evaluation head_at tree_at_front without_sign_bytes shortest_atom sha256 digest_bytes hash_after compress rounds schedule first_words
rule_2_of_a_block = refl

-- A block breaks no rule 3: its coin is that of the puzzle, which here isn't there.
another_puzzle_is_another_coin : judged (there (asks []) ∷ []) (next (record (asks []) { puzzle = (asks (pays 900 ∷ [])).puzzle } ∷ [])) ≡ Breaks 11 0
unfolding block_of judgement facts_of conditions_of evaluation head_at tree_at_front without_sign_bytes shortest_atom sha256 digest_bytes hash_after compress rounds schedule first_words
another_puzzle_is_another_coin = refl

-- ---- the reward coin

abbrev reward : ℕ → Coin
reward amount = record { parent = hash 0x22; puzzle_hash = hash 0x33; amount = amount }

a_reward_is_created_last : (connected_block 500 (ledger []) (next []) []).created ≡ reward 500 ∷ []
a_reward_is_created_last = refl

no_reward_of_nothing : (connected_block 0 (ledger []) (next []) []).created ≡ []
no_reward_of_nothing = refl

no_reward_that_is_there : (connected_block 500 (ledger (record { coin = reward 500; height = 4; seconds = 400; spent = None } ∷ [])) (next []) []).created ≡ []
unfolding sha256 digest_bytes hash_after compress rounds schedule first_words without_sign_bytes shortest_atom
no_reward_that_is_there = refl

-- The previous hash may be the id of a coin that the block spends.
abbrev made : Facts
made = record { spend = asks []; cost = 0; conditions = CreateCoin (hash 0x33) 500 ∷ [] }

no_reward_that_is_made : (connected_block 500 (ledger []) (record (next []) { previous = coin_id made.spend.coin }) (made ∷ [])).created ≡ record { parent = coin_id made.spend.coin; puzzle_hash = hash 0x33; amount = 500 } ∷ []
unfolding sha256 digest_bytes hash_after compress rounds schedule first_words without_sign_bytes shortest_atom
no_reward_that_is_made = refl

another_reward_beside_what_is_made : (connected_block 501 (ledger []) (record (next []) { previous = coin_id made.spend.coin }) (made ∷ [])).created
    ≡ record { parent = coin_id made.spend.coin; puzzle_hash = hash 0x33; amount = 500 } ∷ record { parent = coin_id made.spend.coin; puzzle_hash = hash 0x33; amount = 501 } ∷ []
unfolding sha256 digest_bytes hash_after compress rounds schedule first_words without_sign_bytes shortest_atom
another_reward_beside_what_is_made = refl
