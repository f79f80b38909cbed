-- Steps of a session and a history of two lanes, computed.
use Rattle.std.proofs.Common.{◌≡◌, ℕ, None, List, [], ◌∷◌, length, inl, inr, refl}
use Rattle.sha2.specs.Sha256.{sha256, digest_bytes, hash_after, compress, rounds, schedule, first_words}
use Rattle.clvm_spec.specs.Reading.{head_at, tree_at_front}
use Rattle.clvm_spec.specs.Numbers.{without_sign_bytes, shortest_atom}
use Rattle.clvm_spec.specs.Path.{followed}
use Rattle.clvm_spec.specs.OperatorTable.{applied, operator_of}
use Rattle.clvm_spec.specs.Evaluation.{evaluation}
use Rattle.coin_facts.specs.declared.coin.Coin.{Coin}
use Rattle.coin_facts.specs.CoinId.{coin_id}
use Rattle.block_spec.specs.declared.bundle.Bundle.{Bundle}
use Rattle.block_spec.specs.BundleTree.{bundle_id}
use Rattle.cond_spec.specs.Conditions.{conditions_of}
use Rattle.cond_spec.proofs.ConditionRows.{hash}
use Rattle.judge_spec.specs.Facts.{facts_of}
use Rattle.judge_spec.specs.Judgement.{judgement}
use Rattle.pool_spec.specs.Shape.{shape_of}
use Rattle.pool_spec.specs.Classes.{class_of}
use Rattle.pool_spec.specs.Fit.{fit_of}
use Rattle.pool_spec.specs.Prices.{priced}
use Rattle.pool_spec.specs.Pool.{PoolState, admission}
use Rattle.pool_spec.specs.Assembly.{filled, assembly}
use Rattle.block_spec.specs.declared.block.Block.{Block}
use Rattle.block_spec.specs.BlockTree.{block_bytes, block_hash}
use Rattle.block_spec.specs.BlockReading.{block_of}
use Rattle.pool_spec.proofs.RowParts.{limits, bundle, start_state, plain_coin, pays_from}
use Rattle.step_spec.specs.declared.command.Command.TheVariants as commands
use Rattle.step_spec.specs.declared.reply.Reply.{Reply}
use Rattle.step_spec.specs.declared.reply.Reply.TheVariants as replies
use Rattle.step_spec.specs.declared.entry.Entry.{Entry}
use Rattle.step_spec.specs.Steps.{Stepped, stepped, step}
use Rattle.step_spec.specs.Histories.{Opening, IsLegal, state_after}

abbrev a : Coin
a = plain_coin (hash 0) 1000

abbrev pays : Bundle
pays = bundle (pays_from a 900 ∷ [])

abbrev pool : List Bundle → PoolState
pool bundles = start_state limits (a ∷ []) bundles

abbrev empty_block : Block
empty_block = record { previous = hash 0x11; height = 1; seconds = 100; reward_hash = hash 0x22; spends = []; attested = [] }

abbrev after_empty : List Bundle → PoolState
after_empty bundles =
    let start = pool bundles in
    record start { chain = record start.chain { blocks = record { hash = block_hash empty_block; seconds = 100; spent = []; created = [] } ∷ [] } }

-- height, fee and cost of what was farmed, and how many bundles are left
abbrev told_by : Reply → ℕ → ℕ × ℕ × ℕ × ℕ
told_by (replies.Farmed height block fee cost bytes) left = (height, fee, cost, left)
told_by _ left = (0, 0, 0, left)

abbrev told : Stepped → ℕ × ℕ × ℕ × ℕ
told found = told_by found.reply (length found.state.bundles)

-- ---- one command

admit : step (pool []) (commands.Admit 0 pays) ≡ stepped (replies.Admitted (bundle_id pays) 100 2_892_044 []) (pool (pays ∷ []))
unfolding step assembly filled admission priced fit_of class_of shape_of judgement facts_of bundle_id block_of conditions_of evaluation followed applied operator_of head_at tree_at_front without_sign_bytes shortest_atom sha256 digest_bytes hash_after compress rounds schedule first_words
admit = refl

admit_again : step (pool (pays ∷ [])) (commands.Admit 0 pays) ≡ stepped (replies.Refused 30 0) (pool (pays ∷ []))
unfolding step assembly filled admission priced fit_of class_of shape_of judgement facts_of bundle_id block_of conditions_of evaluation followed applied operator_of head_at tree_at_front without_sign_bytes shortest_atom sha256 digest_bytes hash_after compress rounds schedule first_words
admit_again = refl

peak : step (pool []) (commands.Peak 0) ≡ stepped (replies.Peak 0 (hash 0x11) 0) (pool [])
unfolding step assembly filled admission priced fit_of class_of shape_of judgement facts_of bundle_id block_of conditions_of evaluation followed applied operator_of head_at tree_at_front without_sign_bytes shortest_atom sha256 digest_bytes hash_after compress rounds schedule first_words
peak = refl

no_coin : step (pool []) (commands.Coin 0 (hash 0)) ≡ stepped replies.NoCoin (pool [])
unfolding step assembly filled admission priced fit_of class_of shape_of judgement facts_of bundle_id block_of conditions_of evaluation followed applied operator_of head_at tree_at_front without_sign_bytes shortest_atom sha256 digest_bytes hash_after compress rounds schedule first_words
no_coin = refl

coin : step (pool []) (commands.Coin 0 (coin_id a)) ≡ stepped (replies.Coin (hash 0) a.puzzle_hash 1000 0 0 None) (pool [])
unfolding step assembly filled admission priced fit_of class_of shape_of judgement facts_of bundle_id block_of conditions_of evaluation followed applied operator_of head_at tree_at_front without_sign_bytes shortest_atom sha256 digest_bytes hash_after compress rounds schedule first_words
coin = refl

list : step (pool (pays ∷ [])) (commands.List 0) ≡ stepped (replies.Pool (bundle_id pays ∷ [])) (pool (pays ∷ []))
unfolding step assembly filled admission priced fit_of class_of shape_of judgement facts_of bundle_id block_of conditions_of evaluation followed applied operator_of head_at tree_at_front without_sign_bytes shortest_atom sha256 digest_bytes hash_after compress rounds schedule first_words
list = refl

rollback_past_the_start : step (pool []) (commands.Rollback 0 1) ≡ stepped (replies.Refused 43 0) (pool [])
unfolding step assembly filled admission priced fit_of class_of shape_of judgement facts_of bundle_id block_of conditions_of evaluation followed applied operator_of head_at tree_at_front without_sign_bytes shortest_atom sha256 digest_bytes hash_after compress rounds schedule first_words
rollback_past_the_start = refl

rollback_of_none : step (pool (pays ∷ [])) (commands.Rollback 0 0) ≡ stepped (replies.Peak 0 (hash 0x11) 0) (pool (pays ∷ []))
unfolding step assembly filled admission priced fit_of class_of shape_of judgement facts_of bundle_id block_of conditions_of evaluation followed applied operator_of head_at tree_at_front without_sign_bytes shortest_atom sha256 digest_bytes hash_after compress rounds schedule first_words
rollback_of_none = refl

farm_too_early : step (pool []) (commands.Farm 0 0 (hash 0x22)) ≡ stepped (replies.Refused 42 0) (pool [])
unfolding step assembly filled admission priced fit_of class_of shape_of judgement facts_of bundle_id block_of conditions_of evaluation followed applied operator_of head_at tree_at_front without_sign_bytes shortest_atom sha256 digest_bytes hash_after compress rounds schedule first_words
farm_too_early = refl

no_block : step (pool []) (commands.Block 0 (0x80 ∷ [])) ≡ stepped (replies.Refused 40 0) (pool [])
unfolding step assembly filled admission priced fit_of class_of shape_of judgement facts_of bundle_id block_of conditions_of evaluation followed applied operator_of head_at tree_at_front without_sign_bytes shortest_atom sha256 digest_bytes hash_after compress rounds schedule first_words
no_block = refl

assemble : step (pool []) (commands.Assemble 0 100 (hash 0x22)) ≡ stepped (replies.Block 0 60_000 (block_bytes empty_block)) (pool [])
unfolding step assembly filled admission priced fit_of class_of shape_of judgement facts_of bundle_id block_of conditions_of evaluation followed applied operator_of head_at tree_at_front without_sign_bytes shortest_atom sha256 digest_bytes hash_after compress rounds schedule first_words
assemble = refl

farm : step (pool []) (commands.Farm 0 100 (hash 0x22)) ≡ stepped (replies.Farmed 1 (block_hash empty_block) 0 60_000 (block_bytes empty_block)) (after_empty [])
unfolding step assembly filled admission priced fit_of class_of shape_of judgement facts_of bundle_id block_of conditions_of evaluation followed applied operator_of head_at tree_at_front without_sign_bytes shortest_atom sha256 digest_bytes hash_after compress rounds schedule first_words
farm = refl

block : step (pool []) (commands.Block 0 (block_bytes empty_block)) ≡ stepped (replies.Peak 1 (block_hash empty_block) 100) (after_empty [])
unfolding step assembly filled admission priced fit_of class_of shape_of judgement facts_of bundle_id block_of conditions_of evaluation followed applied operator_of head_at tree_at_front without_sign_bytes shortest_atom sha256 digest_bytes hash_after compress rounds schedule first_words
block = refl

block_again : step (after_empty []) (commands.Block 0 (block_bytes empty_block)) ≡ stepped (replies.Refused 41 0) (after_empty [])
unfolding step assembly filled admission priced fit_of class_of shape_of judgement facts_of bundle_id block_of conditions_of evaluation followed applied operator_of head_at tree_at_front without_sign_bytes shortest_atom sha256 digest_bytes hash_after compress rounds schedule first_words
block_again = refl

rollback : step (after_empty (pays ∷ [])) (commands.Rollback 0 1) ≡ stepped (replies.Peak 0 (hash 0x11) 0) (pool (pays ∷ []))
unfolding step assembly filled admission priced fit_of class_of shape_of judgement facts_of bundle_id block_of conditions_of evaluation followed applied operator_of head_at tree_at_front without_sign_bytes shortest_atom sha256 digest_bytes hash_after compress rounds schedule first_words
rollback = refl

farm_with_a_bundle : told (step (pool (pays ∷ [])) (commands.Farm 0 100 (hash 0x22))) ≡ (1, 100, 2_892_044, 0)
unfolding step assembly filled admission priced fit_of class_of shape_of judgement facts_of bundle_id block_of conditions_of evaluation followed applied operator_of head_at tree_at_front without_sign_bytes shortest_atom sha256 digest_bytes hash_after compress rounds schedule first_words
farm_with_a_bundle = refl

-- ---- two lanes

abbrev opening : Opening
opening = record { state = pool []; lanes = (commands.Peak 0 ∷ commands.List 0 ∷ []) ∷ (commands.Coin 1 (hash 0) ∷ []) ∷ [] }

abbrev entry : ℕ → ℕ → Reply → Entry
entry lane number reply = record { lane = lane; number = number; reply = reply }

abbrev history : List Entry
history = entry 1 0 replies.NoCoin ∷ entry 0 0 (replies.Peak 0 (hash 0x11) 0) ∷ entry 0 1 replies.Memory ∷ []

a_legal_history : IsLegal opening history
unfolding step assembly filled admission priced fit_of class_of shape_of judgement facts_of bundle_id block_of conditions_of evaluation followed applied operator_of head_at tree_at_front without_sign_bytes shortest_atom sha256 digest_bytes hash_after compress rounds schedule first_words
a_legal_history = (
  (
    pool [],
    (
      pool [],
      record { command = commands.Coin 1 (hash 0); number = refl; this = refl; answers = inl (refl, refl) },
      (
        pool [],
        record { command = commands.Peak 0; number = refl; this = refl; answers = inl (refl, refl) },
        (pool [], record { command = commands.List 0; number = refl; this = refl; answers = inr (tt, refl, refl) }, refl),
      ),
    ),
  ),
  (refl, (refl, tt)),
)

its_state : state_after opening history ≡ pool []
unfolding step assembly filled admission priced fit_of class_of shape_of judgement facts_of bundle_id block_of conditions_of evaluation followed applied operator_of head_at tree_at_front without_sign_bytes shortest_atom sha256 digest_bytes hash_after compress rounds schedule first_words
its_state = refl
