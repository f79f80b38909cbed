-- Peak changes and assemblies, computed.
use Rattle.std.proofs.Common.{◌≡◌, List, [], ◌∷◌, refl}
use Rattle.sha2.specs.Sha256.{sha256, digest_bytes, hash_after, compress, rounds, schedule, first_words}
use Rattle.clvm_spec.specs.Reading.{head_at, tree_at_front}
use Rattle.clvm_spec.specs.Numbers.{without_sign_bytes, shortest_atom}
use Rattle.clvm_spec.specs.Path.{followed}
use Rattle.clvm_spec.specs.OperatorTable.{applied, operator_of}
use Rattle.clvm_spec.specs.Evaluation.{evaluation}
use Rattle.coin_facts.specs.declared.hash32.Hash32.{Hash32}
use Rattle.coin_facts.specs.declared.coin.Coin.{Coin}
use Rattle.coin_facts.specs.CoinId.{coin_id}
use Rattle.block_spec.specs.declared.bundle.Bundle.{Bundle}
use Rattle.chain_spec.specs.Chain.{Connected}
use Rattle.cond_spec.specs.Conditions.{conditions_of}
use Rattle.cond_spec.proofs.ConditionRows.{hash}
use Rattle.judge_spec.specs.Facts.{facts_of}
use Rattle.judge_spec.specs.Judgement.{judgement}
use Rattle.pool_spec.specs.Shape.{shape_of}
use Rattle.pool_spec.specs.Classes.{class_of}
use Rattle.pool_spec.specs.Fit.{fit_of}
use Rattle.pool_spec.specs.Prices.{priced}
use Rattle.pool_spec.specs.Pool.{after_peak_change}
use Rattle.pool_spec.specs.Assembly.{filled, assembly}
use Rattle.pool_spec.proofs.RowParts.{limits, bundle, paid, start_state, plain_coin, pays_from}

abbrev a : Coin
a = plain_coin (hash 0) 1000

abbrev b : Coin
b = plain_coin (hash 0x11) 1

abbrev c : Coin
c = plain_coin (hash 0x22) 1

-- ---- a change of the peak

abbrev block_of : List Hash32 → Connected
block_of spent = record { hash = hash 9; seconds = 50; spent = spent; created = [] }

abbrev bundles_after : Connected → List Bundle
bundles_after block =
    (after_peak_change (record {
      chain = record { genesis = hash 0x11; seconds = 0; coins = a ∷ b ∷ []; blocks = block ∷ [] };
      limits = limits;
      bundles = bundle (paid a ∷ []) ∷ bundle (paid b ∷ []) ∷ [];
    })).bundles

stays_where_its_coin_is_unspent : bundles_after (block_of (coin_id a ∷ [])) ≡ bundle (paid b ∷ []) ∷ []
unfolding priced fit_of class_of shape_of judgement facts_of conditions_of evaluation followed applied operator_of head_at tree_at_front without_sign_bytes shortest_atom sha256 digest_bytes hash_after compress rounds schedule first_words
stays_where_its_coin_is_unspent = refl

all_stay : bundles_after (block_of []) ≡ bundle (paid a ∷ []) ∷ bundle (paid b ∷ []) ∷ []
unfolding priced fit_of class_of shape_of judgement facts_of conditions_of evaluation followed applied operator_of head_at tree_at_front without_sign_bytes shortest_atom sha256 digest_bytes hash_after compress rounds schedule first_words
all_stay = refl

-- ---- assembly

-- both spend one coin alike, so that a block with both would pay more than it spends
abbrev first : Bundle
first = bundle (paid a ∷ pays_from b 900 ∷ [])

abbrev second : Bundle
second = bundle (paid a ∷ pays_from c 901 ∷ [])

one_block_of_two_bundles : assembly (start_state limits (a ∷ b ∷ c ∷ []) (second ∷ first ∷ [])) 100 (hash 0x22) ≡ record { block = record { previous = hash 0x11; height = 1; seconds = 100; reward_hash = hash 0x22; spends = paid a ∷ pays_from b 900 ∷ []; attested = [] }; fee = 101; cost = 3_396_088 }
unfolding assembly filled priced fit_of class_of shape_of judgement facts_of conditions_of evaluation followed applied operator_of head_at tree_at_front without_sign_bytes shortest_atom sha256 digest_bytes hash_after compress rounds schedule first_words
one_block_of_two_bundles = refl

an_empty_pool : assembly (start_state limits [] []) 100 (hash 0x22) ≡ record { block = record { previous = hash 0x11; height = 1; seconds = 100; reward_hash = hash 0x22; spends = []; attested = [] }; fee = 0; cost = 60_000 }
unfolding assembly filled priced fit_of class_of shape_of judgement facts_of conditions_of evaluation followed applied operator_of head_at tree_at_front without_sign_bytes shortest_atom sha256 digest_bytes hash_after compress rounds schedule first_words
an_empty_pool = refl
