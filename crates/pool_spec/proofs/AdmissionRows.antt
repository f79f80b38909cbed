-- Admissions, computed: each rule broken, and one bundle that replaces another.
use Rattle.std.proofs.Common.{◌≡◌, ℕ, [], ◌∷◌, refl}
use Rattle.sha2.specs.Sha256.{sha256, digest_bytes, hash_after, compress, rounds, schedule, first_words}
use Rattle.clvm_spec.specs.Tree.{nil}
use Rattle.clvm_spec.specs.Reading.{head_at, tree_at_front}
use Rattle.clvm_spec.specs.Numbers.{without_sign_bytes, shortest_atom}
use Rattle.clvm_spec.specs.Path.{followed}
use Rattle.clvm_spec.specs.OperatorTable.{applied, operator_of}
use Rattle.clvm_spec.specs.Evaluation.{evaluation}
use Rattle.coin_facts.specs.declared.coin.Coin.{Coin}
use Rattle.block_spec.specs.BundleTree.{bundle_id}
use Rattle.cond_spec.specs.Conditions.{conditions_of}
use Rattle.cond_spec.proofs.ConditionRows.{hash}
use Rattle.judge_spec.specs.declared.limits.Limits.{Limits}
use Rattle.judge_spec.specs.Facts.{facts_of}
use Rattle.judge_spec.specs.Judgement.{judgement}
use Rattle.pool_spec.specs.Shape.{shape_of}
use Rattle.pool_spec.specs.Classes.{class_of}
use Rattle.pool_spec.specs.Fit.{fit_of}
use Rattle.pool_spec.specs.Prices.{priced}
use Rattle.pool_spec.specs.Pool.{Admission, Admits, Refuses, admission}
use Rattle.pool_spec.proofs.RowParts.{spend_with, limits, bundle, paid, start_state, plain_coin, pays_from}

abbrev a : Coin
a = plain_coin (hash 0) 1000

abbrev big : Coin
big = plain_coin (hash 0) 20_000_000

abbrev small : ℕ → Limits
small pool_cost = record limits { pool_cost = pool_cost }

abbrev refuses : ℕ → ℕ → Admission
refuses rule place = Refuses (record { rule = rule; place = place })

-- the fee that is told
abbrev told : Admission → ℕ
told (Admits view state) = view.fee
told (Refuses refusal) = 0

admitted : admission (start_state limits (a ∷ []) []) (bundle (pays_from a 900 ∷ [])) ≡ Admits (record { id = bundle_id (bundle (pays_from a 900 ∷ [])); fee = 100; cost = 2_892_044; replaced = [] }) (start_state limits (a ∷ []) (bundle (pays_from a 900 ∷ []) ∷ []))
unfolding admission priced fit_of class_of shape_of judgement facts_of bundle_id conditions_of evaluation followed applied operator_of head_at tree_at_front without_sign_bytes shortest_atom sha256 digest_bytes hash_after compress rounds schedule first_words
admitted = refl

rule_30 : admission (start_state limits (a ∷ []) (bundle (paid a ∷ []) ∷ bundle (pays_from a 900 ∷ []) ∷ [])) (bundle (pays_from a 900 ∷ [])) ≡ refuses 30 1
unfolding admission priced fit_of class_of shape_of judgement facts_of bundle_id conditions_of evaluation followed applied operator_of head_at tree_at_front without_sign_bytes shortest_atom sha256 digest_bytes hash_after compress rounds schedule first_words
rule_30 = refl

rule_1 : admission (start_state limits (a ∷ []) []) (bundle []) ≡ refuses 1 0
unfolding admission priced fit_of class_of shape_of judgement facts_of bundle_id conditions_of evaluation followed applied operator_of head_at tree_at_front without_sign_bytes shortest_atom sha256 digest_bytes hash_after compress rounds schedule first_words
rule_1 = refl

rule_3 : admission (start_state limits (a ∷ []) []) (bundle (spend_with a nil nil ∷ [])) ≡ refuses 3 0
unfolding admission priced fit_of class_of shape_of judgement facts_of bundle_id conditions_of evaluation followed applied operator_of head_at tree_at_front without_sign_bytes shortest_atom sha256 digest_bytes hash_after compress rounds schedule first_words
rule_3 = refl

rule_11 : admission (start_state limits [] []) (bundle (pays_from a 900 ∷ [])) ≡ refuses 11 0
unfolding admission priced fit_of class_of shape_of judgement facts_of bundle_id conditions_of evaluation followed applied operator_of head_at tree_at_front without_sign_bytes shortest_atom sha256 digest_bytes hash_after compress rounds schedule first_words
rule_11 = refl

rule_33 : admission (start_state limits (big ∷ []) (bundle (pays_from big 15_000_000 ∷ []) ∷ [])) (bundle (pays_from big 5_000_001 ∷ [])) ≡ refuses 33 0
unfolding admission priced fit_of class_of shape_of judgement facts_of bundle_id conditions_of evaluation followed applied operator_of head_at tree_at_front without_sign_bytes shortest_atom sha256 digest_bytes hash_after compress rounds schedule first_words
rule_33 = refl

replaced : admission (start_state limits (big ∷ []) (bundle (pays_from big 15_000_000 ∷ []) ∷ [])) (bundle (pays_from big 5_000_000 ∷ [])) ≡ Admits (record { id = bundle_id (bundle (pays_from big 5_000_000 ∷ [])); fee = 15_000_000; cost = 2_928_044; replaced = bundle_id (bundle (pays_from big 15_000_000 ∷ [])) ∷ [] }) (start_state limits (big ∷ []) (bundle (pays_from big 5_000_000 ∷ []) ∷ []))
unfolding admission priced fit_of class_of shape_of judgement facts_of bundle_id conditions_of evaluation followed applied operator_of head_at tree_at_front without_sign_bytes shortest_atom sha256 digest_bytes hash_after compress rounds schedule first_words
replaced = refl

rule_34 : admission (start_state (small 2_892_043) (a ∷ []) []) (bundle (pays_from a 900 ∷ [])) ≡ refuses 34 0
unfolding admission priced fit_of class_of shape_of judgement facts_of bundle_id conditions_of evaluation followed applied operator_of head_at tree_at_front without_sign_bytes shortest_atom sha256 digest_bytes hash_after compress rounds schedule first_words
rule_34 = refl

at_its_capacity : told (admission (start_state (small 2_892_044) (a ∷ []) []) (bundle (pays_from a 900 ∷ []))) ≡ 100
unfolding admission priced fit_of class_of shape_of judgement facts_of bundle_id conditions_of evaluation followed applied operator_of head_at tree_at_front without_sign_bytes shortest_atom sha256 digest_bytes hash_after compress rounds schedule first_words
at_its_capacity = refl
