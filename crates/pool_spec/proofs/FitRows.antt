-- Classes and fits of bundles, computed.
use Rattle.std.proofs.Common.{◌≡◌, [], ◌∷◌, refl}
use Rattle.sha2.specs.Sha256.{sha256, digest_bytes, hash_after, compress, rounds, schedule, first_words}
use Rattle.clvm_spec.specs.Hashing.{tree_hash}
use Rattle.clvm_spec.specs.Reading.{head_at, tree_at_front}
use Rattle.clvm_spec.specs.Numbers.{without_sign_bytes, shortest_atom}
use Rattle.clvm_spec.specs.Path.{followed}
use Rattle.clvm_spec.specs.OperatorTable.{applied, operator_of}
use Rattle.clvm_spec.specs.Evaluation.{evaluation}
use Rattle.coin_facts.specs.declared.coin.Coin.{Coin}
use Rattle.coin_facts.specs.CoinId.{coin_id}
use Rattle.block_spec.specs.declared.spend.Spend.{Spend}
use Rattle.block_spec.specs.declared.bundle.Bundle.{Bundle}
use Rattle.cond_spec.specs.Conditions.{conditions_of}
use Rattle.judge_spec.specs.declared.class.Class.TheVariants.{Plain, Same, Forward}
use Rattle.judge_spec.proofs.RowParts.{asks, spend_by, ledger, signs, malformed, fails}
use Rattle.pool_spec.specs.Shape.{shape_of}
use Rattle.pool_spec.specs.Classes.{class_of, classes_of}
use Rattle.pool_spec.specs.Fit.{nothing_taken, fit_of}
use Rattle.pool_spec.proofs.RowParts.{inner, layer, hash_of_puzzle, coin_of, proof, spend_with, parent_of, child_of, solution_with, makes_coin, forward, there_coin, gone_coin, limits, bundle}

abbrev parent : Coin
parent = parent_of layer 3

abbrev child : Coin
child = child_of layer 3 1

abbrev next : Coin
next = coin_of (coin_id child) (hash_of_puzzle layer) 1

abbrev moving : Bundle
moving = bundle (forward ∷ asks [] ∷ [])

-- the spend of the next coin, whose parent is the child
abbrev moved : Spend
moved = spend_with next layer (solution_with (proof (coin_id parent) (tree_hash inner) 1) 1 (makes_coin (tree_hash layer) 1 ∷ []))

-- ---- classes

forward_and_same : classes_of limits (bundle (forward ∷ asks [] ∷ [])) ≡ Forward ∷ Same ∷ []
unfolding class_of shape_of conditions_of evaluation followed applied operator_of head_at tree_at_front without_sign_bytes shortest_atom sha256 digest_bytes hash_after compress rounds schedule first_words
forward_and_same = refl

forward_alone : classes_of limits (bundle (forward ∷ [])) ≡ Same ∷ []
unfolding class_of shape_of conditions_of evaluation followed applied operator_of head_at tree_at_front without_sign_bytes shortest_atom sha256 digest_bytes hash_after compress rounds schedule first_words
forward_alone = refl

two_of_one_puzzle : classes_of limits (bundle (forward ∷ forward ∷ asks [] ∷ [])) ≡ Same ∷ Same ∷ Same ∷ []
unfolding class_of shape_of conditions_of evaluation followed applied operator_of head_at tree_at_front without_sign_bytes shortest_atom sha256 digest_bytes hash_after compress rounds schedule first_words
two_of_one_puzzle = refl

with_a_signature : classes_of limits (bundle (asks (signs ∷ []) ∷ [])) ≡ Plain ∷ []
unfolding class_of shape_of conditions_of evaluation followed applied operator_of head_at tree_at_front without_sign_bytes shortest_atom sha256 digest_bytes hash_after compress rounds schedule first_words
with_a_signature = refl

without_conditions : classes_of limits (bundle (spend_by fails 1000 ∷ asks (malformed ∷ []) ∷ [])) ≡ Plain ∷ Plain ∷ []
unfolding class_of shape_of conditions_of evaluation followed applied operator_of head_at tree_at_front without_sign_bytes shortest_atom sha256 digest_bytes hash_after compress rounds schedule first_words
without_conditions = refl

-- ---- fits

its_coin_is_unspent : fit_of limits (ledger (gone_coin parent ∷ there_coin child ∷ [])) nothing_taken moving ≡ forward ∷ asks [] ∷ []
unfolding fit_of class_of shape_of conditions_of evaluation followed applied operator_of head_at tree_at_front without_sign_bytes shortest_atom sha256 digest_bytes hash_after compress rounds schedule first_words
its_coin_is_unspent = refl

its_coin_is_spent : fit_of limits (ledger (gone_coin parent ∷ gone_coin child ∷ there_coin next ∷ [])) nothing_taken moving ≡ moved ∷ asks [] ∷ []
unfolding fit_of class_of shape_of conditions_of evaluation followed applied operator_of head_at tree_at_front without_sign_bytes shortest_atom sha256 digest_bytes hash_after compress rounds schedule first_words
its_coin_is_spent = refl

its_coin_is_taken : fit_of limits (ledger (gone_coin parent ∷ there_coin child ∷ [])) (record { spent = coin_id child ∷ []; created = next ∷ [] }) moving ≡ moved ∷ asks [] ∷ []
unfolding fit_of class_of shape_of conditions_of evaluation followed applied operator_of head_at tree_at_front without_sign_bytes shortest_atom sha256 digest_bytes hash_after compress rounds schedule first_words
its_coin_is_taken = refl

no_lineage : fit_of limits (ledger (gone_coin parent ∷ gone_coin child ∷ [])) nothing_taken moving ≡ forward ∷ asks [] ∷ []
unfolding fit_of class_of shape_of conditions_of evaluation followed applied operator_of head_at tree_at_front without_sign_bytes shortest_atom sha256 digest_bytes hash_after compress rounds schedule first_words
no_lineage = refl

none_is_forward : fit_of limits (ledger (gone_coin parent ∷ gone_coin child ∷ there_coin next ∷ [])) nothing_taken (bundle (forward ∷ [])) ≡ forward ∷ []
unfolding fit_of class_of shape_of conditions_of evaluation followed applied operator_of head_at tree_at_front without_sign_bytes shortest_atom sha256 digest_bytes hash_after compress rounds schedule first_words
none_is_forward = refl
