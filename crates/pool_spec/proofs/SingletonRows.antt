-- A block with two spends of one singleton, computed: the second is moved onto the coin that the first makes.
use Rattle.std.proofs.Common.{◌≡◌, List, [], ◌∷◌, refl}
use Rattle.sha2.specs.Sha256.{sha256, digest_bytes, hash_after, compress, rounds, schedule, first_words}
use Rattle.clvm_spec.specs.Tree.{Tree}
use Rattle.clvm_spec.specs.Hashing.{tree_hash}
use Rattle.clvm_spec.specs.Reading.{head_at, tree_at_front}
use Rattle.clvm_spec.specs.Numbers.{without_sign_bytes, shortest_atom}
use Rattle.clvm_spec.specs.Path.{followed}
use Rattle.clvm_spec.specs.OperatorTable.{applied, operator_of}
use Rattle.clvm_spec.specs.Evaluation.{evaluation}
use Rattle.coin_facts.specs.declared.coin.Coin.{Coin}
use Rattle.coin_facts.specs.CoinId.{coin_id}
use Rattle.coin_facts.specs.Atoms.{number_atom}
use Rattle.block_spec.specs.declared.spend.Spend.{Spend}
use Rattle.cond_spec.specs.declared.codes.TheConstants.{ASSERT_HEIGHT_RELATIVE}
use Rattle.cond_spec.specs.Conditions.{conditions_of}
use Rattle.cond_spec.proofs.ConditionRows.{hash, condition}
use Rattle.judge_spec.specs.Facts.{facts_of}
use Rattle.judge_spec.specs.Judgement.{judgement}
use Rattle.pool_spec.specs.Shape.{shape_of}
use Rattle.pool_spec.specs.Classes.{class_of}
use Rattle.pool_spec.specs.Fit.{fit_of}
use Rattle.pool_spec.specs.Prices.{priced}
use Rattle.pool_spec.specs.Assembly.{filled, assembly}
use Rattle.pool_spec.proofs.RowParts.{inner, layer, hash_of_puzzle, coin_of, proof, spend_with, parent_of, child_of, solution_with, makes_coin, forward_with, limits, bundle, paid, start_state, plain_coin}

abbrev a : Coin
a = plain_coin (hash 0) 1000

abbrev b : Coin
b = plain_coin (hash 0x11) 1000

abbrev again : Tree
again = makes_coin (tree_hash layer) 1

-- the spend of the singleton's coin in the chain
abbrev moves : List Tree → Spend
moves conditions = forward_with layer (proof (hash 0) (tree_hash inner) 3) conditions

-- the spends of a block of two such spends, each with a coin that pays
abbrev block_of_two : List Tree → List Spend
block_of_two conditions =
    (assembly (start_state limits (child_of layer 3 1 ∷ a ∷ b ∷ [])
    (bundle (moves conditions ∷ paid a ∷ []) ∷ bundle (moves conditions ∷ paid b ∷ []) ∷ [])) 100 (hash 0x22)).block.spends

-- the spend of the coin that the first one makes
abbrev moved : Spend
moved =
    spend_with (coin_of (coin_id (child_of layer 3 1)) (hash_of_puzzle layer) 1) layer
    (solution_with (proof (coin_id (parent_of layer 3)) (tree_hash inner) 1) 1 (again ∷ []))

both_are_in_one_block : block_of_two (again ∷ []) ≡ moves (again ∷ []) ∷ paid a ∷ moved ∷ paid b ∷ []
unfolding assembly filled priced fit_of class_of shape_of judgement facts_of conditions_of evaluation followed applied operator_of head_at tree_at_front without_sign_bytes shortest_atom sha256 digest_bytes hash_after compress rounds schedule first_words
both_are_in_one_block = refl

-- A lock that looks at the record lets no coin be spent in the block that makes it.
abbrev locked : List Tree
locked = again ∷ condition ASSERT_HEIGHT_RELATIVE (number_atom 0 ∷ []) ∷ []

the_first_alone : block_of_two locked ≡ moves locked ∷ paid a ∷ []
unfolding assembly filled priced fit_of class_of shape_of judgement facts_of conditions_of evaluation followed applied operator_of head_at tree_at_front without_sign_bytes shortest_atom sha256 digest_bytes hash_after compress rounds schedule first_words
the_first_alone = refl
