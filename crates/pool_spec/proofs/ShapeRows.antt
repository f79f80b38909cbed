-- The Forward shape, computed: a spend that has it, and each check broken.
use Rattle.std.proofs.Common.{◌≡◌, ℕ, Result, Ok, Err, [], ◌∷◌, refl}
use Rattle.sha2.specs.Sha256.{sha256, digest_bytes, hash_after, compress, rounds, schedule, first_words}
use Rattle.clvm_spec.specs.Tree.{Tree, Atom, nil, list_tree}
use Rattle.clvm_spec.specs.Hashing.{tree_hash}
use Rattle.clvm_spec.specs.Currying.{curried}
use Rattle.clvm_spec.specs.Reading.{head_at, tree_at_front}
use Rattle.clvm_spec.specs.Numbers.{without_sign_bytes, shortest_atom}
use Rattle.clvm_spec.specs.Path.{followed}
use Rattle.clvm_spec.specs.OperatorTable.{applied, operator_of}
use Rattle.clvm_spec.specs.Evaluation.{evaluation}
use Rattle.block_spec.specs.declared.spend.Spend.{Spend}
use Rattle.cond_spec.specs.Conditions.{conditions_of}
use Rattle.cond_spec.proofs.ConditionRows.{bytes32, hash}
use Rattle.judge_spec.proofs.RowParts.{ephemeral, malformed}
use Rattle.pool_spec.specs.Shape.{Shape, shape_of}
use Rattle.pool_spec.proofs.RowParts.{last_of_five, top_hash, struct_with, inner, layer, proof, spend_with, child_of, solution_with, makes_coin, layer_by, forward_with, forward}

abbrev check_in : Result Shape ℕ → ℕ
check_in (Ok found) = 0
check_in (Err number) = number

-- with ample cost the check that is broken, or 0
abbrev shape : Spend → ℕ
shape spend = check_in (shape_of 11_000_000_000 top_hash spend)

abbrev good_proof : Tree
good_proof = proof (hash 0) (tree_hash inner) 3

abbrev again : Tree
again = makes_coin (tree_hash layer) 1

a_forward_spend : shape forward ≡ 0
unfolding shape_of conditions_of evaluation followed applied operator_of head_at tree_at_front without_sign_bytes shortest_atom sha256 digest_bytes hash_after compress rounds schedule first_words
a_forward_spend = refl

three_arguments : shape (spend_with (child_of layer 3 1) (curried last_of_five (inner ∷ inner ∷ inner ∷ [])) nil) ≡ 1
unfolding shape_of conditions_of evaluation followed applied operator_of head_at tree_at_front without_sign_bytes shortest_atom sha256 digest_bytes hash_after compress rounds schedule first_words
three_arguments = refl

not_curried : shape (spend_with (child_of layer 3 1) inner nil) ≡ 1
unfolding shape_of conditions_of evaluation followed applied operator_of head_at tree_at_front without_sign_bytes shortest_atom sha256 digest_bytes hash_after compress rounds schedule first_words
not_curried = refl

another_program : shape (forward_with (curried inner (struct_with top_hash.bytes (bytes32 0x33) ∷ inner ∷ [])) good_proof []) ≡ 2
unfolding shape_of conditions_of evaluation followed applied operator_of head_at tree_at_front without_sign_bytes shortest_atom sha256 digest_bytes hash_after compress rounds schedule first_words
another_program = refl

struct_of_another_singleton : shape (forward_with (layer_by (struct_with (bytes32 9) (bytes32 0x33))) good_proof []) ≡ 3
unfolding shape_of conditions_of evaluation followed applied operator_of head_at tree_at_front without_sign_bytes shortest_atom sha256 digest_bytes hash_after compress rounds schedule first_words
struct_of_another_singleton = refl

struct_with_a_short_hash : shape (forward_with (layer_by (struct_with top_hash.bytes (9 ∷ []))) good_proof []) ≡ 3
unfolding shape_of conditions_of evaluation followed applied operator_of head_at tree_at_front without_sign_bytes shortest_atom sha256 digest_bytes hash_after compress rounds schedule first_words
struct_with_a_short_hash = refl

proof_of_two : shape (forward_with layer (list_tree (Atom (bytes32 0) ∷ Atom (tree_hash inner) ∷ [])) []) ≡ 4
unfolding shape_of conditions_of evaluation followed applied operator_of head_at tree_at_front without_sign_bytes shortest_atom sha256 digest_bytes hash_after compress rounds schedule first_words
proof_of_two = refl

proof_with_a_long_amount : shape (forward_with layer (list_tree (Atom (bytes32 0) ∷ Atom (tree_hash inner) ∷ Atom (0 ∷ 3 ∷ []) ∷ [])) []) ≡ 4
unfolding shape_of conditions_of evaluation followed applied operator_of head_at tree_at_front without_sign_bytes shortest_atom sha256 digest_bytes hash_after compress rounds schedule first_words
proof_with_a_long_amount = refl

another_amount : shape (spend_with (child_of layer 3 1) layer (solution_with good_proof 3 [])) ≡ 4
unfolding shape_of conditions_of evaluation followed applied operator_of head_at tree_at_front without_sign_bytes shortest_atom sha256 digest_bytes hash_after compress rounds schedule first_words
another_amount = refl

another_inner_puzzle : shape (forward_with layer (proof (hash 0) (bytes32 9) 3) []) ≡ 5
unfolding shape_of conditions_of evaluation followed applied operator_of head_at tree_at_front without_sign_bytes shortest_atom sha256 digest_bytes hash_after compress rounds schedule first_words
another_inner_puzzle = refl

an_even_amount : shape (spend_with (child_of layer 3 2) layer (solution_with good_proof 2 [])) ≡ 6
unfolding shape_of conditions_of evaluation followed applied operator_of head_at tree_at_front without_sign_bytes shortest_atom sha256 digest_bytes hash_after compress rounds schedule first_words
an_even_amount = refl

an_even_amount_of_the_parent : shape (spend_with (child_of layer 2 1) layer (solution_with (proof (hash 0) (tree_hash inner) 2) 1 [])) ≡ 6
unfolding shape_of conditions_of evaluation followed applied operator_of head_at tree_at_front without_sign_bytes shortest_atom sha256 digest_bytes hash_after compress rounds schedule first_words
an_even_amount_of_the_parent = refl

another_parent : shape (spend_with (child_of layer 5 1) layer (solution_with good_proof 1 [])) ≡ 7
unfolding shape_of conditions_of evaluation followed applied operator_of head_at tree_at_front without_sign_bytes shortest_atom sha256 digest_bytes hash_after compress rounds schedule first_words
another_parent = refl

a_malformed_condition : shape (forward_with layer good_proof (malformed ∷ [])) ≡ 8
unfolding shape_of conditions_of evaluation followed applied operator_of head_at tree_at_front without_sign_bytes shortest_atom sha256 digest_bytes hash_after compress rounds schedule first_words
a_malformed_condition = refl

no_odd_coin : shape (forward_with layer good_proof (makes_coin (tree_hash layer) 2 ∷ [])) ≡ 8
unfolding shape_of conditions_of evaluation followed applied operator_of head_at tree_at_front without_sign_bytes shortest_atom sha256 digest_bytes hash_after compress rounds schedule first_words
no_odd_coin = refl

two_odd_coins : shape (forward_with layer good_proof (again ∷ makes_coin (bytes32 9) 3 ∷ [])) ≡ 8
unfolding shape_of conditions_of evaluation followed applied operator_of head_at tree_at_front without_sign_bytes shortest_atom sha256 digest_bytes hash_after compress rounds schedule first_words
two_odd_coins = refl

an_odd_coin_of_another_amount : shape (forward_with layer good_proof (makes_coin (tree_hash layer) 3 ∷ [])) ≡ 8
unfolding shape_of conditions_of evaluation followed applied operator_of head_at tree_at_front without_sign_bytes shortest_atom sha256 digest_bytes hash_after compress rounds schedule first_words
an_odd_coin_of_another_amount = refl

bound_to_its_coin : shape (forward_with layer good_proof (again ∷ ephemeral ∷ [])) ≡ 9
unfolding shape_of conditions_of evaluation followed applied operator_of head_at tree_at_front without_sign_bytes shortest_atom sha256 digest_bytes hash_after compress rounds schedule first_words
bound_to_its_coin = refl

beside_even_coins : shape (forward_with layer good_proof (makes_coin (bytes32 9) 2 ∷ again ∷ [])) ≡ 0
unfolding shape_of conditions_of evaluation followed applied operator_of head_at tree_at_front without_sign_bytes shortest_atom sha256 digest_bytes hash_after compress rounds schedule first_words
beside_even_coins = refl

-- the run costs more than the limit
with_little_cost : check_in (shape_of 200 top_hash forward) ≡ 8
unfolding shape_of conditions_of evaluation followed applied operator_of head_at tree_at_front without_sign_bytes shortest_atom sha256 digest_bytes hash_after compress rounds schedule first_words
with_little_cost = refl
