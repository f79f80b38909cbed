-- Conditions that are broken, computed: each fault of operands, of codes and of lists.
use Rattle.std.proofs.Common.{◌≡◌, [], ◌∷◌, replicate, refl}
use Rattle.clvm_spec.specs.Tree.{Tree, Atom, Pair, list_tree}
use Rattle.clvm_spec.specs.Numbers.{shortest_atom, without_sign_bytes}
use Rattle.cond_spec.specs.declared.codes.TheConstants.{REMARK, AGG_SIG_ME, CREATE_COIN, RESERVE_FEE, CREATE_COIN_ANNOUNCEMENT, SEND_MESSAGE, ASSERT_MY_COIN_ID, ASSERT_HEIGHT_ABSOLUTE}
use Rattle.cond_spec.specs.declared.condition.Condition.TheVariants.{Remark, ReserveFee}
use Rattle.cond_spec.specs.Conditions.{IsMalformed, IsUnknown, condition_of, Lists, MalformedAt, UnknownAt, conditions_of}
use Rattle.cond_spec.proofs.ConditionRows.{bytes32, key, text, nine_hundred, condition}

abbrev a_pair : Tree
a_pair = Pair (Atom text) (Atom text)

-- ---- operands

a_hash_of_31_bytes : condition_of (condition ASSERT_MY_COIN_ID (Atom (replicate 31 5) ∷ [])) ≡ IsMalformed
unfolding shortest_atom without_sign_bytes
a_hash_of_31_bytes = refl

a_hash_of_33_bytes : condition_of (condition ASSERT_MY_COIN_ID (Atom (replicate 33 5) ∷ [])) ≡ IsMalformed
unfolding shortest_atom without_sign_bytes
a_hash_of_33_bytes = refl

a_hash_that_is_a_pair : condition_of (condition ASSERT_MY_COIN_ID (a_pair ∷ [])) ≡ IsMalformed
unfolding shortest_atom without_sign_bytes
a_hash_that_is_a_pair = refl

no_hash : condition_of (condition ASSERT_MY_COIN_ID ([])) ≡ IsMalformed
unfolding shortest_atom without_sign_bytes
no_hash = refl

a_key_of_47_bytes : condition_of (condition AGG_SIG_ME (Atom (replicate 47 7) ∷ Atom text ∷ [])) ≡ IsMalformed
unfolding shortest_atom without_sign_bytes
a_key_of_47_bytes = refl

a_key_of_49_bytes : condition_of (condition AGG_SIG_ME (Atom (replicate 49 7) ∷ Atom text ∷ [])) ≡ IsMalformed
unfolding shortest_atom without_sign_bytes
a_key_of_49_bytes = refl

a_key_that_is_a_pair : condition_of (condition AGG_SIG_ME (a_pair ∷ Atom text ∷ [])) ≡ IsMalformed
unfolding shortest_atom without_sign_bytes
a_key_that_is_a_pair = refl

no_key : condition_of (condition AGG_SIG_ME ([])) ≡ IsMalformed
unfolding shortest_atom without_sign_bytes
no_key = refl

no_text : condition_of (condition AGG_SIG_ME (Atom key ∷ [])) ≡ IsMalformed
unfolding shortest_atom without_sign_bytes
no_text = refl

a_text_of_1025_bytes : condition_of (condition CREATE_COIN_ANNOUNCEMENT (Atom (replicate 1025 9) ∷ [])) ≡ IsMalformed
unfolding shortest_atom without_sign_bytes
a_text_of_1025_bytes = refl

a_text_that_is_a_pair : condition_of (condition AGG_SIG_ME (Atom key ∷ a_pair ∷ [])) ≡ IsMalformed
unfolding shortest_atom without_sign_bytes
a_text_that_is_a_pair = refl

an_amount_of_2_to_the_64 : condition_of (condition RESERVE_FEE (Atom (1 ∷ replicate 8 0) ∷ [])) ≡ IsMalformed
unfolding shortest_atom without_sign_bytes
an_amount_of_2_to_the_64 = refl

an_amount_with_a_zero_in_front : condition_of (condition RESERVE_FEE (Atom (0 ∷ 5 ∷ []) ∷ [])) ≡ IsMalformed
unfolding shortest_atom without_sign_bytes
an_amount_with_a_zero_in_front = refl

an_amount_below_zero : condition_of (condition RESERVE_FEE (Atom (0xff ∷ []) ∷ [])) ≡ IsMalformed
unfolding shortest_atom without_sign_bytes
an_amount_below_zero = refl

an_amount_of_one_zero_byte : condition_of (condition RESERVE_FEE (Atom (0 ∷ []) ∷ [])) ≡ IsMalformed
unfolding shortest_atom without_sign_bytes
an_amount_of_one_zero_byte = refl

an_amount_that_is_a_pair : condition_of (condition RESERVE_FEE (a_pair ∷ [])) ≡ IsMalformed
unfolding shortest_atom without_sign_bytes
an_amount_that_is_a_pair = refl

no_amount : condition_of (condition CREATE_COIN (Atom (bytes32 5) ∷ [])) ≡ IsMalformed
unfolding shortest_atom without_sign_bytes
no_amount = refl

a_moment_of_17_bytes : condition_of (condition ASSERT_HEIGHT_ABSOLUTE (Atom (replicate 17 5) ∷ [])) ≡ IsMalformed
unfolding shortest_atom without_sign_bytes
a_moment_of_17_bytes = refl

a_moment_with_a_zero_in_front : condition_of (condition ASSERT_HEIGHT_ABSOLUTE (Atom (0 ∷ 5 ∷ []) ∷ [])) ≡ IsMalformed
unfolding shortest_atom without_sign_bytes
a_moment_with_a_zero_in_front = refl

a_moment_with_a_sign_in_front : condition_of (condition ASSERT_HEIGHT_ABSOLUTE (Atom (0xff ∷ 0xff ∷ []) ∷ [])) ≡ IsMalformed
unfolding shortest_atom without_sign_bytes
a_moment_with_a_sign_in_front = refl

a_moment_that_is_a_pair : condition_of (condition ASSERT_HEIGHT_ABSOLUTE (a_pair ∷ [])) ≡ IsMalformed
unfolding shortest_atom without_sign_bytes
a_moment_that_is_a_pair = refl

no_moment : condition_of (condition ASSERT_HEIGHT_ABSOLUTE ([])) ≡ IsMalformed
unfolding shortest_atom without_sign_bytes
no_moment = refl

a_mode_of_64 : condition_of (condition SEND_MESSAGE (Atom (64 ∷ []) ∷ Atom text ∷ [])) ≡ IsMalformed
unfolding shortest_atom without_sign_bytes
a_mode_of_64 = refl

a_mode_with_a_zero_in_front : condition_of (condition SEND_MESSAGE (Atom (0 ∷ 5 ∷ []) ∷ Atom text ∷ [])) ≡ IsMalformed
unfolding shortest_atom without_sign_bytes
a_mode_with_a_zero_in_front = refl

a_mode_below_zero : condition_of (condition SEND_MESSAGE (Atom (0xff ∷ []) ∷ Atom text ∷ [])) ≡ IsMalformed
unfolding shortest_atom without_sign_bytes
a_mode_below_zero = refl

a_mode_that_is_a_pair : condition_of (condition SEND_MESSAGE (a_pair ∷ Atom text ∷ [])) ≡ IsMalformed
unfolding shortest_atom without_sign_bytes
a_mode_that_is_a_pair = refl

no_mode : condition_of (condition SEND_MESSAGE ([])) ≡ IsMalformed
unfolding shortest_atom without_sign_bytes
no_mode = refl

a_message_without_its_text : condition_of (condition SEND_MESSAGE (Atom [] ∷ [])) ≡ IsMalformed
unfolding shortest_atom without_sign_bytes
a_message_without_its_text = refl

a_message_without_its_id : condition_of (condition SEND_MESSAGE (Atom (23 ∷ []) ∷ Atom text ∷ [])) ≡ IsMalformed
unfolding shortest_atom without_sign_bytes
a_message_without_its_id = refl

a_message_without_its_amount : condition_of (condition SEND_MESSAGE (Atom (5 ∷ []) ∷ Atom text ∷ Atom (bytes32 5) ∷ [])) ≡ IsMalformed
unfolding shortest_atom without_sign_bytes
a_message_without_its_amount = refl

a_message_to_a_parent_of_31_bytes : condition_of (condition SEND_MESSAGE (Atom (4 ∷ []) ∷ Atom text ∷ Atom (replicate 31 5) ∷ [])) ≡ IsMalformed
unfolding shortest_atom without_sign_bytes
a_message_to_a_parent_of_31_bytes = refl

-- ---- codes

code_90 : condition_of (condition 90 []) ≡ IsUnknown
code_90 = refl

code_0 : condition_of (condition 0 []) ≡ IsUnknown
code_0 = refl

a_code_of_two_bytes : condition_of (Pair (Atom (0 ∷ REMARK ∷ [])) (Atom [])) ≡ IsUnknown
a_code_of_two_bytes = refl

a_code_of_no_byte : condition_of (Pair (Atom []) (Atom [])) ≡ IsUnknown
a_code_of_no_byte = refl

a_code_that_is_a_pair : condition_of (Pair a_pair (Atom [])) ≡ IsMalformed
a_code_that_is_a_pair = refl

an_atom : condition_of (Atom (REMARK ∷ [])) ≡ IsMalformed
an_atom = refl

-- ---- lists

abbrev remark : Tree
remark = condition REMARK []

abbrev reserve : Tree
reserve = condition RESERVE_FEE (Atom nine_hundred ∷ [])

no_condition : conditions_of (Atom []) ≡ Lists []
unfolding conditions_of
no_condition = refl

two_conditions : conditions_of (list_tree (remark ∷ reserve ∷ [])) ≡ Lists (Remark ∷ ReserveFee 900 ∷ [])
unfolding conditions_of shortest_atom without_sign_bytes
two_conditions = refl

an_end_that_is_not_nil : conditions_of (Pair remark (Pair remark (Atom text))) ≡ MalformedAt 2
unfolding conditions_of
an_end_that_is_not_nil = refl

a_value_that_is_an_atom : conditions_of (Atom text) ≡ MalformedAt 0
unfolding conditions_of
a_value_that_is_an_atom = refl

the_first_of_two_is_told : conditions_of (list_tree (remark ∷ condition 90 [] ∷ condition RESERVE_FEE [] ∷ [])) ≡ UnknownAt 1
unfolding conditions_of
the_first_of_two_is_told = refl

malformed_before_unknown : conditions_of (list_tree (condition RESERVE_FEE [] ∷ condition 90 [] ∷ [])) ≡ MalformedAt 0
unfolding conditions_of
malformed_before_unknown = refl
