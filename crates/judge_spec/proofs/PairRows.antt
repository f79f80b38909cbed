-- Verdicts on lists of spends that break two neighbouring rules, computed: the lower one is told.
use Rattle.std.proofs.Common.{◌≡◌, None, [], ◌∷◌, refl}
use Rattle.sha2.specs.Sha256.{sha256, digest_bytes, hash_after, compress, rounds, schedule, first_words}
use Rattle.clvm_spec.specs.Tree.{nil}
use Rattle.clvm_spec.specs.Spelling.{spelling}
use Rattle.clvm_spec.specs.Reading.{head_at, tree_at_front}
use Rattle.clvm_spec.specs.Numbers.{without_sign_bytes, shortest_atom}
use Rattle.clvm_spec.specs.OperatorTable.{applied, operator_of}
use Rattle.clvm_spec.specs.Evaluation.{evaluation}
use Rattle.cond_spec.specs.Conditions.{conditions_of}
use Rattle.judge_spec.specs.Facts.{facts_of}
use Rattle.judge_spec.specs.Judgement.{Broken, judgement}
use Rattle.judge_spec.proofs.RowParts.{spend_by, asks, there, gone, verdict, on_chain, pays, wrong_amount, other_birth, early, late, unmade, absent, ephemeral, sends, reserves, signs, malformed, unknown, fails, wide, other_puzzle, made_and_signs, coin_of_signs}

-- ---- two at once

rules_2_and_3 : on_chain (other_puzzle (asks ((pays 900) ∷ [])) ∷ other_puzzle (asks ((pays 900) ∷ [])) ∷ []) ≡ Broken 2 1
unfolding judgement facts_of conditions_of evaluation head_at tree_at_front without_sign_bytes shortest_atom sha256 digest_bytes hash_after compress rounds schedule first_words
rules_2_and_3 = refl

rules_3_and_4 : on_chain (record (spend_by nil 1000) { puzzle = spelling fails } ∷ []) ≡ Broken 3 0
unfolding judgement facts_of conditions_of evaluation applied operator_of head_at tree_at_front without_sign_bytes shortest_atom sha256 digest_bytes hash_after compress rounds schedule first_words
rules_3_and_4 = refl

rules_4_and_5 : verdict 1 [] (spend_by fails 1000 ∷ []) ≡ Broken 4 0
unfolding judgement facts_of conditions_of evaluation applied operator_of head_at tree_at_front without_sign_bytes shortest_atom sha256 digest_bytes hash_after compress rounds schedule first_words
rules_4_and_5 = refl

rules_5_and_6_of_two : verdict 500_000 [] (asks ([]) ∷ spend_by wide 1000 ∷ []) ≡ Broken 5 0
unfolding judgement facts_of conditions_of evaluation applied operator_of head_at tree_at_front without_sign_bytes shortest_atom sha256 digest_bytes hash_after compress rounds schedule first_words
rules_5_and_6_of_two = refl

rules_6_and_7_of_two : on_chain (spend_by wide 1000 ∷ asks (malformed ∷ []) ∷ []) ≡ Broken 6 0
unfolding judgement facts_of conditions_of evaluation applied operator_of head_at tree_at_front without_sign_bytes shortest_atom sha256 digest_bytes hash_after compress rounds schedule first_words
rules_6_and_7_of_two = refl

rules_9_and_10 : on_chain (asks (wrong_amount ∷ pays 7 ∷ pays 7 ∷ []) ∷ []) ≡ Broken 9 0
unfolding judgement facts_of conditions_of evaluation head_at tree_at_front without_sign_bytes shortest_atom sha256 digest_bytes hash_after compress rounds schedule first_words
rules_9_and_10 = refl

rules_10_and_11 : verdict 11_000_000_000 [] (asks (wrong_amount ∷ []) ∷ []) ≡ Broken 10 0
unfolding judgement facts_of conditions_of evaluation head_at tree_at_front without_sign_bytes shortest_atom sha256 digest_bytes hash_after compress rounds schedule first_words
rules_10_and_11 = refl

rules_11_and_12_of_two : verdict 11_000_000_000 (gone (asks ([])) ∷ []) (asks ([]) ∷ asks (ephemeral ∷ []) ∷ []) ≡ Broken 11 1
unfolding judgement facts_of conditions_of evaluation head_at tree_at_front without_sign_bytes shortest_atom sha256 digest_bytes hash_after compress rounds schedule first_words
rules_11_and_12_of_two = refl

rules_12_and_13 : verdict 11_000_000_000 (gone (asks (other_birth ∷ [])) ∷ []) (asks (other_birth ∷ []) ∷ []) ≡ Broken 12 0
unfolding judgement facts_of conditions_of evaluation head_at tree_at_front without_sign_bytes shortest_atom sha256 digest_bytes hash_after compress rounds schedule first_words
rules_12_and_13 = refl

rules_13_and_14 : on_chain (asks (early ∷ other_birth ∷ []) ∷ []) ≡ Broken 13 0
unfolding judgement facts_of conditions_of evaluation head_at tree_at_front without_sign_bytes shortest_atom sha256 digest_bytes hash_after compress rounds schedule first_words
rules_13_and_14 = refl

rules_14_and_15 : on_chain (asks (late ∷ early ∷ []) ∷ []) ≡ Broken 14 0
unfolding judgement facts_of conditions_of evaluation head_at tree_at_front without_sign_bytes shortest_atom sha256 digest_bytes hash_after compress rounds schedule first_words
rules_14_and_15 = refl

rules_15_and_16 : on_chain (asks (unmade ∷ late ∷ []) ∷ []) ≡ Broken 15 0
unfolding judgement facts_of conditions_of evaluation head_at tree_at_front without_sign_bytes shortest_atom sha256 digest_bytes hash_after compress rounds schedule first_words
rules_15_and_16 = refl

rules_16_and_17 : on_chain (asks (absent ∷ unmade ∷ []) ∷ []) ≡ Broken 16 0
unfolding judgement facts_of conditions_of evaluation head_at tree_at_front without_sign_bytes shortest_atom sha256 digest_bytes hash_after compress rounds schedule first_words
rules_16_and_17 = refl

rules_17_and_18 : on_chain (asks (ephemeral ∷ absent ∷ []) ∷ []) ≡ Broken 17 0
unfolding judgement facts_of conditions_of evaluation head_at tree_at_front without_sign_bytes shortest_atom sha256 digest_bytes hash_after compress rounds schedule first_words
rules_17_and_18 = refl

rules_18_and_19 : on_chain (asks (sends ∷ ephemeral ∷ []) ∷ []) ≡ Broken 18 0
unfolding judgement facts_of conditions_of evaluation head_at tree_at_front without_sign_bytes shortest_atom sha256 digest_bytes hash_after compress rounds schedule first_words
rules_18_and_19 = refl

rules_19_and_20 : on_chain (asks (pays 1001 ∷ sends ∷ []) ∷ []) ≡ Broken 19 0
unfolding judgement facts_of conditions_of evaluation head_at tree_at_front without_sign_bytes shortest_atom sha256 digest_bytes hash_after compress rounds schedule first_words
rules_19_and_20 = refl

rules_20_and_21 : on_chain (asks (pays 1001 ∷ reserves 1 ∷ []) ∷ []) ≡ Broken 20 1
unfolding judgement facts_of conditions_of evaluation head_at tree_at_front without_sign_bytes shortest_atom sha256 digest_bytes hash_after compress rounds schedule first_words
rules_20_and_21 = refl

rules_21_and_22 : on_chain (asks (signs ∷ reserves 1001 ∷ []) ∷ []) ≡ Broken 21 1
unfolding judgement facts_of conditions_of evaluation head_at tree_at_front without_sign_bytes shortest_atom sha256 digest_bytes hash_after compress rounds schedule first_words
rules_21_and_22 = refl

rules_22_and_23 : verdict 11_000_000_000 (there made_and_signs ∷ record { coin = coin_of_signs; height = 4; seconds = 400; spent = None } ∷ []) (made_and_signs ∷ []) ≡ Broken 22 0
unfolding judgement facts_of conditions_of evaluation head_at tree_at_front without_sign_bytes shortest_atom sha256 digest_bytes hash_after compress rounds schedule first_words
rules_22_and_23 = refl

rules_7_and_8 : on_chain (asks (malformed ∷ unknown ∷ []) ∷ []) ≡ Broken 7 0
unfolding judgement facts_of conditions_of evaluation head_at tree_at_front without_sign_bytes shortest_atom sha256 digest_bytes hash_after compress rounds schedule first_words
rules_7_and_8 = refl

rules_8_and_9 : on_chain (asks (pays 7 ∷ pays 7 ∷ unknown ∷ []) ∷ []) ≡ Broken 8 0
unfolding judgement facts_of conditions_of evaluation head_at tree_at_front without_sign_bytes shortest_atom sha256 digest_bytes hash_after compress rounds schedule first_words
rules_8_and_9 = refl

-- ---- the order of spends and rules

-- The cost of the list is asked after rule 10 of the same spend,
the_cost_of_the_list_after_rule_10 : verdict 500_000 [] (asks (wrong_amount ∷ []) ∷ []) ≡ Broken 10 0
unfolding judgement facts_of conditions_of evaluation head_at tree_at_front without_sign_bytes shortest_atom sha256 digest_bytes hash_after compress rounds schedule first_words
the_cost_of_the_list_after_rule_10 = refl

-- and before rule 3 of the next.
the_cost_of_the_list_before_the_next_spend : verdict 500_000 [] (asks [] ∷ other_puzzle (asks (pays 900 ∷ [])) ∷ []) ≡ Broken 5 0
unfolding judgement facts_of conditions_of evaluation head_at tree_at_front without_sign_bytes shortest_atom sha256 digest_bytes hash_after compress rounds schedule first_words
the_cost_of_the_list_before_the_next_spend = refl

-- Up to rule 10 all rules are asked of the first spend, then of the next.
rule_10_of_the_first_spend : on_chain (asks (wrong_amount ∷ []) ∷ other_puzzle (asks (pays 900 ∷ [])) ∷ []) ≡ Broken 10 0
unfolding judgement facts_of conditions_of evaluation head_at tree_at_front without_sign_bytes shortest_atom sha256 digest_bytes hash_after compress rounds schedule first_words
rule_10_of_the_first_spend = refl

-- From rule 11 on each rule is asked of all spends, then the next rule.
rule_14_of_the_second_spend : on_chain (asks (late ∷ []) ∷ asks (early ∷ []) ∷ []) ≡ Broken 14 1
unfolding judgement facts_of conditions_of evaluation head_at tree_at_front without_sign_bytes shortest_atom sha256 digest_bytes hash_after compress rounds schedule first_words
rule_14_of_the_second_spend = refl
