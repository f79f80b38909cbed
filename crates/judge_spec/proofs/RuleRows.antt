-- Verdicts on lists of spends, computed: each rule broken, with its place.
use Rattle.std.proofs.Common.{◌≡◌, ◌+◌, ◌*◌, [], ◌∷◌, refl}
use Rattle.sha2.specs.Sha256.{sha256, digest_bytes, hash_after, compress, rounds, schedule, first_words}
use Rattle.clvm_spec.specs.Reading.{head_at, tree_at_front}
use Rattle.clvm_spec.specs.Numbers.{without_sign_bytes, shortest_atom}
use Rattle.clvm_spec.specs.OperatorTable.{applied, operator_of}
use Rattle.clvm_spec.specs.Evaluation.{evaluation}
use Rattle.cond_spec.specs.declared.codes.TheConstants.{ASSERT_HEIGHT_RELATIVE}
use Rattle.cond_spec.specs.Conditions.{conditions_of}
use Rattle.cond_spec.proofs.ConditionRows.{condition}
use Rattle.judge_spec.specs.Facts.{facts_of}
use Rattle.judge_spec.specs.Judgement.{Fine, Broken, judgement}
use Rattle.judge_spec.proofs.RowParts.{quoting, spend_by, asks, there, gone, verdict, on_chain, number, pays, wrong_amount, other_birth, early, late, unmade, absent, ephemeral, sends, reserves, signs, malformed, unknown, fails, wide, other_puzzle, makes, spends_made, both}

-- ---- each rule

fine : on_chain (asks ((pays 900) ∷ []) ∷ []) ≡ Fine (12_000 * 93 + 20 + 1_800_000) 100
unfolding judgement facts_of conditions_of evaluation head_at tree_at_front without_sign_bytes shortest_atom sha256 digest_bytes hash_after compress rounds schedule first_words
fine = refl

no_spend : on_chain [] ≡ Fine 60_000 0
unfolding judgement facts_of conditions_of evaluation head_at tree_at_front without_sign_bytes shortest_atom sha256 digest_bytes hash_after compress rounds schedule first_words
no_spend = refl

rule_2 : on_chain (asks ([]) ∷ asks ([]) ∷ []) ≡ Broken 2 1
unfolding judgement facts_of conditions_of evaluation head_at tree_at_front without_sign_bytes shortest_atom sha256 digest_bytes hash_after compress rounds schedule first_words
rule_2 = refl

rule_3 : on_chain (asks ([]) ∷ other_puzzle (asks ((pays 900) ∷ [])) ∷ []) ≡ Broken 3 1
unfolding judgement facts_of conditions_of evaluation head_at tree_at_front without_sign_bytes shortest_atom sha256 digest_bytes hash_after compress rounds schedule first_words
rule_3 = refl

rule_4 : on_chain (spend_by fails 1000 ∷ []) ≡ Broken 4 0
unfolding judgement facts_of conditions_of evaluation applied operator_of head_at tree_at_front without_sign_bytes shortest_atom sha256 digest_bytes hash_after compress rounds schedule first_words
rule_4 = refl

rule_5_by_the_run : verdict 19 [] (asks ([]) ∷ []) ≡ Broken 5 0
unfolding judgement facts_of conditions_of evaluation head_at tree_at_front without_sign_bytes shortest_atom sha256 digest_bytes hash_after compress rounds schedule first_words
rule_5_by_the_run = refl

the_run_passes_the_limit_before_it_fails : verdict 0 [] (spend_by fails 1000 ∷ []) ≡ Broken 5 0
unfolding judgement facts_of conditions_of evaluation applied operator_of head_at tree_at_front without_sign_bytes shortest_atom sha256 digest_bytes hash_after compress rounds schedule first_words
the_run_passes_the_limit_before_it_fails = refl

the_run_fails_before_it_passes_the_limit : verdict 1 [] (spend_by fails 1000 ∷ []) ≡ Broken 4 0
unfolding judgement facts_of conditions_of evaluation applied operator_of head_at tree_at_front without_sign_bytes shortest_atom sha256 digest_bytes hash_after compress rounds schedule first_words
the_run_fails_before_it_passes_the_limit = refl

rule_5_by_the_list : verdict 1_000_000 [] (asks ([]) ∷ spend_by (quoting []) 999 ∷ []) ≡ Broken 5 1
unfolding judgement facts_of conditions_of evaluation head_at tree_at_front without_sign_bytes shortest_atom sha256 digest_bytes hash_after compress rounds schedule first_words
rule_5_by_the_list = refl

rule_6 : on_chain (spend_by wide 1000 ∷ []) ≡ Broken 6 0
unfolding judgement facts_of conditions_of evaluation applied operator_of head_at tree_at_front without_sign_bytes shortest_atom sha256 digest_bytes hash_after compress rounds schedule first_words
rule_6 = refl

rule_7 : on_chain (asks (malformed ∷ unknown ∷ []) ∷ []) ≡ Broken 7 0
unfolding judgement facts_of conditions_of evaluation head_at tree_at_front without_sign_bytes shortest_atom sha256 digest_bytes hash_after compress rounds schedule first_words
rule_7 = refl

rule_8 : on_chain (asks (unknown ∷ malformed ∷ []) ∷ []) ≡ Broken 8 0
unfolding judgement facts_of conditions_of evaluation head_at tree_at_front without_sign_bytes shortest_atom sha256 digest_bytes hash_after compress rounds schedule first_words
rule_8 = refl

rule_9 : on_chain (asks (pays 7 ∷ pays 8 ∷ pays 7 ∷ []) ∷ []) ≡ Broken 9 0
unfolding judgement facts_of conditions_of evaluation head_at tree_at_front without_sign_bytes shortest_atom sha256 digest_bytes hash_after compress rounds schedule first_words
rule_9 = refl

rule_10 : on_chain (asks (wrong_amount ∷ []) ∷ []) ≡ Broken 10 0
unfolding judgement facts_of conditions_of evaluation head_at tree_at_front without_sign_bytes shortest_atom sha256 digest_bytes hash_after compress rounds schedule first_words
rule_10 = refl

rule_11 : verdict 11_000_000_000 [] (asks ([]) ∷ []) ≡ Broken 11 0
unfolding judgement facts_of conditions_of evaluation head_at tree_at_front without_sign_bytes shortest_atom sha256 digest_bytes hash_after compress rounds schedule first_words
rule_11 = refl

rule_12 : verdict 11_000_000_000 (gone (asks ([])) ∷ []) (asks ([]) ∷ []) ≡ Broken 12 0
unfolding judgement facts_of conditions_of evaluation head_at tree_at_front without_sign_bytes shortest_atom sha256 digest_bytes hash_after compress rounds schedule first_words
rule_12 = refl

rule_13 : on_chain (asks (other_birth ∷ []) ∷ []) ≡ Broken 13 0
unfolding judgement facts_of conditions_of evaluation head_at tree_at_front without_sign_bytes shortest_atom sha256 digest_bytes hash_after compress rounds schedule first_words
rule_13 = refl

rule_13_on_a_created_coin : both (condition ASSERT_HEIGHT_RELATIVE (number 0) ∷ []) ≡ Broken 13 1
unfolding judgement facts_of conditions_of evaluation head_at tree_at_front without_sign_bytes shortest_atom sha256 digest_bytes hash_after compress rounds schedule first_words
rule_13_on_a_created_coin = refl

rule_14 : on_chain (asks (early ∷ []) ∷ []) ≡ Broken 14 0
unfolding judgement facts_of conditions_of evaluation head_at tree_at_front without_sign_bytes shortest_atom sha256 digest_bytes hash_after compress rounds schedule first_words
rule_14 = refl

rule_15 : on_chain (asks (late ∷ []) ∷ []) ≡ Broken 15 0
unfolding judgement facts_of conditions_of evaluation head_at tree_at_front without_sign_bytes shortest_atom sha256 digest_bytes hash_after compress rounds schedule first_words
rule_15 = refl

rule_16 : on_chain (asks (unmade ∷ []) ∷ []) ≡ Broken 16 0
unfolding judgement facts_of conditions_of evaluation head_at tree_at_front without_sign_bytes shortest_atom sha256 digest_bytes hash_after compress rounds schedule first_words
rule_16 = refl

rule_17 : on_chain (asks (absent ∷ []) ∷ []) ≡ Broken 17 0
unfolding judgement facts_of conditions_of evaluation head_at tree_at_front without_sign_bytes shortest_atom sha256 digest_bytes hash_after compress rounds schedule first_words
rule_17 = refl

rule_18 : on_chain (asks (ephemeral ∷ []) ∷ []) ≡ Broken 18 0
unfolding judgement facts_of conditions_of evaluation head_at tree_at_front without_sign_bytes shortest_atom sha256 digest_bytes hash_after compress rounds schedule first_words
rule_18 = refl

rule_19 : on_chain (asks ([]) ∷ asks (sends ∷ []) ∷ []) ≡ Broken 19 1
unfolding judgement facts_of conditions_of evaluation head_at tree_at_front without_sign_bytes shortest_atom sha256 digest_bytes hash_after compress rounds schedule first_words
rule_19 = refl

rule_20 : on_chain (asks (pays 1001 ∷ []) ∷ []) ≡ Broken 20 1
unfolding judgement facts_of conditions_of evaluation head_at tree_at_front without_sign_bytes shortest_atom sha256 digest_bytes hash_after compress rounds schedule first_words
rule_20 = refl

rule_21 : on_chain (asks (pays 900 ∷ reserves 101 ∷ []) ∷ []) ≡ Broken 21 1
unfolding judgement facts_of conditions_of evaluation head_at tree_at_front without_sign_bytes shortest_atom sha256 digest_bytes hash_after compress rounds schedule first_words
rule_21 = refl

rule_22 : on_chain (asks (signs ∷ []) ∷ []) ≡ Broken 22 0
unfolding judgement facts_of conditions_of evaluation head_at tree_at_front without_sign_bytes shortest_atom sha256 digest_bytes hash_after compress rounds schedule first_words
rule_22 = refl

rule_23 : verdict 11_000_000_000 (there (makes [] 900) ∷ there (spends_made [] 900) ∷ []) (makes [] 900 ∷ []) ≡ Broken 23 0
unfolding judgement facts_of conditions_of evaluation head_at tree_at_front without_sign_bytes shortest_atom sha256 digest_bytes hash_after compress rounds schedule first_words
rule_23 = refl
