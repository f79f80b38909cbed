-- Verdicts on lists of spends that break no rule, computed.
use Rattle.std.proofs.Common.{◌≡◌, ◌+◌, ◌*◌, [], ◌∷◌, refl}
use Rattle.sha2.specs.Sha256.{sha256, digest_bytes, hash_after, compress, rounds, schedule, first_words}
use Rattle.clvm_spec.specs.Reading.{head_at, tree_at_front}
use Rattle.clvm_spec.specs.Numbers.{without_sign_bytes, shortest_atom}
use Rattle.clvm_spec.specs.Evaluation.{evaluation}
use Rattle.coin_facts.specs.Atoms.{number_atom}
use Rattle.cond_spec.specs.declared.codes.TheConstants.{ASSERT_MY_PARENT_ID, ASSERT_SECONDS_RELATIVE, ASSERT_HEIGHT_RELATIVE, ASSERT_BEFORE_HEIGHT_RELATIVE}
use Rattle.cond_spec.specs.Conditions.{conditions_of}
use Rattle.cond_spec.proofs.ConditionRows.{key, text, condition}
use Rattle.judge_spec.specs.Facts.{facts_of}
use Rattle.judge_spec.specs.Judgement.{Fine, judgement}
use Rattle.judge_spec.proofs.RowParts.{asks, ledger, there, on_chain, number, hash_operand, pays, ephemeral, sends, receives, reserves, signs, both}

-- ---- what holds

own_facts_hold : on_chain (asks (condition ASSERT_MY_PARENT_ID (hash_operand 0) ∷ []) ∷ []) ≡ Fine (12_000 * 89 + 20) 1000
unfolding judgement facts_of conditions_of evaluation head_at tree_at_front without_sign_bytes shortest_atom sha256 digest_bytes hash_after compress rounds schedule first_words
own_facts_hold = refl

an_ephemeral_coin : both (ephemeral ∷ []) ≡ Fine (12_000 * 143 + 40 + 1_800_000) 1000
unfolding judgement facts_of conditions_of evaluation head_at tree_at_front without_sign_bytes shortest_atom sha256 digest_bytes hash_after compress rounds schedule first_words
an_ephemeral_coin = refl

a_message_that_is_received : on_chain (asks (sends ∷ receives ∷ []) ∷ []) ≡ Fine (12_000 * 73 + 20) 1000
unfolding judgement facts_of conditions_of evaluation head_at tree_at_front without_sign_bytes shortest_atom sha256 digest_bytes hash_after compress rounds schedule first_words
a_message_that_is_received = refl

locks_at_their_bounds : on_chain (asks (condition ASSERT_HEIGHT_RELATIVE (number 6) ∷ condition ASSERT_SECONDS_RELATIVE (number_atom 600 ∷ []) ∷ condition ASSERT_BEFORE_HEIGHT_RELATIVE (number 7) ∷ []) ∷ []) ≡ Fine (12_000 * 71 + 20) 1000
unfolding judgement facts_of conditions_of evaluation head_at tree_at_front without_sign_bytes shortest_atom sha256 digest_bytes hash_after compress rounds schedule first_words
locks_at_their_bounds = refl

reserved_fees_at_their_bound : on_chain (asks (pays 900 ∷ reserves 100 ∷ []) ∷ []) ≡ Fine (12_000 * 99 + 20 + 1_800_000) 100
unfolding judgement facts_of conditions_of evaluation head_at tree_at_front without_sign_bytes shortest_atom sha256 digest_bytes hash_after compress rounds schedule first_words
reserved_fees_at_their_bound = refl

a_pair_that_is_attested : judgement (record { limit = 11_000_000_000 }) (ledger (there (asks (signs ∷ [])) ∷ [])) (asks (signs ∷ []) ∷ []) (record { key = key; message = text } ∷ []) ≡ Fine (12_000 * 110 + 20 + 1_200_000) 1000
unfolding judgement facts_of conditions_of evaluation head_at tree_at_front without_sign_bytes shortest_atom sha256 digest_bytes hash_after compress rounds schedule first_words
a_pair_that_is_attested = refl
