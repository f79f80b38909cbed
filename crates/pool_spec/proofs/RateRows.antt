-- Conflicts, replacement and the order of assembly, computed on prices that are given.
use Rattle.std.proofs.Common.{◌≡◌, ℕ, Some, None, List, [], ◌∷◌, map, refl}
use Rattle.sha2.specs.Sha256.{sha256, digest_bytes, hash_after, compress, rounds, schedule, first_words}
use Rattle.clvm_spec.specs.Reading.{head_at, tree_at_front}
use Rattle.clvm_spec.specs.Numbers.{without_sign_bytes, shortest_atom}
use Rattle.block_spec.specs.declared.spend.Spend.{Spend}
use Rattle.cond_spec.proofs.ConditionRows.{hash}
use Rattle.judge_spec.specs.declared.class.Class.{Class}
use Rattle.judge_spec.specs.declared.class.Class.TheVariants.{Plain, Same, Forward}
use Rattle.judge_spec.specs.Facts.{Facts}
use Rattle.pool_spec.specs.Prices.{Priced}
use Rattle.pool_spec.specs.Replacement.{conflicts, unreplaced}
use Rattle.pool_spec.specs.Assembly.{by_rate, unlike}
use Rattle.pool_spec.proofs.RowParts.{spend_with, bundle, one, paid, plain_coin}

abbrev x : Spend
x = paid (plain_coin (hash 1) 10)

abbrev x_other : Spend
x_other = spend_with (plain_coin (hash 1) 10) one one

abbrev y : Spend
y = paid (plain_coin (hash 2) 10)

abbrev y_other : Spend
y_other = spend_with (plain_coin (hash 2) 10) one one

abbrev facts : Spend → Facts
facts spend = record { spend = spend; cost = 1; conditions = [] }

-- a bundle at a fee and a cost, whose spends all have one class
abbrev of_class : Class → ℕ → ℕ → List Spend → Priced
of_class class fee cost spends =
    record { bundle = bundle spends; fit = map facts spends; classes = map (λ spend. class) spends; fee = fee; cost = cost }

abbrev item : ℕ → ℕ → List Spend → Priced
item = of_class Same

abbrev plain : ℕ → ℕ → List Spend → Priced
plain = of_class Plain

-- ---- conflicts and replacement

no_conflict : conflicts (item 5 2 (x ∷ [])) (item 9 9 (y ∷ []) ∷ []) ≡ []
unfolding head_at tree_at_front without_sign_bytes shortest_atom sha256 digest_bytes hash_after compress rounds schedule first_words
no_conflict = refl

equal_same_spends : conflicts (item 5 2 (x ∷ [])) (item 9 9 (x ∷ []) ∷ []) ≡ []
unfolding head_at tree_at_front without_sign_bytes shortest_atom sha256 digest_bytes hash_after compress rounds schedule first_words
equal_same_spends = refl

other_solutions : conflicts (item 5 2 (x ∷ [])) (item 9 9 (y ∷ []) ∷ item 9 9 (x_other ∷ []) ∷ item 9 9 (y ∷ x_other ∷ []) ∷ []) ≡ 1 ∷ 2 ∷ []
unfolding head_at tree_at_front without_sign_bytes shortest_atom sha256 digest_bytes hash_after compress rounds schedule first_words
other_solutions = refl

equal_plain_spends : conflicts (plain 5 2 (x ∷ [])) (plain 9 9 (x ∷ []) ∷ []) ≡ 0 ∷ []
unfolding head_at tree_at_front without_sign_bytes shortest_atom sha256 digest_bytes hash_after compress rounds schedule first_words
equal_plain_spends = refl

plain_and_same : conflicts (plain 5 2 (x ∷ [])) (item 9 9 (x ∷ []) ∷ []) ≡ 0 ∷ []
unfolding head_at tree_at_front without_sign_bytes shortest_atom sha256 digest_bytes hash_after compress rounds schedule first_words
plain_and_same = refl

forward_spends : conflicts (of_class Forward 5 2 (x ∷ [])) (of_class Forward 9 9 (x_other ∷ []) ∷ []) ≡ []
unfolding head_at tree_at_front without_sign_bytes shortest_atom sha256 digest_bytes hash_after compress rounds schedule first_words
forward_spends = refl

nothing_to_replace : unreplaced (item 0 2 (x ∷ [])) (item 9 9 (y ∷ []) ∷ []) ≡ None
unfolding head_at tree_at_front without_sign_bytes shortest_atom sha256 digest_bytes hash_after compress rounds schedule first_words
nothing_to_replace = refl

rule_31 : unreplaced (item 100_000_000 2 (x ∷ [])) (item 9 9 (y ∷ []) ∷ item 9 9 (x_other ∷ []) ∷ item 9 9 (x_other ∷ y ∷ []) ∷ []) ≡ Some (record { rule = 31; place = 2 })
unfolding head_at tree_at_front without_sign_bytes shortest_atom sha256 digest_bytes hash_after compress rounds schedule first_words
rule_31 = refl

rules_31_and_32 : unreplaced (item 1 2 (x ∷ [])) (item 9 9 (x_other ∷ y ∷ []) ∷ []) ≡ Some (record { rule = 31; place = 0 })
unfolding head_at tree_at_front without_sign_bytes shortest_atom sha256 digest_bytes hash_after compress rounds schedule first_words
rules_31_and_32 = refl

rule_32_at_an_equal_rate : unreplaced (item 30_000_000 3 (x ∷ y ∷ [])) (item 5_000_000 1 (x_other ∷ []) ∷ item 5_000_000 0 (y_other ∷ []) ∷ []) ≡ Some (record { rule = 32; place = 0 })
unfolding head_at tree_at_front without_sign_bytes shortest_atom sha256 digest_bytes hash_after compress rounds schedule first_words
rule_32_at_an_equal_rate = refl

rules_32_and_33 : unreplaced (item 1 2 (x ∷ [])) (item 9 9 (y ∷ []) ∷ item 9 9 (x_other ∷ []) ∷ []) ≡ Some (record { rule = 32; place = 1 })
unfolding head_at tree_at_front without_sign_bytes shortest_atom sha256 digest_bytes hash_after compress rounds schedule first_words
rules_32_and_33 = refl

rate_a_little_higher : unreplaced (item 30_000_001 3 (x ∷ y ∷ [])) (item 5_000_000 1 (x_other ∷ []) ∷ item 5_000_000 0 (y_other ∷ []) ∷ []) ≡ None
unfolding head_at tree_at_front without_sign_bytes shortest_atom sha256 digest_bytes hash_after compress rounds schedule first_words
rate_a_little_higher = refl

rule_33_one_less : unreplaced (item 10_000_008 9 (x ∷ [])) (item 9 9 (y ∷ []) ∷ item 9 9 (x_other ∷ []) ∷ []) ≡ Some (record { rule = 33; place = 1 })
unfolding head_at tree_at_front without_sign_bytes shortest_atom sha256 digest_bytes hash_after compress rounds schedule first_words
rule_33_one_less = refl

rule_33_just_enough : unreplaced (item 10_000_009 9 (x ∷ [])) (item 9 9 (y ∷ []) ∷ item 9 9 (x_other ∷ []) ∷ []) ≡ None
unfolding head_at tree_at_front without_sign_bytes shortest_atom sha256 digest_bytes hash_after compress rounds schedule first_words
rule_33_just_enough = refl

-- ---- the order of assembly

larger_rates_first : map (λ p. p.cost) (by_rate (item 1 3 [] ∷ item 1 2 [] ∷ item 3 7 [] ∷ [])) ≡ 2 ∷ 7 ∷ 3 ∷ []
unfolding head_at tree_at_front without_sign_bytes shortest_atom sha256 digest_bytes hash_after compress rounds schedule first_words
larger_rates_first = refl

ties_by_admission : map (λ p. p.cost) (by_rate (item 2 4 [] ∷ item 3 3 [] ∷ item 1 2 [] ∷ item 3 6 [] ∷ [])) ≡ 3 ∷ 4 ∷ 2 ∷ 6 ∷ []
unfolding head_at tree_at_front without_sign_bytes shortest_atom sha256 digest_bytes hash_after compress rounds schedule first_words
ties_by_admission = refl

identical_spends_are_left_out : unlike (λ spend. spend) (x ∷ y ∷ x ∷ x_other ∷ []) (Same ∷ Same ∷ Plain ∷ Same ∷ []) (x ∷ []) ≡ y ∷ x ∷ x_other ∷ []
unfolding head_at tree_at_front without_sign_bytes shortest_atom sha256 digest_bytes hash_after compress rounds schedule first_words
identical_spends_are_left_out = refl
