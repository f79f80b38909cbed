-- What a tally answers, with the rule on created amounts in its place.
use Rattle.std.proofs.Common.{◌≡◌, ℕ, ◌+◌, ◌<◌, Bool, true, false, nat_lt, Option, Some, None, List, [], ◌∷◌, ◌++◌, map, length, take, get_or, refl, ap, sym, ◌∙◌, arith}
use Rattle.std.proofs.lemmas.List.{map-append, take_more}
use Rattle.std.proofs.lemmas.Bool.{false≢true}
use Rattle.std.proofs.lemmas.Bool.Decides.{nat_tests}
use Rattle.coin_facts.specs.Steps.{when}
use Rattle.cond_spec.specs.Acts.{Acts, spent_amounts, created_amounts, reserved_fees}
use Rattle.cond_spec.specs.ActRules.{unmade_announcement, absent_spend, not_ephemeral, uneven_message}
use Rattle.cond_rules.specs.FirstBroken as tally
use Rattle.judge_spec.specs.declared.rule.Rule.TheVariants.{UnmadeAnnouncement, AbsentSpend, NotEphemeral, UnevenMessage, CreatesTooMuch, LacksReservedFee}
use Rattle.judge_spec.specs.Facts.{Facts, acts_of}
use Rattle.block_judge.specs.Breaches.{broken_or, with_creation, breach_together}

in-order : (over lacks : Bool) (count : ℕ) (a b c d : Option ℕ) → (over ≡ true → lacks ≡ true)
    → with_creation over (tally.broken_or UnmadeAnnouncement a (tally.broken_or AbsentSpend b (tally.broken_or NotEphemeral c (tally.broken_or UnevenMessage d
    (tally.broken_or LacksReservedFee (when lacks count) None)))))
    ≡ broken_or UnmadeAnnouncement a (broken_or AbsentSpend b (broken_or NotEphemeral c (broken_or UnevenMessage d
    (broken_or CreatesTooMuch (when over count) (broken_or LacksReservedFee (when lacks count) None)))))
in-order over lacks count (Some place) b c d less = refl
in-order over lacks count None (Some place) c d less = refl
in-order over lacks count None None (Some place) d less = refl
in-order over lacks count None None None (Some place) less = refl
in-order true true count None None None None less = refl
in-order true false count None None None None less = absurd (false≢true (less refl))
in-order false true count None None None None less = refl
in-order false false count None None None None less = refl

lacks-too : (spent created reserved : ℕ) → nat_lt spent created ≡ true → nat_lt spent (created + reserved) ≡ true
lacks-too spent created reserved over = grind (arith, nat_tests, over)

pub told_together : (list : List Acts) → with_creation (nat_lt (spent_amounts list) (created_amounts list)) (tally.first_broken list) ≡ breach_together list
told_together list =
    in-order (nat_lt (spent_amounts list) (created_amounts list)) (nat_lt (spent_amounts list) (created_amounts list + reserved_fees list)) (length list)
    (unmade_announcement list) (absent_spend list) (not_ephemeral list) (uneven_message list)
    (lacks-too (spent_amounts list) (created_amounts list) (reserved_fees list))

-- ---- the acts of one spend more

pub grown-acts : (list : List Facts) (place : ℕ) (facts : Facts) → place < length list → facts ≡ get_or list place facts
    → map acts_of (take place list) ++ acts_of facts ∷ [] ≡ map acts_of (take (place + 1) list)
grown-acts list place facts within there =
    sym (map-append acts_of (take place list) (facts ∷ []))
    ∙ ap (map acts_of) (ap (λ f. take place list ++ f ∷ []) there ∙ sym (take_more list place facts within))
