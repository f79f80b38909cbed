-- Laws of facts and of verdicts, each proved once for the crates above. They follow from the definitions.
use Rattle.std.specs.Prelude.{◌≡◌, ℕ, ◌<◌, ◌≤◌, ◌⊎◌, List, [], ◌∷◌, ◌++◌, Bool, Some, None, Ok, Err}
use Rattle.std.specs.List.{list_any}
use Rattle.block_spec.specs.declared.spend.Spend.{Spend}
use Rattle.block_spec.specs.declared.attested.Signed.{Signed}
use Rattle.chain_spec.specs.Chain.{Ledger}
use Rattle.judge_spec.specs.declared.rule.Rule.TheVariants.{CoinExists}
use Rattle.judge_spec.specs.Rules.{number_of}
use Rattle.judge_spec.specs.Facts.{Facts, RunSpends, facts_of}
use Rattle.judge_spec.specs.Checks.{Terms, Scene, Check, checks_of_spent_coins, check_of_new_coins, coin_exists}
use Rattle.judge_spec.specs.Judgement.{Verdict, Fine, Broken, unless_broken, first_broken, spends_in, cost_of, fee_of, spent_twice, judged, judgement, judgement_of_facts}

-- Facts that a limit lets be found are found with any greater one.
abbrev pub FactsKeep : Type 0
FactsKeep = (limit more : ℕ) (spend : Spend) (facts : Facts) → limit ≤ more → facts_of limit spend ≡ Ok facts → facts_of more spend ≡ Ok facts

-- With a smaller limit the same facts are found, or the run spends it, and then the facts cost more.
abbrev pub FactsOrSpent : Type 0
FactsOrSpent = (limit more : ℕ) (spend : Spend) (facts : Facts) → limit ≤ more → facts_of more spend ≡ Ok facts →
    (facts_of limit spend ≡ Ok facts) ⊎ ((facts_of limit spend ≡ Err RunSpends) × (limit < facts.cost))

-- Each is what is found of its spend with this limit.
abbrev pub AreFound : ℕ → List Facts → Type 0
AreFound limit [] = Unit {0}
AreFound limit (facts ∷ list) = (facts_of limit facts.spend ≡ Ok facts) × AreFound limit list

-- So facts that were found with a greater limit decide.
abbrev pub FactsDecide : Type 0
FactsDecide = (terms : Terms) (more : ℕ) (ledger : Ledger) (list : List Facts) (attested : List Signed) → terms.limit ≤ more → AreFound more list →
    judgement terms ledger (spends_in list) attested ≡ judgement_of_facts terms ledger list attested

abbrev pub AreKept : Scene → List Check → Type 0
AreKept scene [] = Unit {0}
AreKept scene (check ∷ checks) = (check.broken_at scene ≡ None) × AreKept scene checks

-- A broken rule is told where none in front of it is broken, and the verdict where none is.
abbrev pub FirstIsTold : Type 0
FirstIsTold = (scene : Scene) (before after : List Check) (check : Check) (place : ℕ) (verdict : Verdict) → AreKept scene before → check.broken_at scene ≡ Some place →
    first_broken (before ++ check ∷ after) scene verdict ≡ Broken (number_of check.rule) place

abbrev pub NoneIsTold : Type 0
NoneIsTold = (scene : Scene) (checks : List Check) (verdict : Verdict) → AreKept scene checks → first_broken checks scene verdict ≡ verdict

-- Of what is attested its order and repeats don't matter.
abbrev pub AttestedIsASet : Type 0
AttestedIsASet = (terms : Terms) (ledger : Ledger) (spends : List Spend) (attested others : List Signed) → ((test : Signed → Bool) → list_any test attested ≡ list_any test others) →
    judgement terms ledger spends attested ≡ judgement terms ledger spends others

abbrev pub all_checks : List Check
all_checks = checks_of_spent_coins ++ check_of_new_coins ∷ []

abbrev pub scene_of : Terms → Ledger → List Facts → List Signed → Scene
scene_of terms ledger list attested = record { terms = terms; ledger = ledger; list = list; attested = attested }

-- Where the verdict is Fine no rule is broken, and it tells the cost and the fee of the list.
abbrev pub FineIsKept : Type 0
FineIsKept = (terms : Terms) (ledger : Ledger) (list : List Facts) (attested : List Signed) (cost fee : ℕ) →
    judgement_of_facts terms ledger list attested ≡ Fine cost fee →
    (spent_twice (spends_in list) ≡ None) × AreKept (scene_of terms ledger list attested) all_checks
    × (Fine (cost_of terms ledger.peak list) (fee_of list) ≡ Fine cost fee)

-- The cost is within the limit where there is a spend.
abbrev pub FineIsWithinTheLimit : Type 0
FineIsWithinTheLimit = (terms : Terms) (ledger : Ledger) (facts : Facts) (list : List Facts) (attested : List Signed) (cost fee : ℕ) →
    judgement_of_facts terms ledger (facts ∷ list) attested ≡ Fine cost fee → cost_of terms ledger.peak (facts ∷ list) ≤ terms.limit

-- The rule that looks up created ids is asked last.
abbrev pub NewCoinsLast : Type 0
NewCoinsLast = (scene : Scene) → judged scene
    ≡ first_broken checks_of_spent_coins scene (unless_broken CoinExists (coin_exists scene) (Fine (cost_of scene.terms scene.ledger.peak scene.list) (fee_of scene.list)))
