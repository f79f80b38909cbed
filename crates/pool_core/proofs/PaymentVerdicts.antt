-- The verdict on a payment by all rules is what is worked out of it, and rule 12.
use Rattle.std.proofs.Common.{◌≡◌, ℕ, ◌+◌, ◌==◌, Bool, true, false, not, ◌&&◌, nat_lt, nat_le, if◌then◌else◌, Option, Some, None, Result, Ok, Err, List, [], ◌∷◌, ◌++◌, length, map, refl, ap, sym, ◌∙◌, append_assoc, arith}
use Rattle.std.specs.Prelude.{is_none}
use Rattle.std.specs.List.{sum_by, list_all}
use Rattle.std.proofs.lemmas.Bool.Decides.{nat_tests}
use Rattle.std.proofs.lemmas.List.{append-nil, map-append, length-map}
use Rattle.clvm_spec.specs.declared.costs.TheConstants.{QUOTE_COST}
use Rattle.clvm_spec.specs.Spending.{exceeds}
use Rattle.coin_facts.specs.IdLists.{is_among, repeat_behind}
use Rattle.block_spec.specs.declared.spend.Spend.{Spend}
use Rattle.block_spec.specs.declared.bundle.Bundle.{Bundle}
use Rattle.block_spec.specs.Added.{added_bytes}
use Rattle.block_spec.proofs.AddedLaws.{adds_up}
use Rattle.chain_spec.specs.declared.chain.Peak.{Peak}
use Rattle.chain_spec.specs.Chain.{Chain, is_in_chain, ledger_of}
use Rattle.judge_spec.specs.declared.limits.Limits.{Limits}
use Rattle.judge_spec.specs.declared.rule.Rule.TheVariants.{SpentTwice, WrongPuzzleHash, TooCostly, UnknownCoin}
use Rattle.judge_spec.specs.Rules.{number_of}
use Rattle.judge_spec.specs.Facts.{Facts, OtherPuzzle, RunSpends, has_its_puzzle, facts_of}
use Rattle.judge_spec.specs.Checks.{Terms}
use Rattle.judge_spec.specs.Judgement.{Verdict, Broken, Fine, unless_broken, terms_of, cost_of, spent_twice, judged, within_limit, if_facts, with_facts, judgement}
use Rattle.pool_spec.specs.FirstJudgement as first_judged
use Rattle.pool_spec.specs.FirstJudgement.{spend_by_spend, spent_coin, unless_spent, payment_verdict, unknown_coin}
use Rattle.pool_spec.specs.Payment.{is_payment, creates_each_once}
use Rattle.pool_core.specs.declared.fault.AdmitFault.{AdmitFault}
use Rattle.pool_core.specs.declared.fault.AdmitFault.TheVariants.{Refused, OutOfMemory}
use Rattle.pool_core.specs.SpendPayments.{is_paying}
use Rattle.pool_core.specs.Verdicts.{IsRefusal}
use Rattle.pool_core.proofs.PaymentFacts.{as_facts, expected, facts_of-payment}
use Rattle.pool_core.proofs.FreshIds.{Fresh, fresh-from}
use Rattle.pool_core.proofs.PaymentScene.{OnceEach, once-each, same-cost, judged-payment}

-- A limit that lets no quoted run lets no list.
short-limit : (limit : ℕ) (spends : List Spend) → exceeds QUOTE_COST limit ≡ true → nat_lt limit (first_judged.cost_of spends) ≡ true
short-limit limit spends short =
    let bytes = adds_up spends in
    grind (arith, nat_tests)

-- what comes of one spend, on both sides
by_tests : (fits short over : Bool) (place other : ℕ) (facts : Facts) (spent : Option ℕ) (go : Facts → Verdict) (rest after : Verdict)
    → place ≡ other → (short ≡ true → over ≡ true) → go facts ≡ (if over then Broken (number_of TooCostly) place else rest) → rest ≡ unless_spent spent after
    → if_facts place (if fits then (if short then Err RunSpends else Ok facts) else Err OtherPuzzle) go
    ≡ unless_spent spent (if fits then (if over then Broken (number_of TooCostly) other else after) else Broken (number_of WrongPuzzleHash) other)
by_tests false short over place other facts spent go rest after same run step more = ap (Broken (number_of WrongPuzzleHash)) same
by_tests true true over place other facts spent go rest after same run step more =
    ap (Broken (number_of TooCostly)) same ∙ ap (λ b. unless_spent spent (if b then Broken (number_of TooCostly) other else after)) (sym (run refl))
by_tests true false true place other facts spent go rest after same run step more = step ∙ ap (Broken (number_of TooCostly)) same
by_tests true false false place other facts spent go rest after same run step more = step ∙ more

all_pay : (b c : Bool) → (b && c) ≡ true → (b ≡ true) × (c ≡ true)
all_pay true true e = (refl, refl)
all_pay true false e = cc
all_pay false c e = cc

walked : (terms : Terms) (peak : Peak) (go : List Facts → Verdict) (spent : Option ℕ) (after : Verdict) (earlier spends : List Spend)
    → list_all is_paying spends ≡ true → OnceEach spends → go (map as_facts (earlier ++ spends)) ≡ unless_spent spent after
    → with_facts terms peak (map as_facts earlier) spends go ≡ unless_spent spent (spend_by_spend terms.limit earlier spends after)
walked terms peak go spent after earlier [] pay once end =
    ap (λ list. go (map as_facts list)) (sym (append-nil earlier)) ∙ end
walked terms peak go spent after earlier (spend ∷ spends) pay once end =
    let both = all_pay (is_paying spend) (list_all is_paying spends) pay in
    let grown = earlier ++ spend ∷ [] in
    let pushed : map as_facts grown ≡ map as_facts earlier ++ as_facts spend ∷ [] = map-append as_facts earlier (spend ∷ []) in
    let rest : List Facts → Verdict = λ list. with_facts terms peak list spends go in
    let cost = ap (cost_of terms peak) (sym pushed) ∙ same-cost terms peak grown in
    let step : Facts → Verdict = λ facts. within_limit terms peak (map as_facts earlier) facts (rest (map as_facts earlier ++ facts ∷ [])) in
    let more = ap rest (sym pushed) ∙ walked terms peak go spent after grown spends both.1 once.1 (ap (λ list. go (map as_facts list)) (append_assoc earlier (spend ∷ []) spends) ∙ end) in
    ap (λ found. if_facts (length (map as_facts earlier)) found step) (facts_of-payment terms.limit spend both.0 once.0)
    ∙ by_tests (has_its_puzzle spend) (exceeds QUOTE_COST terms.limit) (nat_lt terms.limit (first_judged.cost_of grown)) (length (map as_facts earlier)) (length earlier) (as_facts spend) spent step
    (rest (map as_facts earlier ++ as_facts spend ∷ [])) (spend_by_spend terms.limit grown spends after)
    (length-map earlier as_facts) (short-limit terms.limit grown)
    (ap (λ n. if nat_lt terms.limit n then Broken (number_of TooCostly) (length (map as_facts earlier)) else rest (map as_facts earlier ++ as_facts spend ∷ [])) cost)
    more

unless-spent-first : (twice spent : Option ℕ) (verdict : Verdict) → unless_broken SpentTwice twice (unless_spent spent verdict) ≡ unless_spent spent (unless_broken SpentTwice twice verdict)
unless-spent-first None spent verdict = refl
unless-spent-first (Some place) spent verdict = refl

six : (a b c d e f : Bool) → (a && b && c && d && e && f) ≡ true → (c ≡ true) × (d ≡ true) × (e ≡ true) × (f ≡ true)
six true true true true true true h = (refl, refl, refl, refl)
six false b c d e f h = cc
six true false c d e f h = cc
six true true false d e f h = cc
six true true true false e f h = cc
six true true true true false f h = cc
six true true true true true false h = cc

nowhere : (place : Option ℕ) → is_none place ≡ true → place ≡ None
nowhere None h = refl
nowhere (Some place) h = cc

-- A payment is judged as it is worked out, and then by rule 12.
pub judgement-of_payment : (limits : Limits) (chain : Chain) (bundle : Bundle) → is_payment chain bundle ≡ true
    → judgement (terms_of limits) (ledger_of chain) bundle.spends bundle.attested ≡ unless_spent (spent_coin chain bundle.spends) (payment_verdict chain bundle.spends limits.max_cost)
unfolding judgement
judgement-of_payment limits chain bundle payment =
    let spends = bundle.spends in
    let ids = first_judged.created_ids spends in
    let hold = six (nat_lt 0 (length spends)) (length bundle.attested == 0) (list_all is_paying spends) (creates_each_once spends)
    (nat_le (first_judged.created_amounts spends) (first_judged.spent_amounts spends)) (list_all (λ id. not (is_in_chain (ledger_of chain) id)) ids) payment in
    let once = nowhere (repeat_behind [] 0 ids) hold.1 in
    let go : List Facts → Verdict = λ list. judged (record { terms = terms_of limits; ledger = ledger_of chain; list = list; attested = bundle.attested }) in
    let after = unless_broken UnknownCoin (unknown_coin chain spends) (Fine (first_judged.cost_of spends) (first_judged.fee_of spends)) in
    let end = judged-payment (terms_of limits) chain spends bundle.attested hold.2 once hold.3 in
    ap (unless_broken SpentTwice (spent_twice spends))
    (walked (terms_of limits) (ledger_of chain).peak go (spent_coin chain spends) after [] spends hold.0 (once-each (is_among []) spends (fresh-from [] 0 ids once)) end)
    ∙ unless-spent-first (spent_twice spends) (spent_coin chain spends) (spend_by_spend limits.max_cost [] spends after)

-- A refusal stands before rule 12.
pub refused-before : (spent : Option ℕ) (verdict : Verdict) (fault : AdmitFault) → IsRefusal verdict fault → IsRefusal (unless_spent spent verdict) fault
refused-before spent verdict (Refused rule place) e = ap (unless_spent spent) e
refused-before spent verdict OutOfMemory e = tt
