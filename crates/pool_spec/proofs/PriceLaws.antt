-- What a price says.
use Rattle.std.proofs.Common.{◌≡◌, ℕ, Result, Ok, List, [], ◌∷◌, length, refl, ap, sym, ◌∙◌, subst}
use Rattle.std.specs.List.{cons_option}
use Rattle.std.proofs.lemmas.List.{length-map}
use Rattle.block_spec.specs.declared.bundle.Bundle.{Bundle}
use Rattle.chain_spec.specs.Chain.{Ledger}
use Rattle.judge_spec.specs.declared.limits.Limits.{Limits}
use Rattle.judge_spec.specs.Facts.{Facts}
use Rattle.judge_spec.specs.Judgement.{Verdict, Fine, Broken, terms_of, spends_in, judgement, judgement_of_facts}
use Rattle.judge_spec.specs.JudgeLaws.{AreFound}
use Rattle.judge_spec.proofs.FineCoins.{fine-has-facts}
use Rattle.pool_spec.specs.Classes.{class_of, classes_of}
use Rattle.pool_spec.specs.Fit.{nothing_taken, fit_by_class, fit_of}
use Rattle.pool_spec.specs.Prices.{Refusal, if_found, facts_in, Priced, price_by, priced}
use Rattle.pool_spec.specs.PoolLaws.{IsPriceOf, PricedIsFine}

-- the facts of spends that all have some
facts-in-found : (limit : ℕ) (list : List Facts) → AreFound limit list → facts_in limit (spends_in list) ≡ list
facts-in-found limit [] found = refl
facts-in-found limit (facts ∷ list) found =
    ap (λ one. cons_option (if_found one) (facts_in limit (spends_in list))) found.0 ∙ ap (λ more. facts ∷ more) (facts-in-found limit list found.1)

abbrev pub as_ok : {A : Type 0} → A → Result A Refusal
as_ok a = Ok a

pub inside : {A : Type 0} (a b : A) → as_ok a ≡ as_ok b → a ≡ b
inside a b e = cc

fit-places : (limits : Limits) (ledger : Ledger) (bundle : Bundle) → length (fit_of limits ledger nothing_taken bundle) ≡ length (classes_of limits bundle)
unfolding fit_of
fit-places limits ledger bundle =
    length-map bundle.spends (λ spend. fit_by_class limits ledger nothing_taken (class_of limits bundle.spends spend) spend)
    ∙ sym (length-map bundle.spends (class_of limits bundle.spends))

by-verdict : (limits : Limits) (ledger : Ledger) (bundle : Bundle) (item : Priced) (verdict : Verdict)
    → judgement (terms_of limits) ledger (fit_of limits ledger nothing_taken bundle) bundle.attested ≡ verdict
    → price_by bundle (facts_in limits.max_cost (fit_of limits ledger nothing_taken bundle)) (classes_of limits bundle) verdict ≡ Ok item
    → IsPriceOf limits ledger bundle item
by-verdict limits ledger bundle item (Broken rule place) is e = cc
by-verdict limits ledger bundle item (Fine cost fee) is e =
    let fit = fit_of limits ledger nothing_taken bundle in
    let fine = fine-has-facts (terms_of limits) ledger fit bundle.attested cost fee is in
    let made : Priced = record { bundle = bundle; fit = facts_in limits.max_cost fit; classes = classes_of limits bundle; fee = fee; cost = cost } in
    let same : facts_in limits.max_cost fit ≡ fine.list =
    ap (facts_in limits.max_cost) (sym fine.these) ∙ facts-in-found limits.max_cost fine.list fine.found in
    subst (IsPriceOf limits ledger bundle) (inside made item e) (record {
      itself = refl;
      classes = refl;
      places =
          sym (fit-places limits ledger bundle) ∙ ap length (sym fine.these)
          ∙ length-map fine.list (λ facts. facts.spend) ∙ ap length (sym same);
      fit = ap spends_in same ∙ fine.these;
      found = subst (AreFound limits.max_cost) (sym same) fine.found;
      fine = ap (λ list. judgement_of_facts (terms_of limits) ledger list bundle.attested) same ∙ fine.fine;
    })

pub priced-is-fine : PricedIsFine
unfolding priced
priced-is-fine limits ledger bundle item e =
    by-verdict limits ledger bundle item (judgement (terms_of limits) ledger (fit_of limits ledger nothing_taken bundle) bundle.attested) refl e
