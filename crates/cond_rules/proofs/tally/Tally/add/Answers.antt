use Rattle.std.proofs.Common.{◌≡◌, ◌+◌, [], ◌∷◌, ◌++◌, refl, ap, sym, subst, ◌∙◌, arith}
use Rattle.std.specs.List.{sum_by, flat_map}
use Rattle.cond_rules.specs.declared.want.Want.TheVariants.{Spend, Puzzle}
use Rattle.cond_rules.specs.Deeds.{announcement_asked, announcement_made, spend_asked, creation_asked, creation_made, letters_given, claim}
use Rattle.cond_rules.specs.TallySeen.{Tallied}
use Rattle.cond_rules.specs.Tallied.{seen}
use Rattle.cond_rules.specs.Tallies.{IsTallyOf, number_of_spends}
use Rattle.cond_rules.proofs.LetterLaws.{letters-along}
use Rattle.cond_rules.proofs.TallyLaws.{adds-along, tally-push}
use Rattle.cond_rules.proofs.tally.Tally.add.Goals as goal

-- Each part has what the conditions of the spend ask and make.
pub returns-clause-ok : goal.returns-clause-ok
returns-clause-ok c = λ list is.
    let coin = c.args.coin.now in
    let old : Tallied = seen c.self.inside in
    let listed : c.as_slice.result.now ≡ c.args.conditions.now = c.as_slice.ensures.value in
    let deeds = c.in_ok-announcements_asked.ensures in
    let place : c.args.spend ≡ old.count = c.requires.next ∙ ap number_of_spends (sym c.self.view_is) in
    let P : Tallied → Type 0 = λ tally. IsTallyOf tally list in
    tally-push old _ list (record { coin = coin; conditions = c.args.conditions.now }) (record {
      count = refl;
      announcements = adds-along c.add.ensures c.reserve.ensures.same place
          (c.as_slice-2.ensures.value ∙ deeds.announcements_asked ∙ ap (flat_map (announcement_asked coin)) listed)
          (c.as_slice-3.ensures.value ∙ deeds.announcements_made ∙ ap (flat_map (announcement_made coin)) listed);
      spends = adds-along c.add-2.ensures c.reserve-2.ensures.same place
          (c.as_slice-4.ensures.value ∙ deeds.spends_asked ∙ ap (flat_map (spend_asked coin)) listed)
          (c.as_slice-5.ensures ∙ ap (λ id. Spend id ∷ Puzzle coin.puzzle_hash ∷ []) c.id.ensures);
      creations = adds-along c.add-3.ensures c.reserve-3.ensures.same place
          (c.as_slice-6.ensures.value ∙ deeds.creations_asked ∙ ap (flat_map (creation_asked coin)) listed)
          (c.as_slice-7.ensures.value ∙ deeds.creations_made ∙ ap (flat_map (creation_made coin)) listed);
      letters = letters-along c.add-4.ensures.adds c.reserve-4.ensures.same.0 place (deeds.letters ∙ ap (flat_map (letters_given coin)) listed);
      spent = ap (λ n. old.spent + n) c.from.ensures;
      claims = ap (λ n. old.claims + n) (deeds.claims ∙ ap (sum_by claim) listed);
    }) (subst P (sym c.self.view_is) is)
