-- What a tally stands for: the spends that were added, in order. Source: this project's own.
use Rattle.std.specs.Prelude.{◌≡◌, ℕ, ◌+◌, List, [], ◌∷◌, ◌++◌, Option, length}
use Rattle.coin_facts.specs.declared.coin.Coin.{Coin}
use Rattle.cond_spec.specs.declared.condition.Condition.{Condition}
use Rattle.cond_spec.specs.Acts.{Acts, of_spend, spent_amounts, created_amounts, reserved_fees}
use Rattle.cond_rules.specs.Deeds.{announcement_asked, announcement_made, spend_asked, spends_made, creation_asked, creation_made, letters_given}
use Rattle.cond_rules.specs.Wants.{AreWantsOf}
use Rattle.cond_rules.specs.Letters.{AreLettersOf}
use Rattle.cond_rules.specs.FirstBroken.{first_broken}
use Rattle.cond_rules.specs.declared.tally.Tally.{Tally}

pub record IsTallyOf (tally : Tally) (list : List Acts) : Type 0 where
  pub count : tally.count ≡ length list
  pub announcements : AreWantsOf (of_spend announcement_asked) (of_spend announcement_made) tally.announcements list
  pub spends : AreWantsOf (of_spend spend_asked) spends_made tally.spends list
  pub creations : AreWantsOf (of_spend creation_asked) (of_spend creation_made) tally.creations list
  pub letters : AreLettersOf (of_spend letters_given) tally.letters list
  pub spent : tally.spent ≡ spent_amounts list
  pub claims : tally.claims ≡ created_amounts list + reserved_fees list

abbrev pub number_of_spends : Tally → ℕ
number_of_spends tally = tally.count

-- Whatever the spends of the old tally are, the new one has one more, the last.
abbrev pub Adds : Tally → Coin → List Condition → Tally → Type 0
Adds old coin conditions new =
    (list : List Acts) → IsTallyOf old list → IsTallyOf new (list ++ record { coin = coin; conditions = conditions } ∷ [])

-- Whatever the spends of the tally are, this is the first rule that they break.
abbrev pub IsFirstBroken : Tally → Option (ℕ × ℕ) → Type 0
IsFirstBroken tally broken = (list : List Acts) → IsTallyOf tally list → broken ≡ first_broken list
