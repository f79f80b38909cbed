-- What is kept of a spend's conditions is what they ask, make and claim. Source: this project's own.
use Rattle.std.specs.Prelude.{◌≡◌, ◌<◌, ◌^◌, List, vec_len}
use Rattle.std.specs.List.{sum_by, flat_map}
use Rattle.coin_facts.specs.declared.coin.Coin.{Coin}
use Rattle.cond_spec.specs.declared.condition.Condition.{Condition}
use Rattle.cond_rules.specs.Deeds.{announcement_asked, announcement_made, spend_asked, creation_asked, creation_made, letters_given, claim}
use Rattle.cond_rules.specs.declared.deeds.Deeds.{Deeds}

pub record AreDeedsOf (coin : Coin) (conditions : List Condition) (deeds : Deeds) : Type 0 where
  pub announcements_asked : deeds.announcements_asked.items ≡ flat_map (announcement_asked coin) conditions
  pub announcements_made : deeds.announcements_made.items ≡ flat_map (announcement_made coin) conditions
  pub spends_asked : deeds.spends_asked.items ≡ flat_map (spend_asked coin) conditions
  pub creations_asked : deeds.creations_asked.items ≡ flat_map (creation_asked coin) conditions
  pub creations_made : deeds.creations_made.items ≡ flat_map (creation_made coin) conditions
  pub letters : deeds.letters.items ≡ flat_map (letters_given coin) conditions
  pub few_letters : vec_len deeds.letters < 2 ^ 32
  pub claims : deeds.claims ≡ sum_by claim conditions
  pub few_claims : deeds.claims < 2 ^ 96
