-- What a tally keeps of spends: how many there are, what they ask and make, the counts of their messages, and the sums of the amounts that they
-- spend and claim. Source: this project's own.
use Rattle.std.specs.Prelude.{ℕ, List}
use Rattle.cond_rules.specs.Wants.{Wanted}
use Rattle.cond_spec.specs.Messages.{Message}
use Rattle.cond_rules.specs.declared.letters.Counts.{Counts}

pub record Tallied : Type 0 where
  pub count : ℕ
  pub announcements : Wanted
  pub spends : Wanted
  pub creations : Wanted
  pub letters : List (Message × Counts)
  pub spent : ℕ
  pub claims : ℕ
