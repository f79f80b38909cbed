-- What a tally keeps of spends. Source: this project's own.
use Rattle.std.specs.Prelude.{◌≤◌, ◌*◌, ◌^◌}
use Rattle.cond_rules.specs.declared.tally.Tally.TheInside.{Inside}
use Rattle.cond_rules.specs.TallySeen.{Tallied}

abbrev pub seen : Inside → Tallied
seen tally = record {
  count = tally.count;
  announcements = tally.announcements.wanted;
  spends = tally.spends.wanted;
  creations = tally.creations.wanted;
  letters = tally.letters.counts;
  spent = tally.spent;
  claims = tally.claims;
}

-- The sums and the number of letters are small.
pub record AreSmall (tally : Inside) : Type 0 where
  pub letters : tally.letters.total ≤ tally.count * 2 ^ 32
  pub spent : tally.spent ≤ tally.count * 2 ^ 64
  pub claims : tally.claims ≤ tally.count * 2 ^ 96
