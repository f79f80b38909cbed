-- What the fields of letters stand for, and that their queue tells the first uneven message. Source: this project's own.
use Rattle.std.specs.Prelude.{ℕ, min}
use Rattle.indexmap.specs.IndexMap.{spare}
use Rattle.cond_rules.specs.Letters.{Letters}
use Rattle.cond_rules.specs.LettersInside.{IsQueued, IsSettled}
use Rattle.cond_rules.specs.declared.letters.Letters.TheInside.{Inside}

abbrev pub seen : Inside → Letters
seen letters = record {
  counts = letters.counts.entries;
  total = letters.total;
  room = min (spare letters.counts) letters.uneven.room;
}

pub record AreSettled (letters : Inside) : Type 0 where
  pub queued : IsQueued letters.total letters.counts.entries letters.uneven.indexes
  pub settled : IsSettled letters.counts.entries letters.uneven.indexes
