use Rattle.std.proofs.Common.{◌≡◌, ◌+◌, ◌<◌, ◌≤◌, ◌^◌, ◌++◌, length}
use Rattle.std.specs.Vec.Iter.{into_iter_items, into_iter_len}
use Rattle.indexmap.specs.IndexMap.{spare}
use Rattle.cond_rules.specs.Letters.{AddsLetters}
use Rattle.cond_rules.specs.LettersInside.{IsQueued}
use Rattle.cond_rules.proofs.letters.count_letters.Given as goal

abbrev pub invariant-loop-letter : goal.invariant-loop-letter
invariant-loop-letter l = record {
  items : l.yielded ++ into_iter_items l.letter-iterator ≡ into_iter_items l.initial.letter-iterator;
  left : into_iter_len l.letter-iterator ≡ length (into_iter_items l.letter-iterator);
  adds : AddsLetters l.initial.counts.entries l.place l.yielded l.counts.entries;
  queued : IsQueued l.total l.counts.entries l.uneven.indexes;
  total : l.total ≡ l.before + length l.yielded;
  few : l.total + length (into_iter_items l.letter-iterator) < 2 ^ 64;
  room : (length (into_iter_items l.letter-iterator) ≤ spare l.counts) × (length (into_iter_items l.letter-iterator) ≤ l.uneven.room);
}
