use Rattle.std.proofs.Common.{◌≡◌, ◌+◌, ◌≤◌, ◌++◌, length, map, drop, option_map}
use Rattle.std.specs.List.{sum_by}
use Rattle.clvm_spec.specs.Spelled.{most_spelled}
use Rattle.clvm_input.specs.Words.{each_of}
use Rattle.clvm_input.proofs.words.read_words.Given as goal

abbrev pub invariant-loop-text : goal.invariant-loop-text
invariant-loop-text l = record {
  all : each_of (map (λ text. text.now) l.texts) ≡ option_map (λ later. l.items.items ++ later) (each_of (map (λ text. text.now) (drop l.text-index l.texts)));
  room : sum_by length l.items.items + l.room ≡ most_spelled;
  some : length l.items.items ≤ sum_by length l.items.items;
}
