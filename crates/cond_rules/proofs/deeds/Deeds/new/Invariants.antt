use Rattle.std.proofs.Common.{◌≡◌, ◌-◌, ◌*◌, ◌^◌, ◌≤◌, take, vec_len}
use Rattle.std.specs.List.{sum_by, flat_map}
use Rattle.cond_rules.specs.Deeds.{announcement_asked, announcement_made, spend_asked, creation_asked, creation_made, letters_given, claim}
use Rattle.cond_rules.proofs.deeds.Deeds.new.Given as goal

abbrev pub invariant-loop-condition : goal.invariant-loop-condition
invariant-loop-condition l = record {
  announcements_asked : l.announcements_asked.items ≡ flat_map (announcement_asked l.coin) (take l.condition-index l.conditions);
  announcements_made : l.announcements_made.items ≡ flat_map (announcement_made l.coin) (take l.condition-index l.conditions);
  spends_asked : l.spends_asked.items ≡ flat_map (spend_asked l.coin) (take l.condition-index l.conditions);
  creations_asked : l.creations_asked.items ≡ flat_map (creation_asked l.coin) (take l.condition-index l.conditions);
  creations_made : l.creations_made.items ≡ flat_map (creation_made l.coin) (take l.condition-index l.conditions);
  letters : l.letters.items ≡ flat_map (letters_given l.coin) (take l.condition-index l.conditions);
  few_letters : vec_len l.letters ≤ l.condition-index;
  claims : l.claims ≡ sum_by claim (take l.condition-index l.conditions);
  most : l.claims ≤ l.condition-index * (2 ^ 64 - 1);
}
