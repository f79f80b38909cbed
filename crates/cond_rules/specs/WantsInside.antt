-- What the fields of wants stand for, and that their first asks are counted as far as they are met. Source: this project's own.
use Rattle.std.specs.Prelude.{◌≡◌, ◌-◌, vec_len, vec_capacity}
use Rattle.indexmap.specs.IndexSet.{spare}
use Rattle.cond_rules.specs.Wants.{Wants, count_met}
use Rattle.cond_rules.specs.declared.wants.Wants.TheInside.{Inside}

abbrev pub seen : Inside → Wants
seen wants = record {
  wanted = record { asked = wants.asked.items; made = wants.made.keys };
  room_to_ask = vec_capacity wants.asked - vec_len wants.asked;
  room_to_make = spare wants.made;
}

abbrev pub IsCounted : Inside → Type 0
IsCounted wants = wants.met ≡ count_met wants.made.keys wants.asked.items
