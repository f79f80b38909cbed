use Rattle.std.proofs.Common.{◌≡◌, ◌++◌, string_bytes, drop}
use Rattle.std.specs.List.{flat_map}
use Rattle.session_spec.specs.Texts.{id_word}
use Rattle.chia_sim.proofs.reply.write_ids.Given as goal

-- What is written, and then the ids that are left, are all of them.
abbrev pub invariant-loop-id : goal.invariant-loop-id
invariant-loop-id l =
    string_bytes l.text ++ flat_map id_word (drop l.id-index l.ids) ≡ string_bytes l.initial.text ++ flat_map id_word l.ids
