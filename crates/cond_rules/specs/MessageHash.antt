-- What is fed to a hasher of a message: all of it. Source: this project's own.
use Rattle.std.specs.Prelude.{ℕ, List, ◌++◌}
use Rattle.std.specs.Hash as fed
use Rattle.coin_facts.specs.declared.hash32.Hash32.{Hash32}
use Rattle.cond_spec.specs.declared.party.Party.{Party}
use Rattle.cond_spec.specs.Messages.{Message}

abbrev pub id_input : Hash32 → List (List ℕ)
id_input id = fed.slice fed.u8 id.bytes

abbrev pub party_input : Party → List (List ℕ)
party_input party =
    fed.option id_input party.id ++ fed.option id_input party.parent ++ fed.option id_input party.puzzle_hash ++ fed.option fed.u64 party.amount

abbrev pub message_input : Message → List (List ℕ)
message_input message =
    fed.u8 message.mode ++ fed.slice fed.u8 message.text ++ party_input message.sender ++ party_input message.receiver
