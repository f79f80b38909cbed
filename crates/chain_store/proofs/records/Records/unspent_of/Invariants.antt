use Rattle.std.proofs.Common.{◌≡◌, take}
use Rattle.std.specs.Map.{values_of}
use Rattle.chain_store.proofs.UnspentLaws.{asked_in}
use Rattle.chain_store.proofs.records.Records.unspent_of.Given as goal

abbrev pub invariant-loop-place : goal.invariant-loop-place
invariant-loop-place l =
    l.found ≡ asked_in l.puzzle_hash l.amount l.except (take l.place (values_of l.self-inside.by_id.entries))
