use Rattle.std.proofs.Common.{◌≡◌, ◌≤◌, map, take}
use Rattle.chain_store.specs.Marks.{marked}
use Rattle.chain_store.proofs.records.Records.mark_all.Given as goal

abbrev pub invariant-loop-id : goal.invariant-loop-id
invariant-loop-id l =
    (l.self.list ≡ map (marked l.spent (take l.id-index l.ids)) l.fn.self.list) × (l.fn.self.room ≤ l.self.room)
