use Rattle.std.proofs.Common.{◌≡◌, ◌≤◌}
use Rattle.chain_store.specs.Marks.{without_last}
use Rattle.chain_store.proofs.records.Records.remove_all.Given as goal

abbrev pub invariant-loop-left : goal.invariant-loop-left
invariant-loop-left l =
    (without_last l.left l.self.list ≡ without_last l.fn.count l.fn.self.list) × (l.fn.self.room ≤ l.self.room)

abbrev pub decreases-loop-left : goal.decreases-loop-left
decreases-loop-left l = l.left
