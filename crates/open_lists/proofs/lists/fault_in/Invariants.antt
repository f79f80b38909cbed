use Rattle.std.proofs.Common.{length}
use Rattle.open_lists.specs.Faults.{Keeps}
use Rattle.open_lists.proofs.lists.fault_in.Given as goal

abbrev pub invariant-lists : goal.invariant-lists
invariant-lists g l = Keeps g.row.M.Denot g.row.Q.Denot g.F.TextForm.unknown l.rest l.fn.outer l.kind

abbrev pub decreases-lists : goal.decreases-lists
decreases-lists g l = length l.rest
