use Rattle.std.proofs.Common.{◌≡◌, length}
use Rattle.open_lists.specs.Faults.{first_unknown}
use Rattle.open_lists.proofs.list.first_unknown.Given as goal

abbrev pub invariant-forms : goal.invariant-forms
invariant-forms g l = first_unknown g.F.TextForm.unknown l.fn.forms ≡ first_unknown g.F.TextForm.unknown l.rest

abbrev pub decreases-forms : goal.decreases-forms
decreases-forms g l = length l.rest
