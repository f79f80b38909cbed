use Rattle.lisp_spec.proofs.ExpansionShifts.{more_turns_law, more_turns_fault_law}
use Rattle.lisp_spec.proofs.expansion_laws.more_turns_keep_what_is_expanded.Goals as goal

pub returns-clause-forms : goal.returns-clause-forms
returns-clause-forms c = more_turns_law

pub returns-clause-faults : goal.returns-clause-faults
returns-clause-faults c = more_turns_fault_law
