use Rattle.lisp_spec.proofs.ExpansionShifts.{turns_fall_law, faults_fall_law, spent_law}
use Rattle.lisp_spec.proofs.expansion_laws.turns_fall.Goals as goal

pub returns-clause-forms : goal.returns-clause-forms
returns-clause-forms c = turns_fall_law

pub returns-clause-faults : goal.returns-clause-faults
returns-clause-faults c = faults_fall_law

pub returns-clause-spent : goal.returns-clause-spent
returns-clause-spent c = spent_law
