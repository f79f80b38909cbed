use Rattle.lisp_spec.proofs.ExpansionShifts.{written_call_law}
use Rattle.lisp_spec.proofs.expansion_laws.faults_stand_at_the_written_call.Goals as goal

pub returns : goal.returns
returns c = written_call_law
