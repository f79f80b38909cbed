use Rattle.chia_sim.proofs.Endings.{answered-ends, stopped-ends}
use Rattle.chia_sim.proofs.run.run_command.Goals as goal

pub returns-in-Ok-clause-headline : goal.returns-in-Ok-clause-headline
returns-in-Ok-clause-headline g c = answered-ends _ _ _ c.in-Ok.answer _ c.in-Ok.ensures.answer c.finish.ensures.status

pub returns-in-Err-clause-headline : goal.returns-in-Err-clause-headline
returns-in-Err-clause-headline g c = stopped-ends _ _ _ c.in-Err.stop _ c.in-Err.ensures.cause c.end_with.ensures.line c.end_with.ensures.status
