use Rattle.chia_sim.proofs.Endings.{ends-no_command, ends-complete, ends-fault, ends-too_long, ends-read_fault, ends-write_fault}
use Rattle.chia_sim.proofs.run.run.Goals as goal

pub returns-then-begin_with_session-clause-no_command : goal.returns-then-begin_with_session-clause-no_command
returns-then-begin_with_session-clause-no_command g c = ends-no_command _ _ _ _ c.run_session_words.ensures.headline

pub returns-then-begin_with_session-clause-complete : goal.returns-then-begin_with_session-clause-complete
returns-then-begin_with_session-clause-complete g c = ends-complete _ _ _ _ c.run_session_words.ensures.headline

pub returns-then-begin_with_session-clause-input_fault : goal.returns-then-begin_with_session-clause-input_fault
returns-then-begin_with_session-clause-input_fault g c = ends-fault _ _ _ _ c.run_session_words.ensures.headline

pub returns-then-begin_with_session-clause-too_long : goal.returns-then-begin_with_session-clause-too_long
returns-then-begin_with_session-clause-too_long g c = ends-too_long _ _ _ _ c.run_session_words.ensures.headline

pub returns-then-begin_with_session-clause-read_fault : goal.returns-then-begin_with_session-clause-read_fault
returns-then-begin_with_session-clause-read_fault g c = ends-read_fault _ _ _ _ c.run_session_words.ensures.headline

pub returns-then-begin_with_session-clause-write_fault : goal.returns-then-begin_with_session-clause-write_fault
returns-then-begin_with_session-clause-write_fault g c = ends-write_fault _ _ _ _ c.run_session_words.ensures.headline
