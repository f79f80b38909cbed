use Rattle.ports_io.proofs.OutsideLemmas.{Stays-refl}
use Rattle.chia_sim.proofs.Endings.{ends-no_command, ends-complete, ends-fault, ends-too_long, ends-read_fault, ends-write_fault}
use Rattle.chia_sim.proofs.run.run_tool.Goals as goal

pub returns-clause-no_command : goal.returns-clause-no_command
returns-clause-no_command g c = ends-no_command _ _ _ _ c.run_words.ensures.headline

pub returns-clause-complete : goal.returns-clause-complete
returns-clause-complete g c = ends-complete _ _ _ _ c.run_words.ensures.headline

pub returns-clause-input_fault : goal.returns-clause-input_fault
returns-clause-input_fault g c = ends-fault _ _ _ _ c.run_words.ensures.headline

pub returns-clause-too_long : goal.returns-clause-too_long
returns-clause-too_long g c = ends-too_long _ _ _ _ c.run_words.ensures.headline

pub returns-clause-read_fault : goal.returns-clause-read_fault
returns-clause-read_fault g c = ends-read_fault _ _ _ _ c.run_words.ensures.headline

pub returns-clause-write_fault : goal.returns-clause-write_fault
returns-clause-write_fault g c = ends-write_fault _ _ _ _ c.run_words.ensures.headline

pub returns-clause-library_texts : goal.returns-clause-library_texts
returns-clause-library_texts g c = Stays-refl _
