use Rattle.tool_eval.proofs.RunWords.{has-outcome, run-known}
use Rattle.tool_eval.proofs.evaluate.run_line.Goals as goal

pub write_run-requires : goal.write_run-requires
write_run-requires c = run-known _ _ _ c.run-run.result (has-outcome _ _ _ c.run-run.result c.run-run.ensures.done c.run-run.ensures.fault)
