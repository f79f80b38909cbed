use Rattle.lisp_spec.proofs.MeaningProofs.{keeps_values, keeps_failures, keeps_wide}
use Rattle.lisp_spec.proofs.meaning_laws.larger_count_keeps_what_is_found.Goals as goal

pub returns-clause-values : goal.returns-clause-values
returns-clause-values c = keeps_values

pub returns-clause-failures : goal.returns-clause-failures
returns-clause-failures c = keeps_failures

pub returns-clause-wide : goal.returns-clause-wide
returns-clause-wide c = keeps_wide
