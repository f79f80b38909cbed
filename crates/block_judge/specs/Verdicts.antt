-- What a verdict tells, and the terms of a limit. Source: this project's own.
use Rattle.std.specs.Prelude.{ℕ}
use Rattle.judge_spec.specs.Checks.{Terms}
use Rattle.judge_spec.specs.Judgement as judging
use Rattle.block_judge.specs.declared.verdict.Verdict.{Verdict}
use Rattle.block_judge.specs.declared.verdict.Verdict.TheVariants.{Fine, Broken}

abbrev pub told : Verdict → judging.Verdict
told (Fine cost fee) = judging.Fine cost fee
told (Broken rule place) = judging.Broken rule place

abbrev pub terms_within : ℕ → Terms
terms_within limit = record { limit = limit }
