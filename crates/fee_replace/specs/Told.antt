-- How a broken rule of replacement is told: its number, and the place. Source: this project's own.
use Rattle.std.specs.Prelude.{ℕ}
use Rattle.judge_spec.specs.declared.rule.Rule.{Rule}
use Rattle.judge_spec.specs.Rules.{number_of}
use Rattle.pool_spec.specs.Prices.{Refusal}

abbrev pub told : Refusal → ℕ × ℕ
told refusal = (refusal.rule, refusal.place)

abbrev pub numbered : Rule → ℕ → ℕ × ℕ
numbered rule place = (number_of rule, place)
