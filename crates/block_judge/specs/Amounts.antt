-- What created coins are worth, by condition and by spend. Source: this project's own; it is proved that they sum up to the
-- created amounts.
use Rattle.std.specs.Prelude.{ℕ, List}
use Rattle.std.specs.List.{sum_by}
use Rattle.cond_spec.specs.declared.condition.Condition.{Condition}
use Rattle.cond_spec.specs.declared.condition.Condition.TheVariants.{CreateCoin}
use Rattle.judge_spec.specs.Facts.{Facts}

abbrev pub created_amount : Condition → ℕ
created_amount (CreateCoin hash amount) = amount
created_amount _ = 0

abbrev pub created_by : Facts → ℕ
created_by facts = sum_by created_amount facts.conditions
