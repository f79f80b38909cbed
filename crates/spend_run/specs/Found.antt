-- Facts as contracts see them, and what their type keeps. Source: this project's own.
use Rattle.std.specs.Prelude.{◌≡◌, ℕ, List, Result, Ok}
use Rattle.block_spec.specs.declared.spend.Spend.{Spend}
use Rattle.cond_spec.specs.declared.condition.Condition.{Condition}
use Rattle.judge_spec.specs.declared.limits.TheConstants.{GREATEST_MAX_COST}
use Rattle.judge_spec.specs.Facts.{Facts, Breach, consistent, facts_of}

abbrev pub facts_seen : Spend → ℕ → List Condition → Facts
facts_seen spend cost conditions = record { spend = spend; cost = cost; conditions = conditions }

-- They are what is found of the spend with the greatest limit, and so with each limit that its run doesn't spend.
abbrev pub IsFound : Spend → ℕ → List Condition → Type 0
IsFound spend cost conditions = facts_of GREATEST_MAX_COST spend ≡ Ok (facts_seen spend cost conditions)

-- what is left to be asked of a spend whose conditions are read: rules 9 and 10
abbrev pub asked : Spend → ℕ → List Condition → Result Facts Breach
asked spend cost conditions = consistent (facts_seen spend cost conditions)
