-- What a spend's bytes say by themselves, or the first of the rules 3 to 10 that it breaks. Source: Chia documentation of
-- the coin set and of conditions; the order of the rules is this project's own.
use Rattle.std.specs.Prelude.{ℕ, ◌+◌, List, Bool, Option, Some, None, Result, Ok, Err, if◌then◌else◌}
use Rattle.std.specs.Str.{bytes_eq}
use Rattle.clvm_spec.specs.Hashing.{tree_hash}
use Rattle.clvm_spec.specs.Spelled.{spelled_tree}
use Rattle.clvm_spec.specs.Outcomes.{Outcome, Done, Failed, Spent, Wide}
use Rattle.clvm_spec.specs.Evaluation.{run_outcome, run_cost, fuel_of}
use Rattle.block_spec.specs.declared.spend.Spend.{Spend}
use Rattle.cond_spec.specs.declared.condition.Condition.{Condition}
use Rattle.cond_spec.specs.Conditions.{Listing, Lists, MalformedAt, UnknownAt, conditions_of, cost_of_conditions}
use Rattle.cond_spec.specs.Acts.{Acts}
use Rattle.cond_spec.specs.ActRules.{same_output, wrong_own_fact}
use Rattle.judge_spec.specs.declared.rule.Rule.{Rule}
use Rattle.judge_spec.specs.declared.rule.Rule.TheVariants as rules

-- what is broken of the rules 3 to 10; a number is the place of the condition
pub data Breach : Type 0 where
  OtherPuzzle : Breach
  RunFails : Breach
  RunSpends : Breach
  RunIsWide : Breach
  Malformed : ℕ → Breach
  Unknown : ℕ → Breach
  SameOutput : ℕ → Breach
  OwnFact : ℕ → Breach

abbrev pub rule_of : Breach → Rule
rule_of OtherPuzzle = rules.WrongPuzzleHash
rule_of RunFails = rules.RunFails
rule_of RunSpends = rules.TooCostly
rule_of RunIsWide = rules.RunIsWide
rule_of (Malformed place) = rules.MalformedCondition
rule_of (Unknown place) = rules.UnknownCondition
rule_of (SameOutput place) = rules.SameOutput
rule_of (OwnFact place) = rules.WrongOwnFact

-- a spend, what its run and its conditions cost, and the conditions
pub record Facts : Type 0 where
  pub spend : Spend
  pub cost : ℕ
  pub conditions : List Condition

abbrev pub acts_of : Facts → Acts
acts_of facts = record { coin = facts.spend.coin; conditions = facts.conditions }

abbrev pub unless_at : (ℕ → Breach) → Option ℕ → Result Facts Breach → Result Facts Breach
unless_at breach None found = found
unless_at breach (Some place) found = Err (breach place)

-- Rule 9, then rule 10.
abbrev pub consistent : Facts → Result Facts Breach
consistent facts =
    unless_at SameOutput (same_output (acts_of facts)) (unless_at OwnFact (wrong_own_fact (acts_of facts)) (Ok facts))

-- Rule 7: the first broken condition is malformed. Rule 8: it is unknown.
abbrev pub of_listing : Spend → ℕ → Listing → Result Facts Breach
of_listing spend run (Lists conditions) =
    consistent (record { spend = spend; cost = run + cost_of_conditions conditions; conditions = conditions })
of_listing spend run (MalformedAt place) = Err (Malformed place)
of_listing spend run (UnknownAt place) = Err (Unknown place)

-- Rule 4: the run fails. Rule 5, first part: it spends one of its limits. Rule 6: it is Wide.
abbrev pub of_run : ℕ → Spend → Outcome → Result Facts Breach
of_run limit spend (Done value left) = of_listing spend (run_cost (fuel_of limit) left) (conditions_of value)
of_run limit spend (Failed why form) = Err RunFails
of_run limit spend (Spent which) = Err RunSpends
of_run limit spend Wide = Err RunIsWide

-- the run of the puzzle on the solution, with the limit as its cost
abbrev pub run_of : ℕ → Spend → Outcome
run_of limit spend = run_outcome (spelled_tree spend.puzzle) (spelled_tree spend.solution) (fuel_of limit)

abbrev pub has_its_puzzle : Spend → Bool
has_its_puzzle spend = bytes_eq (tree_hash (spelled_tree spend.puzzle)) spend.coin.puzzle_hash.bytes

-- Rule 3: the puzzle's tree hash isn't the coin's.
unfoldable pub facts_of : ℕ → Spend → Result Facts Breach
facts_of limit spend = if has_its_puzzle spend then of_run limit spend (run_of limit spend) else Err OtherPuzzle
