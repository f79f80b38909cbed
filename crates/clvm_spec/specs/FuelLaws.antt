-- What fuel is to an evaluation: laws of the definition, each proved once for the crates above. They follow from it.
use Rattle.std.specs.Prelude.{◌≡◌, ℕ, ◌<◌, ◌≤◌, List}
use Rattle.clvm_spec.specs.declared.fuel.Fuel.{Fuel}
use Rattle.clvm_spec.specs.Tree.{Tree}
use Rattle.clvm_spec.specs.Outcomes.{Why, Gives, Done, Failed, Wide}
use Rattle.clvm_spec.specs.OperatorTable.{applied}
use Rattle.clvm_spec.specs.Spending.{Spending, Suffices, fuel_less}
use Rattle.clvm_spec.specs.Evaluation.{evaluation, evaluated_by, evaluated_within}

-- as much or more of each count
pub record IsAtLeast (more fuel : Fuel) : Type 0 where
  pub cost : fuel.cost ≤ more.cost
  pub pairs : fuel.pairs ≤ more.pairs
  pub bytes : fuel.bytes ≤ more.bytes
  pub depth : fuel.depth ≤ more.depth

-- A done run leaves the fuel less what it uses. With other fuel that has as much, and no lower limit of
-- depth, it is done too, with the same value, at the same cost.
abbrev pub DoneRunUsesTheSame : Type 0
DoneRunUsesTheSame = (program env : Tree) (depth : ℕ) (fuel left : Fuel) (value : Tree) → evaluation program env depth fuel ≡ Done value left →
    (spending : Spending) × Suffices fuel spending × (left ≡ fuel_less spending fuel)
    × ((other : Fuel) → Suffices other spending → fuel.depth ≤ other.depth → evaluation program env depth other ≡ Done value (fuel_less spending other))

-- More fuel keeps a failure, with the reason and the form, and a number too wide.
abbrev pub MoreFuelKeepsFailures : Type 0
MoreFuelKeepsFailures = (program env : Tree) (depth : ℕ) (fuel more : Fuel) (why : Why) (form : Tree) → IsAtLeast more fuel →
    evaluation program env depth fuel ≡ Failed why form → evaluation program env depth more ≡ Failed why form

abbrev pub MoreFuelKeepsWide : Type 0
MoreFuelKeepsWide = (program env : Tree) (depth : ℕ) (fuel more : Fuel) → IsAtLeast more fuel →
    evaluation program env depth fuel ≡ Wide → evaluation program env depth more ≡ Wide

-- The definition's bound on steps is no part of its meaning: any number above the cost gives the same.
abbrev pub StepsAreWithinTheCost : Type 0
StepsAreWithinTheCost = (steps : ℕ) (program env : Tree) (depth : ℕ) (left : Fuel) → left.cost < steps →
    evaluated_within steps program env depth left ≡ evaluation program env depth left

-- So evaluation is one step, with evaluation for what the step goes on with.
abbrev pub EvaluationIsItsStep : Type 0
EvaluationIsItsStep = (program env : Tree) (depth : ℕ) (left : Fuel) →
    evaluation program env depth left ≡ evaluated_by evaluation program env depth left

-- Whatever an operator gives costs something.
abbrev pub OperatorsCostSomething : Type 0
OperatorsCostSomething = (code : List ℕ) (operands : List Tree) (value : Tree) (cost pairs bytes : ℕ) →
    applied code operands ≡ Gives value cost pairs bytes → 1 ≤ cost
