-- Fuel that is enough for a meaning.
use Rattle.std.specs.Prelude.{ℕ, ◌+◌, ◌≤◌}
use Rattle.clvm_spec.specs.declared.fuel.Fuel.{Fuel}
use Rattle.clvm_spec.specs.Tree.{Tree}
use Rattle.clvm_spec.specs.Outcomes as run
use Rattle.clvm_spec.specs.Outcomes.{Outcome, Why}
use Rattle.clvm_spec.specs.Evaluation.{evaluation}
use Rattle.clvm_spec.specs.Spending.{Spending, fuel_less}
use Rattle.clvm_spec.specs.FuelLaws.{IsAtLeast}
use Rattle.clvm_spec.proofs.SpendingLaws.{Covers}
use Rattle.lisp_spec.specs.Meaning.{Meaning, Value, Failed, Wide, Out}
use Rattle.lisp_code.proofs.Plain.{plain}

-- The run ends as the meaning says, and uses at most this.
pub data Reaches (need : Spending) (fuel : Fuel) : Meaning → Outcome → Type 0 where
  value : (v : Tree) (left : Fuel) → IsAtLeast left (fuel_less need fuel) → Reaches need fuel (Value v) (run.Done v left)
  failed : (why : Why) (form : Tree) → Reaches need fuel Failed (run.Failed why form)
  wide : Reaches need fuel Wide run.Wide
  out : (o : Outcome) → Reaches need fuel Out o

pub record Enough (m : Meaning) (run : ℕ → Fuel → Outcome) : Type 0 where
  pub need : Spending
  pub deep : ℕ
  pub holds : (depth : ℕ) (fuel : Fuel) → Covers fuel need → depth + deep ≤ fuel.depth → Reaches need fuel m (run depth fuel)

abbrev pub FuelIsEnough : Type 0
FuelIsEnough = (n : ℕ) (program env : Tree) → Enough (plain n program env) (evaluation program env)
