-- When code agrees with the module that it was made of. Source: this project's own.
use Rattle.std.specs.Prelude.{◌≡◌, ◌↔◌, ℕ}
use Rattle.clvm_spec.specs.declared.fuel.Fuel.{Fuel}
use Rattle.clvm_spec.specs.Tree.{Tree}
use Rattle.clvm_spec.specs.Outcomes.{Why, Done}
use Rattle.clvm_spec.specs.Outcomes as run
use Rattle.clvm_spec.specs.Evaluation.{run_outcome}
use Rattle.lisp_spec.specs.Modules.{Module}
use Rattle.lisp_spec.specs.Meaning.{Value, Failed, Wide, module_meaning}

-- with some count the source has this value on this argument
abbrev pub HasValue : Module → Tree → Tree → Type 0
HasValue source argument value = (n : ℕ) × (module_meaning source argument n ≡ Value value)

abbrev pub IsWide : Module → Tree → Type 0
IsWide source argument = (n : ℕ) × (module_meaning source argument n ≡ Wide)

-- with some fuel the code's run is done with this value
abbrev pub RunsTo : Tree → Tree → Tree → Type 0
RunsTo code argument value = (fuel : Fuel) × (left : Fuel) × (run_outcome code argument fuel ≡ Done value left)

abbrev pub RunsWide : Tree → Tree → Type 0
RunsWide code argument = (fuel : Fuel) × (run_outcome code argument fuel ≡ run.Wide)

pub record Agrees (source : Module) (code : Tree) : Type 0 where
  pub value : (argument value : Tree) → HasValue source argument value ↔ RunsTo code argument value
  pub wide : (argument : Tree) → IsWide source argument ↔ RunsWide code argument

-- with some count the source fails
abbrev pub IsFailing : Module → Tree → Type 0
IsFailing source argument = (n : ℕ) × (module_meaning source argument n ≡ Failed)

-- with some fuel the code's run fails, for want of nothing
abbrev pub RunsAstray : Tree → Tree → Type 0
RunsAstray code argument = (fuel : Fuel) × (why : Why) × (form : Tree) × (run_outcome code argument fuel ≡ run.Failed why form)

-- The code fails exactly where the source does. Agreement doesn't ask for it.
abbrev pub FailsAlike : Module → Tree → Type 0
FailsAlike source code = (argument : Tree) → IsFailing source argument ↔ RunsAstray code argument
