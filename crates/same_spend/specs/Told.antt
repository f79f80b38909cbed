-- The classes of a bundle's spends by what is told of their shapes. Source: this project's own.
use Rattle.std.specs.Prelude.{◌≡◌, ℕ, List, map, zip, is_ok, Bool, Some, if◌then◌else◌}
use Rattle.block_spec.specs.declared.spend.Spend.{Spend}
use Rattle.block_spec.specs.declared.bundle.Bundle.{Bundle}
use Rattle.coin_facts.specs.declared.hash32.Hash32.{Hash32}
use Rattle.judge_spec.specs.declared.class.Class.{Class}
use Rattle.judge_spec.specs.declared.class.Class.TheVariants.{Forward}
use Rattle.judge_spec.specs.declared.limits.Limits.{Limits}
use Rattle.judge_spec.specs.Facts.{Facts}
use Rattle.judge_spec.specs.JudgeLaws.{AreFound}
use Rattle.judge_spec.specs.Judgement.{spends_in}
use Rattle.pool_spec.specs.Shape.{run_conditions, shape_of}
use Rattle.pool_spec.specs.Classes.{class_by_run, classes_of}
use Rattle.same_spend.specs.Marks.{forwards}

abbrev pub puzzle_hashes : List Spend → List Hash32
puzzle_hashes spends = map (λ spend. spend.coin.puzzle_hash) spends

-- ---- by the spends

abbrev pub class_if : ℕ → Spend × Bool → Class
class_if limit pair = if pair.1 then Forward else class_by_run (run_conditions limit pair.0)

abbrev pub classes_told : ℕ → List Spend → List Bool → List Class
classes_told limit spends shaped = map (class_if limit) (zip spends (forwards (puzzle_hashes spends) shaped))

-- ---- by their facts

abbrev pub facts_class_if : Facts × Bool → Class
facts_class_if pair = if pair.1 then Forward else class_by_run (Some (pair.0).conditions)

abbrev pub facts_classes_told : List Facts → List Bool → List Class
facts_classes_told list shaped = map facts_class_if (zip list (forwards (map (λ facts. facts.spend.coin.puzzle_hash) list) shaped))

-- ---- where what is told is so

-- What is told of each spend is whether it breaks none of the checks of the Forward shape.
abbrev pub AreShapes : Limits → List Spend → List Bool → Type 0
AreShapes limits spends shaped = shaped ≡ map (λ spend. is_ok (shape_of limits.max_cost limits.singleton spend)) spends

-- They are the bundle's classes under all limits with this greatest cost under which the shapes are as it is told.
abbrev pub AreClasses : ℕ → Bundle → List Bool → List Class → Type 0
AreClasses limit bundle shaped classes =
    (limits : Limits) → limits.max_cost ≡ limit → AreShapes limits bundle.spends shaped → classes ≡ classes_of limits bundle

-- the same of a bundle with these facts, where they are found with that greatest cost
abbrev pub AreClassesOfFacts : List Facts → List Bool → List Class → Type 0
AreClassesOfFacts list shaped classes =
    (limits : Limits) (bundle : Bundle) → bundle.spends ≡ spends_in list → AreFound limits.max_cost list →
    AreShapes limits bundle.spends shaped → classes ≡ classes_of limits bundle
