-- The classes of a bundle's spends: Plain, Same or Forward. Source: this project's own.
use Rattle.std.specs.Prelude.{◌==◌, ◌&&◌, List, map, count_by, Bool, true, false, not, is_ok, Option, Some, None, if◌then◌else◌}
use Rattle.std.specs.List.{list_any, list_all}
use Rattle.coin_facts.specs.IdLists.{is_same_id}
use Rattle.block_spec.specs.declared.spend.Spend.{Spend}
use Rattle.block_spec.specs.declared.bundle.Bundle.{Bundle}
use Rattle.cond_spec.specs.declared.condition.Condition.{Condition}
use Rattle.cond_spec.specs.declared.condition.Condition.TheVariants.{AggSigParent, AggSigPuzzle, AggSigAmount, AggSigPuzzleAmount, AggSigParentAmount, AggSigParentPuzzle, AggSigUnsafe, AggSigMe}
use Rattle.judge_spec.specs.declared.class.Class.{Class}
use Rattle.judge_spec.specs.declared.class.Class.TheVariants.{Plain, Same, Forward}
use Rattle.judge_spec.specs.declared.limits.Limits.{Limits}
use Rattle.pool_spec.specs.Shape.{run_conditions, shape_of}

-- No other spend of the bundle has its puzzle hash.
abbrev pub is_alone : List Spend → Spend → Bool
is_alone spends spend = count_by (λ other. is_same_id other.coin.puzzle_hash spend.coin.puzzle_hash) spends == 1

abbrev pub has_shape : Limits → List Spend → Spend → Bool
has_shape limits spends spend = is_alone spends spend && is_ok (shape_of limits.max_cost limits.singleton spend)

-- Those with the shape are Forward, unless every spend of the bundle has it: then none is.
abbrev pub is_forward : Limits → List Spend → Spend → Bool
is_forward limits spends spend = has_shape limits spends spend && not (list_all (has_shape limits spends) spends)

-- 43 to 50
abbrev pub wants_signature : Condition → Bool
wants_signature (AggSigParent key text) = true
wants_signature (AggSigPuzzle key text) = true
wants_signature (AggSigAmount key text) = true
wants_signature (AggSigPuzzleAmount key text) = true
wants_signature (AggSigParentAmount key text) = true
wants_signature (AggSigParentPuzzle key text) = true
wants_signature (AggSigUnsafe key text) = true
wants_signature (AggSigMe key text) = true
wants_signature _ = false

-- Other spends are Same where their run has no condition 43 to 50. They are Plain where it has one, and where it gives no
-- conditions.
abbrev pub class_by_run : Option (List Condition) → Class
class_by_run (Some conditions) = if list_any wants_signature conditions then Plain else Same
class_by_run None = Plain

-- the class of a spend among all spends of its bundle
unfoldable pub class_of : Limits → List Spend → Spend → Class
class_of limits spends spend =
    if is_forward limits spends spend then Forward else class_by_run (run_conditions limits.max_cost spend)

-- the classes of a bundle as it was handed in, place by place
abbrev pub classes_of : Limits → Bundle → List Class
classes_of limits bundle = map (class_of limits bundle.spends) bundle.spends
