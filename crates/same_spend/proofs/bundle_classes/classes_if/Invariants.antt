use Rattle.std.proofs.Common.{◌≡◌, map, take}
use Rattle.std.specs.Prelude.{zip}
use Rattle.same_spend.specs.Told.{class_if}
use Rattle.same_spend.proofs.bundle_classes.classes_if.Given as goal

abbrev pub invariant-loop-place : goal.invariant-loop-place
invariant-loop-place l = l.classes.items ≡ map (class_if l.limit) (take l.place (zip l.spends l.forwards))
