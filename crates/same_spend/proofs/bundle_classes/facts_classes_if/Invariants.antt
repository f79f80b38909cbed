use Rattle.std.proofs.Common.{◌≡◌, map, take}
use Rattle.std.specs.Prelude.{zip}
use Rattle.same_spend.specs.Told.{facts_class_if}
use Rattle.same_spend.proofs.bundle_classes.facts_classes_if.Given as goal

abbrev pub invariant-loop-place : goal.invariant-loop-place
invariant-loop-place l = l.classes.items ≡ map facts_class_if (take l.place (zip l.list l.forwards))
