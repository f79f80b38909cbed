use Rattle.std.proofs.Common.{◌≡◌, ap, ◌∙◌}
use Rattle.std.proofs.lemmas.Result.{IfOk-weaker}
use Rattle.same_spend.specs.Told.{facts_classes_told, AreClassesOfFacts}
use Rattle.same_spend.proofs.ClassLaws.{facts-told-are}
use Rattle.same_spend.proofs.bundle_classes.classes_of_facts.Goals as goal

pub returns-clause-classes : goal.returns-clause-classes
returns-clause-classes c =
    let forward = c.args.forward.now in
    IfOk-weaker c.facts_classes_told.result (λ classes. classes.items ≡ facts_classes_told c.as_slice.result.now forward)
    (λ classes. AreClassesOfFacts c.args.list.now forward classes.items)
    (λ classes is. facts-told-are c.args.list.now forward classes.items (is ∙ ap (λ list. facts_classes_told list forward) c.as_slice.ensures.value))
    c.facts_classes_told.ensures
