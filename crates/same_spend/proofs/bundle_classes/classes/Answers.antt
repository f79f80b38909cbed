use Rattle.std.proofs.Common.{◌≡◌, ap, ◌∙◌}
use Rattle.std.proofs.lemmas.Result.{IfOk-weaker}
use Rattle.same_spend.specs.Told.{classes_told, AreClasses}
use Rattle.same_spend.proofs.ClassLaws.{told-are}
use Rattle.same_spend.proofs.bundle_classes.classes.Goals as goal

pub returns-clause-classes : goal.returns-clause-classes
returns-clause-classes c =
    let limit = c.args.limit in
    let forward = c.args.forward.now in
    IfOk-weaker c.classes_told.result (λ classes. classes.items ≡ classes_told limit c.as_slice.result.now forward)
    (λ classes. AreClasses limit c.args.bundle.now forward classes.items)
    (λ classes is. told-are limit c.args.bundle.now forward classes.items (is ∙ ap (λ spends. classes_told limit spends forward) c.as_slice.ensures.value))
    c.classes_told.ensures
