use Rattle.std.proofs.Common.{ap, sym, subst, ◌∙◌}
use Rattle.cond_rules.specs.IndexQueue.{IndexQueue, IsLeast}
use Rattle.cond_rules.proofs.HeapLaws.{least-top}
use Rattle.cond_rules.proofs.index_queue.IndexQueue.first.Goals as goal

pub returns-in-Some-clause-least : goal.returns-in-Some-clause-least
returns-in-Some-clause-least c =
    let top = c.in-Some.field-0.now in
    let P : IndexQueue → Type 0 = λ queue. IsLeast queue.indexes top.0 in
    subst P c.self.view_is (least-top top _ c.in-Some.ensures.item.3.0 c.in-Some.ensures.lookup (c.in-Some.ensures.greatest c.self.invariant))
