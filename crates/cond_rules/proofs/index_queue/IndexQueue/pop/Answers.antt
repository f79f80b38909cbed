use Rattle.std.proofs.Common.{◌==◌, ◌||◌, ap, sym, subst, ◌∙◌}
use Rattle.cond_rules.specs.IndexQueue.{IndexQueue, holds, IsLeast}
use Rattle.cond_rules.proofs.HeapLaws.{held-less, least-popped}
use Rattle.cond_rules.proofs.index_queue.IndexQueue.pop.Goals as goal

pub returns-clause-least : goal.returns-clause-least
returns-clause-least c =
    let top = c.in_ok-index.field-0 in
    let P : IndexQueue → Type 0 = λ queue. IsLeast queue.indexes top.0 in
    let says = c.in_ok-index.ensures in
    subst P c.self.view_is (least-popped top _ _ says.permutation (says.heap_order c.self.invariant).1)

pub returns-clause-held : goal.returns-clause-held
returns-clause-held c = λ i.
    ap (λ queue. holds queue.indexes i) (sym c.self.view_is) ∙ held-less c.in_ok-index.field-0 _ _ c.in_ok-index.ensures.permutation i
