use Rattle.std.proofs.Common.{◌==◌, ◌||◌, ap, ◌∙◌}
use Rattle.cond_rules.specs.IndexQueue.{holds}
use Rattle.cond_rules.proofs.HeapLaws.{held-more}
use Rattle.cond_rules.proofs.index_queue.IndexQueue.push.Goals as goal

pub returns-clause-held : goal.returns-clause-held
returns-clause-held c =
    let moves = rw c.unwrap.ensures at c.push.ensures.permutation in
    λ i. held-more _ _ _ moves i ∙ ap (λ queue. (c.args.index == i) || holds queue.indexes i) c.self.view_is
