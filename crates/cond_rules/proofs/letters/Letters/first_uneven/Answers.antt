use Rattle.std.proofs.Common.{ap, ◌∙◌}
use Rattle.cond_rules.specs.Letters.{first_uneven}
use Rattle.cond_rules.proofs.QueueLaws.{uneven-first, uneven-none}
use Rattle.cond_rules.proofs.letters.Letters.first_uneven.Goals as goal

pub returns-in_err-index : goal.returns-in_err-index
returns-in_err-index c =
    let queued = c.self.invariant.queued in
    c.from_residual.ensures
    ∙ uneven-none c.self.inside.counts.entries c.self.inside.uneven.indexes queued.distinct queued.queued c.in_err-index.ensures.none
    ∙ ap (λ letters. first_uneven letters.counts) c.self.view_is

pub returns : goal.returns
returns c =
    let queued = c.self.invariant.queued in
    let least = c.in_ok-index.ensures.least in
    c.first_at.ensures
    ∙ uneven-first c.self.inside.counts.entries c.self.inside.uneven.indexes c.in_ok-index.index queued.distinct queued.queued least
    (c.self.invariant.settled c.in_ok-index.index least)
    ∙ ap (λ letters. first_uneven letters.counts) c.self.view_is
