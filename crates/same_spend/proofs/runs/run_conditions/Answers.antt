use Rattle.std.proofs.Common.{◌≡◌, IfOk, ap, ◌∙◌, subst}
use Rattle.clvm_spec.specs.Spelled.{spelled_tree}
use Rattle.clvm_tree.proofs.NodeLaws.{stays}
use Rattle.block_spec.specs.declared.spend.Spend.{Spend}
use Rattle.pool_spec.specs.Shape.{run_conditions}
use Rattle.same_spend.proofs.ClassLaws.{run-read}
use Rattle.same_spend.proofs.runs.run_conditions.Goals as goal

pub returns : goal.returns
returns c =
    let the_spend : Spend = record { coin = c.spend.inside.coin; puzzle = c.spend.inside.puzzle; solution = c.spend.inside.solution } in
    let kept = stays _ _ c.in_ok-puzzle.puzzle.0 c.in_ok-solution.ensures.grows c.in_ok-puzzle.ensures.known in
    subst (λ s. IfOk c.conditions_in.result (λ found. found ≡ run_conditions c.args.limit s)) c.spend.view_is
    (run-read c.args.limit the_spend _ _ c.conditions_in.result (kept ∙ (c.in_ok-puzzle.ensures.stands ∙ ap spelled_tree c.as_slice.ensures))
    (c.in_ok-solution.ensures.stands ∙ ap spelled_tree c.as_slice-2.ensures) c.conditions_in.ensures)
