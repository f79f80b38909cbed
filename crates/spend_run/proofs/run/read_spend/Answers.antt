use Rattle.std.proofs.Common.{◌≡◌, true, false, Err, ap, ◌∙◌, subst, IfOk, IfErr}
use Rattle.clvm_spec.specs.Spelled.{spelled_tree}
use Rattle.clvm_tree.specs.Nodes.{tree_at}
use Rattle.clvm_tree.proofs.NodeLaws.{stays}
use Rattle.block_spec.specs.declared.spend.Spend.{Spend}
use Rattle.judge_spec.specs.Facts.{OtherPuzzle, facts_of}
use Rattle.spend_run.specs.Breaches.{IsBreach}
use Rattle.spend_run.specs.Found.{asked}
use Rattle.spend_run.proofs.PuzzleLaws.{other-puzzle, its-puzzle, facts-read, facts-broken}
use Rattle.spend_run.proofs.run.read_spend.Goals as goal

pub returns-then-not-branch-clause-err : goal.returns-then-not-branch-clause-err
returns-then-not-branch-clause-err c =
    let the_spend : Spend = record { coin = c.spend.inside.coin; puzzle = c.spend.inside.puzzle; solution = c.spend.inside.solution } in
    let tree = tree_at c.node_of.new.trees c.in_ok-puzzle.puzzle.0 in
    let puzzle : tree ≡ spelled_tree the_spend.puzzle = c.in_ok-puzzle.ensures.stands ∙ ap spelled_tree c.as_slice.ensures in
    subst (λ s. facts_of c.args.limit s ≡ Err OtherPuzzle) c.spend.view_is
    (other-puzzle c.args.limit the_spend (its-puzzle the_spend tree false _ puzzle c.in_ok-is_puzzle_of.ensures c.if-not-branch.true))

pub returns-clause-ok : goal.returns-clause-ok
returns-clause-ok c =
    let the_spend : Spend = record { coin = c.spend.inside.coin; puzzle = c.spend.inside.puzzle; solution = c.spend.inside.solution } in
    let tree = tree_at c.node_of.new.trees c.in_ok-puzzle.puzzle.0 in
    let puzzle : tree ≡ spelled_tree the_spend.puzzle = c.in_ok-puzzle.ensures.stands ∙ ap spelled_tree c.as_slice.ensures in
    let own = its-puzzle the_spend tree true _ puzzle c.in_ok-is_puzzle_of.ensures c.if-not-branch.false in
    let kept = stays _ _ c.in_ok-puzzle.puzzle.0 c.in_ok-solution.ensures.grows c.in_ok-puzzle.ensures.known in
    subst (λ s. IfOk c.read_run.result (λ reading. facts_of c.args.limit s ≡ asked s reading.cost reading.conditions)) c.spend.view_is
    (facts-read c.args.limit the_spend _ _ c.read_run.result own (kept ∙ puzzle) (c.in_ok-solution.ensures.stands ∙ ap spelled_tree c.as_slice-2.ensures) c.read_run.ensures.ok)

pub returns-clause-err : goal.returns-clause-err
returns-clause-err c =
    let the_spend : Spend = record { coin = c.spend.inside.coin; puzzle = c.spend.inside.puzzle; solution = c.spend.inside.solution } in
    let tree = tree_at c.node_of.new.trees c.in_ok-puzzle.puzzle.0 in
    let puzzle : tree ≡ spelled_tree the_spend.puzzle = c.in_ok-puzzle.ensures.stands ∙ ap spelled_tree c.as_slice.ensures in
    let own = its-puzzle the_spend tree true _ puzzle c.in_ok-is_puzzle_of.ensures c.if-not-branch.false in
    let kept = stays _ _ c.in_ok-puzzle.puzzle.0 c.in_ok-solution.ensures.grows c.in_ok-puzzle.ensures.known in
    subst (λ s. IfErr c.read_run.result (IsBreach (facts_of c.args.limit s))) c.spend.view_is
    (facts-broken c.args.limit the_spend _ _ c.read_run.result own (kept ∙ puzzle) (c.in_ok-solution.ensures.stands ∙ ap spelled_tree c.as_slice-2.ensures) c.read_run.ensures.err)
