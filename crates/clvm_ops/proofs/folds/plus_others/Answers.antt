use Rattle.std.proofs.Common.{◌+ℤ◌, to_z, sym, ap, ◌∙◌, arith}
use Rattle.std.specs.Int.{w128}
use Rattle.std.proofs.lemmas.Int.{to_z-of_z}
use Rattle.clvm_spec.specs.Operators.{or_wide}
use Rattle.clvm_ops.proofs.NodeLists.{known_at}
use Rattle.clvm_ops.proofs.FoldLaws.{short_at, left_step, left_wide, left_all}
use Rattle.clvm_ops.proofs.folds.plus_others.Goals as goal

pub number_of-requires-clause-known : goal.number_of-requires-clause-known
number_of-requires-clause-known c = known_at c.args.trees.now c.args.others.now c.loop-other.other-index record { 0 = 0 } c.requires.known (omega arith)

pub number_of-requires-clause-short : goal.number_of-requires-clause-short
number_of-requires-clause-short c = short_at c.args.trees.now c.args.others.now c.loop-other.other-index record { 0 = 0 } (omega arith) c.requires.short

pub loop-other-preserved : goal.loop-other-preserved
loop-other-preserved c = λ go. c.loop-other.invariant go
    ∙ left_step ◌+ℤ◌ c.args.trees.now c.args.others.now c.loop-other.other-index record { 0 = 0 } (to_z w128 c.loop-other.sum-bits) c.in_ok-sum.sum c.number_of.result go (omega arith)
    (record { sfits = c.number_of.type_inv }) c.number_of.ensures c.in_ok-sum.ensures.0 c.in_ok-sum.ensures.1

pub returns-in_err-sum : goal.returns-in_err-sum
returns-in_err-sum c =
    let invariant = simp (to_z-of_z, c.ranges.first) at c.loop-other.invariant in
    λ go. invariant go ∙ left_wide ◌+ℤ◌ c.args.trees.now c.args.others.now c.loop-other.other-index record { 0 = 0 } (to_z w128 c.loop-other.sum-bits) c.number_of.result go (omega arith)
    (record { sfits = c.number_of.type_inv }) c.number_of.ensures c.in_err-sum.ensures
    ∙ ap (λ held. or_wide held go) (sym c.from_residual.ensures)

pub returns : goal.returns
returns c =
    let invariant = simp (to_z-of_z, c.ranges.first) at c.loop-other.invariant in
    λ go. invariant go ∙ left_all ◌+ℤ◌ c.args.trees.now c.args.others.now c.loop-other.other-index (to_z w128 c.loop-other.sum-bits) go (omega arith)
