use Rattle.std.proofs.Common.{◌*ℤ◌, to_z, length, sym, ap, ◌∙◌, arith}
use Rattle.std.specs.Int.{w128}
use Rattle.std.proofs.lemmas.Bool.{leb-true}
use Rattle.std.proofs.lemmas.Int.{to_z-of_z}
use Rattle.clvm_spec.specs.declared.limits.TheConstants.{NUMBER_BYTES}
use Rattle.clvm_spec.specs.Operators.{or_wide, new_number}
use Rattle.clvm_ops.proofs.NodeLists.{known_at}
use Rattle.clvm_ops.proofs.FoldLaws.{short_at, left_wide, times_step}
use Rattle.clvm_ops.proofs.folds.times_others.Goals as goal

pub bytes_of-requires : goal.bytes_of-requires
bytes_of-requires c = known_at c.args.trees.now c.args.others.now c.loop-other.other-index record { 0 = 0 } c.requires.known (omega arith)

pub factor_cost-cost-requires-clause-other : goal.factor_cost-cost-requires-clause-other
factor_cost-cost-requires-clause-other c =
    omega (arith, leb-true _ NUMBER_BYTES (short_at c.args.trees.now c.args.others.now c.loop-other.other-index record { 0 = 0 } (omega arith) c.requires.short), ap length c.bytes_of.ensures)

pub number_of-requires-clause-known : goal.number_of-requires-clause-known
number_of-requires-clause-known c = known_at c.args.trees.now c.args.others.now c.loop-other.other-index record { 0 = 0 } c.requires.known (omega arith)

pub number_of-requires-clause-short : goal.number_of-requires-clause-short
number_of-requires-clause-short c = short_at c.args.trees.now c.args.others.now c.loop-other.other-index record { 0 = 0 } (omega arith) c.requires.short

pub loop-other-preserved : goal.loop-other-preserved
loop-other-preserved c =
    times_step c.args.trees.now c.args.others.now c.loop-other.other-index record { 0 = 0 } _ c.loop-other.cost c.loop-other.size c.factor_cost-cost.result c.number_length-size.result
    (to_z w128 c.loop-other.number-bits) c.in_ok-number.number c.number_of.result c.bytes_of.result.now (omega arith) c.bytes_of.ensures c.loop-other.invariant
    (record { sfits = c.number_of.type_inv }) c.number_of.ensures c.in_ok-number.ensures.0 c.in_ok-number.ensures.1 c.factor_cost-cost.ensures.cost c.factor_cost-cost.ensures.few
    c.number_length-size.ensures.length c.number_length-size.ensures.few

pub returns-in_err-number : goal.returns-in_err-number
returns-in_err-number c =
    let before = simp (to_z-of_z, c.ranges.first) at c.loop-other.invariant.whole_is in
    before
    ∙ left_wide ◌*ℤ◌ c.args.trees.now c.args.others.now c.loop-other.other-index record { 0 = 0 } (to_z w128 c.loop-other.number-bits) c.number_of.result _ (omega arith)
    (record { sfits = c.number_of.type_inv }) c.number_of.ensures c.in_err-number.ensures
    ∙ ap (λ held. or_wide held (λ product. new_number product.cost product.number)) (sym c.from_residual.ensures)
