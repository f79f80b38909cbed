use Rattle.std.proofs.Common.{refl}
use Rattle.std.proofs.lemmas.Int.{to_z-of_z}
use Rattle.clvm_spec.specs.declared.costs.TheConstants.{GREATER_COST}
use Rattle.clvm_tree.specs.Operators.{trees_at}
use Rattle.clvm_tree.proofs.OperandLists.{two_operands}
use Rattle.clvm_eval.proofs.QuickLaws.{quickly_same, greater_is}
use Rattle.clvm_eval.proofs.quick.greater_flag.Goals as goal

pub returns : goal.returns
returns c =
    let trees = c.args.trees.now in
    let list = two_operands trees c.args.operands.now record { 0 = 0 } c.in-len2.len_at_least c.in-len2.len_below in
    let first = c.in_ok-first.ensures.held in
    let second = c.in_ok-second.ensures.held in
    let given = simp (to_z-of_z, first, second) at c.flag.ensures in
    quickly_same trees trees c.args.left _ _ _
    (greater_is (trees_at trees c.args.operands.now) _ _ c.in_ok-first.first.value c.in_ok-second.second.value c.in_ok-first.first.size c.in_ok-second.second.size list c.in_ok-first.ensures c.in_ok-second.ensures GREATER_COST _ refl)
    given
