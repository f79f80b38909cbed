use Rattle.std.proofs.Common.{◌+◌, ◌∙◌, ap₂, sym, subst, FitsSigned}
use Rattle.std.specs.Int.{w128}
use Rattle.std.proofs.lemmas.Int.{to_z-of_z}
use Rattle.clvm_spec.specs.declared.costs.TheConstants.{DIFFERENCE_COST}
use Rattle.clvm_spec.specs.Operators.{new_number}
use Rattle.clvm_tree.specs.Operators.{trees_at}
use Rattle.clvm_tree.proofs.OperandLists.{two_operands}
use Rattle.clvm_eval.proofs.QuickLaws.{quickly_same, difference_is}
use Rattle.clvm_eval.proofs.quick.difference_of.Goals as goal

pub returns : goal.returns
returns c =
    let trees = c.args.trees.now in
    let list = two_operands trees c.args.operands.now record { 0 = 0 } c.in-len2.len_at_least c.in-len2.len_below in
    let first = c.in_ok-first.ensures.held in
    let second = c.in_ok-second.ensures.held in
    let held = simp (to_z-of_z, first, second) at c.in_ok-difference.ensures in
    let fit = subst (FitsSigned w128) (sym held.1) held.0 in
    let given = simp (to_z-of_z, fit) at c.new_number.ensures in
    quickly_same trees c.new_number.new.trees c.args.left _ _ _
    (difference_is (trees_at trees c.args.operands.now) _ _ c.in_ok-first.first.value c.in_ok-second.second.value c.in_ok-first.first.size c.in_ok-second.second.size list c.in_ok-first.ensures c.in_ok-second.ensures DIFFERENCE_COST held.0
    ∙ ap₂ (λ t n. new_number (DIFFERENCE_COST + t) n) (sym c.terms_cost.ensures) (sym held.1))
    given
