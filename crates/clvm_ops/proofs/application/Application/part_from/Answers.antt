use Rattle.std.proofs.Common.{◌<◌, ◌^◌, ◌∙◌, length, FitsSigned, arith, rules}
use Rattle.std.specs.Int.{w128}
use Rattle.std.proofs.lemmas.Int.{to_z-of_z, to_z_pos}
use Rattle.clvm_tree.specs.Nodes.{tree_at}
use Rattle.clvm_ops.proofs.Answered.{faulty, answers_same}
use Rattle.clvm_ops.proofs.PartLaws.{start_bad, part_from_is}
use Rattle.clvm_ops.proofs.application.Application.part_from.Goals as goal

pub returns-in_err-size : goal.returns-in_err-size
returns-in_err-size c = faulty c.args.trees.now c.args.self.now _ c.in_err-size.field-0.0 _ c.from_residual.ensures.1 (c.in_err-size.ensures.err _)

pub returns-in_err-number_at : goal.returns-in_err-number_at
returns-in_err-number_at c =
    faulty c.args.trees.now c.args.self.now _ c.in_err-number_at.field-0.0 _ c.from_residual-in_err-number_at.ensures.1
    (start_bad c.args.self.now.cost c.args.trees.now (tree_at c.args.trees.now c.args.atom.0) (tree_at c.args.trees.now c.args.start.0) c.in_ok-size.field-0.now _ c.in_ok-size.ensures.ok c.in_err-number_at.ensures.err)

pub returns : goal.returns
returns c =
    let trees = c.args.trees.now in
    let fits : FitsSigned w128 c.number-start.result = record { sfits = c.number-start.type_inv } in
    let long : length c.in_ok-size.field-0.now < 2 ^ 63 = search rules in
    answers_same trees c.give_part.new.trees c.args.self.now _ _ _
    (part_from_is c.args.self.now.cost (tree_at trees c.args.atom.0) (tree_at trees c.args.start.0) c.in_ok-size.field-0.now c.in_ok-number_at.field-0.now _ _ c.in_ok-size.ensures.ok c.in_ok-number_at.ensures.ok c.in_ok-number_at.ensures.short
    (to_z-of_z w128 _ fits ∙ c.number-start.ensures) (to_z_pos w128 _ (omega arith))) c.give_part.ensures
