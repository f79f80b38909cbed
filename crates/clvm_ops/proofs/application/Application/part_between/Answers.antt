use Rattle.std.proofs.Common.{◌∙◌, FitsSigned}
use Rattle.std.specs.Int.{w128}
use Rattle.std.proofs.lemmas.Int.{to_z-of_z}
use Rattle.clvm_tree.specs.Nodes.{tree_at}
use Rattle.clvm_ops.proofs.Answered.{faulty, answers_same}
use Rattle.clvm_ops.proofs.PartLaws.{start_before_end_bad, end_bad, part_between_is}
use Rattle.clvm_ops.proofs.application.Application.part_between.Goals as goal

pub returns-in_err-atom_at : goal.returns-in_err-atom_at
returns-in_err-atom_at c = faulty c.args.trees.now c.args.self.now _ c.in_err-atom_at.field-0.0 _ c.from_residual.ensures.1 (c.in_err-atom_at.ensures.err _)

pub returns-in_err-number_at : goal.returns-in_err-number_at
returns-in_err-number_at c =
    faulty c.args.trees.now c.args.self.now _ c.in_err-number_at.field-0.0 _ c.from_residual-in_err-number_at.ensures.1
    (start_before_end_bad c.args.self.now.cost c.args.trees.now (tree_at c.args.trees.now c.args.atom.0) (tree_at c.args.trees.now c.args.start.0) (tree_at c.args.trees.now c.args.end.0) c.in_ok-atom_at.field-0.now _ c.in_ok-atom_at.ensures.ok c.in_err-number_at.ensures.err)

pub returns-in_err-number_at-2 : goal.returns-in_err-number_at-2
returns-in_err-number_at-2 c =
    faulty c.args.trees.now c.args.self.now _ c.in_err-number_at-2.field-0.0 _ c.from_residual-in_err-number_at-2.ensures.1
    (end_bad c.args.self.now.cost c.args.trees.now (tree_at c.args.trees.now c.args.atom.0) (tree_at c.args.trees.now c.args.start.0) (tree_at c.args.trees.now c.args.end.0) c.in_ok-atom_at.field-0.now c.in_ok-number_at.field-0.now _ c.in_ok-atom_at.ensures.ok c.in_ok-number_at.ensures.ok c.in_ok-number_at.ensures.short c.in_err-number_at-2.ensures.err)

pub returns : goal.returns
returns c =
    let trees = c.args.trees.now in
    let start_fits : FitsSigned w128 c.number-start.result = record { sfits = c.number-start.type_inv } in
    let end_fits : FitsSigned w128 c.number-end.result = record { sfits = c.number-end.type_inv } in
    answers_same trees c.give_part.new.trees c.args.self.now _ _ _
    (part_between_is c.args.self.now.cost (tree_at trees c.args.atom.0) (tree_at trees c.args.start.0) (tree_at trees c.args.end.0) c.in_ok-atom_at.field-0.now c.in_ok-number_at.field-0.now c.in_ok-number_at-2.field-0.now _ _ c.in_ok-atom_at.ensures.ok c.in_ok-number_at.ensures.ok c.in_ok-number_at.ensures.short
    c.in_ok-number_at-2.ensures.ok c.in_ok-number_at-2.ensures.short (to_z-of_z w128 _ start_fits ∙ c.number-start.ensures) (to_z-of_z w128 _ end_fits ∙ c.number-end.ensures)) c.give_part.ensures
