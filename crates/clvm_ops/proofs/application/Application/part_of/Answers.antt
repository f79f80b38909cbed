use Rattle.std.proofs.Common.{ap}
use Rattle.clvm_spec.specs.Operators.{part_of}
use Rattle.clvm_spec.specs.Outcomes.{Enough}
use Rattle.clvm_tree.specs.declared.operators.OpFault.TheVariants as fault
use Rattle.clvm_ops.proofs.Answered.{answers_same, refused_at_once}
use Rattle.clvm_ops.proofs.PartLaws.{part_of_few, part_of_many}
use Rattle.clvm_tree.proofs.OperandLists.{two_operands, three_operands}
use Rattle.clvm_ops.proofs.application.Application.part_of.Goals as goal

pub returns-in-len2 : goal.returns-in-len2
returns-in-len2 c =
    let trees = c.args.trees.now in
    let list = two_operands trees c.args.self.now.operands.now record { 0 = 0 } c.in-len2.len_at_least c.in-len2.len_below in
    answers_same trees c.part_from.new.trees c.args.self.now _ _ _ (ap (part_of c.args.self.now.cost) list) (c.part_from.ensures)

pub returns-in-len3 : goal.returns-in-len3
returns-in-len3 c =
    let trees = c.args.trees.now in
    let list = three_operands trees c.args.self.now.operands.now record { 0 = 0 } c.in-len3.len_at_least c.in-len3.len_below in
    answers_same trees c.part_between.new.trees c.args.self.now _ _ _ (ap (part_of c.args.self.now.cost) list) (c.part_between.ensures)

pub returns-in_default : goal.returns-in_default
returns-in_default c =
    refused_at_once c.args.trees.now c.args.self.now _ fault.Count (ap Enough (part_of_few c.args.self.now.cost c.args.trees.now c.args.self.now.operands.now c.in_default.len_below))

pub returns-in_default-2 : goal.returns-in_default-2
returns-in_default-2 c =
    refused_at_once c.args.trees.now c.args.self.now _ fault.Count (ap Enough (part_of_many c.args.self.now.cost c.args.trees.now c.args.self.now.operands.now c.in_default.len_at_least))
