use Rattle.std.proofs.Common.{◌-◌, IfErr, length, take, drop, sym, subst}
use Rattle.clvm_tree.specs.Nodes.{tree_at, AreKnown}
use Rattle.clvm_tree.specs.Operators.{trees_at, outcome_by, IsAnswer}
use Rattle.clvm_tree.proofs.OperatorLaws.{answers_law}
use Rattle.clvm_eval.specs.Runs.{IsRunFault}
use Rattle.clvm_eval.specs.declared.state.Step.TheVariants as step
use Rattle.clvm_eval.specs.Steps.{outcome_of}
use Rattle.clvm_eval.proofs.StateLaws.{AreKnown-take, AreKnown-drop}
use Rattle.clvm_eval.proofs.FormLaws.{operands_seen, answer_taken, answer_room, answer_there, answer_same}
use Rattle.clvm_eval.proofs.state.State.operator_value.Goals as goal

pub quick-requires-clause-operands_known : goal.quick-requires-clause-operands_known
quick-requires-clause-operands_known g c =
    let trees = c.args.trees.now in
    let start = c.len.result - c.args.frame.count in
    let seen = c.deref.result.now in
    AreKnown-take trees (length seen - start) (drop start seen) (AreKnown-drop trees start seen (subst (AreKnown trees) (sym c.deref.ensures.value) c.requires.opened.state.operands))

pub take_answer-requires : goal.take_answer-requires
take_answer-requires g c =
    let old = c.args.trees.now in
    let start = c.len.result - c.args.frame.count in
    let seen = c.deref.result.now in
    record { within = answers_law c.quick.new.trees (tree_at old c.args.frame.code.0) (trees_at old (take (length seen - start) (drop start seen))) c.args.self.now.left c.in-Some.answer c.in-Some.ensures.is }

pub returns-in-Some-clause-ok : goal.returns-in-Some-clause-ok
returns-in-Some-clause-ok g c =
    let old = c.args.trees.now in
    let new = c.quick.new.trees in
    let before = c.args.self.now in
    let frame = c.args.frame in
    let answer = c.in-Some.answer in
    let mid = c.take_answer.new.self in
    let own = operands_seen before frame c.deref.result.now c.len.result c.len.ensures c.deref.ensures.value in
    let start = c.len.result - frame.count in
    let seen = c.deref.result.now in
    let within = answers_law c.quick.new.trees (tree_at old frame.code.0) (trees_at old (take (length seen - start) (drop start seen))) before.left answer c.in-Some.ensures.is in
    let gives = subst (λ ops. IsAnswer c.quick.new.trees (outcome_by (tree_at old frame.code.0) (trees_at old ops) before.left) answer) own c.in-Some.ensures.is in
    let takes = answer_taken before c.take_answer.new.self frame answer c.len.result c.len.ensures c.take_answer.ensures in
    let there = answer_there old new before mid frame answer c.requires.opened c.in-Some.ensures.grows c.in-Some.ensures.few within gives takes in
    let room = answer_room old new before mid frame answer c.requires.opened c.in-Some.ensures.grows c.in-Some.ensures.few within gives takes in
    let same = answer_same old new before mid frame answer c.requires.opened c.in-Some.ensures.grows c.in-Some.ensures.few within gives takes c.requires.ready c.requires.other in
    record { there = there; room = room.1; cheaper = room.0; same = same }

pub returns-in-None-clause-fault : goal.returns-in-None-clause-fault
returns-in-None-clause-fault g c =
    subst (λ trees. IfErr c.value_by_table.result (IsRunFault c.value_by_table.new.trees (outcome_of trees c.args.self.now (step.Open c.args.frame)))) c.in-None.ensures c.value_by_table.ensures.fault
