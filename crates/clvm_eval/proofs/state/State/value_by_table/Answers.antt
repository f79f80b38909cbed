use Rattle.std.proofs.Common.{◌≡◌, ◌-◌, length, drop, sym, ◌∙◌, ap, subst, arith}
use Rattle.clvm_spec.specs.Evaluation.{if_done, in_form}
use Rattle.clvm_tree.specs.Nodes.{tree_at, AreKnown}
use Rattle.clvm_tree.specs.Operators.{trees_at, outcome_by, IsAnswer, IsOpFault}
use Rattle.clvm_tree.proofs.NodeLaws.{grows_length, stays}
use Rattle.clvm_eval.specs.declared.state.Step.TheVariants as step
use Rattle.clvm_eval.specs.Steps.{last_operands, goes_out, outcome_of}
use Rattle.clvm_eval.proofs.StateLaws.{AreKnown-take, AreKnown-drop}
use Rattle.clvm_eval.proofs.FormLaws.{operands_seen, answer_taken, fault_of_all, other_part, answer_room, answer_there, answer_same}
use Rattle.clvm_eval.proofs.state.State.value_by_table.Goals as goal

pub table_answer-requires-clause-operands_known : goal.table_answer-requires-clause-operands_known
table_answer-requires-clause-operands_known g c =
    let trees = c.args.trees.now in
    let start = c.len.result - c.args.frame.count in
    let seen = c.deref.result.now in
    AreKnown-take trees (length seen - start) (drop start seen) (AreKnown-drop trees start seen (subst (AreKnown trees) (sym c.deref.ensures.value) c.requires.opened.state.operands))

pub returns-in-Ok-clause-ok : goal.returns-in-Ok-clause-ok
returns-in-Ok-clause-ok g c =
    let old = c.args.trees.now in
    let new = c.table_answer.new.trees in
    let before = c.args.self.now in
    let frame = c.args.frame in
    let answer = c.in-Ok.answer in
    let mid = c.take_answer.new.self in
    let own = operands_seen before frame c.deref.result.now c.len.result c.len.ensures c.deref.ensures.value in
    let gives = subst (λ ops. IsAnswer c.table_answer.new.trees (outcome_by (tree_at old frame.code.0) (trees_at old ops) before.left) answer) own c.in-Ok.ensures.gives in
    let takes = answer_taken before c.take_answer.new.self frame answer c.len.result c.len.ensures c.take_answer.ensures in
    let there = answer_there old new before mid frame answer c.requires.opened c.in-Ok.ensures.grows c.in-Ok.ensures.few c.in-Ok.ensures.within gives takes in
    let room = answer_room old new before mid frame answer c.requires.opened c.in-Ok.ensures.grows c.in-Ok.ensures.few c.in-Ok.ensures.within gives takes in
    let same = answer_same old new before mid frame answer c.requires.opened c.in-Ok.ensures.grows c.in-Ok.ensures.few c.in-Ok.ensures.within gives takes c.requires.ready c.requires.other in
    record { there = there; room = room.1; cheaper = room.0; same = same }

pub returns-in-Err-clause-fault : goal.returns-in-Err-clause-fault
returns-in-Err-clause-fault g c =
    let old = c.args.trees.now in
    let new = c.table_answer.new.trees in
    let before = c.args.self.now in
    let frame = c.args.frame in
    let grows = c.in-Err.ensures.grows in
    let known = c.requires.opened.sound.form in
    let own = operands_seen before frame c.deref.result.now c.len.result c.len.ensures c.deref.ensures.value in
    let applied = outcome_by (tree_at old frame.code.0) (trees_at old (last_operands before frame)) before.left in
    let fault = subst (λ ops. IsOpFault new (outcome_by (tree_at old frame.code.0) (trees_at old ops) before.left) c.in-Err.fault) own c.in-Err.ensures.fault in
    let part = in_form (tree_at new frame.form.0) before.left applied in
    let form : tree_at old frame.form.0 ≡ tree_at new frame.form.0 = sym (stays old new frame.form.0 grows known) in
    fault_of_all new part (outcome_of old before (step.Open frame)) (goes_out old before) c.fault_in.result
    (other_part old before frame c.requires.ready c.requires.other ∙ ap (λ form. if_done (in_form form before.left applied) (goes_out old before)) form)
    (c.fault_in.ensures new applied before.left (omega (arith, grows_length old new grows, known)) fault)
