use Rattle.std.proofs.Common.{◌≡◌, length, refl, sym, ◌∙◌, ap, subst, arith}
use Rattle.std.proofs.lemmas.List.{length-map}
use Rattle.clvm_spec.specs.Evaluation.{is_too_deep}
use Rattle.clvm_tree.specs.Nodes.{tree_at}
use Rattle.clvm_tree.specs.declared.Node.{Node}
use Rattle.clvm_tree.specs.Operators.{trees_at}
use Rattle.clvm_eval.specs.declared.state.Frame.{Frame}
use Rattle.clvm_eval.specs.Steps.{AddsOperands}
use Rattle.clvm_eval.proofs.FormLaws.{no_list, form_unpaid, form_too_deep, form_opened}
use Rattle.clvm_eval.proofs.state.State.open_form.Goals as goal

pub returns-in_default : goal.returns-in_default
returns-in_default c =
    let trees = c.args.trees.now in
    let none = subst (AddsOperands trees c.args.operands.0 c.args.self.now.operands.items c.add_operands.new.operands.items) c.in_default.is c.in_ok-count.ensures in
    record { raised_known = tt; form_known = c.requires.form_known; failed = no_list trees c.args.self.now c.args.form.0 c.args.env.0 c.args.code.0 c.args.operands.0 c.requires.form none }

pub returns-then-not-pay : goal.returns-then-not-pay
returns-then-not-pay c =
    let trees = c.args.trees.now in
    let adds = subst (AddsOperands trees c.args.operands.0 c.args.self.now.operands.items c.add_operands.new.operands.items) c.in-Some.is c.in_ok-count.ensures in
    form_unpaid trees c.args.self.now c.args.form.0 c.args.env.0 c.args.code.0 c.args.operands.0 c.requires.form (trees_at trees adds.nodes) adds.elements.are c.if-not-pay.ensures

pub returns-then-is_too_deep : goal.returns-then-is_too_deep
returns-then-is_too_deep c =
    let trees = c.args.trees.now in
    let adds = subst (AddsOperands trees c.args.operands.0 c.args.self.now.operands.items c.add_operands.new.operands.items) c.in-Some.is c.in_ok-count.ensures in
    let depth : length c.args.self.now.frames.items ≡ c.len-depth.result = omega (arith, c.len-depth.ensures, c.args.self.now.frames.ok.0) in
    form_too_deep trees c.args.self.now c.args.form.0 c.args.env.0 c.args.code.0 c.args.operands.0 c.requires.form (trees_at trees adds.nodes) c.in-Some.count c.pay.new.left adds.elements.are
    (length-map adds.nodes (λ (node : Node). tree_at trees node.0) ∙ sym adds.count_is) c.if-not-pay.ensures
    (ap (λ d. is_too_deep c.in-Some.count d c.pay.new.left.depth) depth ∙ sym c.is_too_deep.ensures ∙ c.if-is_too_deep.true)

pub returns : goal.returns
returns c =
    let trees = c.args.trees.now in
    let adds = subst (AddsOperands trees c.args.operands.0 c.args.self.now.operands.items c.add_operands.new.operands.items) c.in-Some.is c.in_ok-count.ensures in
    let depth : length c.args.self.now.frames.items ≡ c.len-depth.result = omega (arith, c.len-depth.ensures, c.args.self.now.frames.ok.0) in
    let frame : Frame = record { code = c.args.code; form = c.args.form; env = c.args.env; count = c.in-Some.count; programs = c.in-Some.count } in
    form_opened trees c.args.self.now _ frame c.args.operands.0 c.requires.state c.requires.form adds refl c.if-not-pay.ensures
    (ap (λ d. is_too_deep c.in-Some.count d c.pay.new.left.depth) depth ∙ sym c.is_too_deep.ensures ∙ c.if-is_too_deep.false) refl c.requires.form_known c.requires.env_known
