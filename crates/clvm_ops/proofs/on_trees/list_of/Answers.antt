use Rattle.clvm_ops.proofs.TreeLaws.{listed-init, listed_more, last_known}
use Rattle.clvm_ops.proofs.on_trees.list_of.Goals as goal

pub operands-init : goal.operands-init
operands-init c = listed-init c.args.trees.now c.args.operands.now c.nil-list.result.0 c.requires.known c.nil-list.ensures.known c.nil-list.ensures.stands

pub pair-requires-clause-first_known : goal.pair-requires-clause-first_known
pair-requires-clause-first_known c = last_known c.args.trees.now c.operands.trees c.args.operands.now c.operands.rest.now c.operands.list.0 record { 0 = 0 } c.in-len1-up.len_at_least c.operands.invariant

pub operands-preserved : goal.operands-preserved
operands-preserved c = listed_more c.args.trees.now c.operands.trees c.pair.new.self c.args.operands.now c.operands.rest.now c.operands.list.0 c.in_ok-list.list.0 record { 0 = 0 } c.in-len1-up.len_at_least c.operands.invariant c.in_ok-list.ensures.ok
