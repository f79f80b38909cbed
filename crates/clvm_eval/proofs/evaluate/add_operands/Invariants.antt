use Rattle.clvm_tree.specs.Nodes.{IsKnown}
use Rattle.clvm_eval.proofs.FormLaws.{AddsSome}
use Rattle.clvm_eval.proofs.evaluate.add_operands.Given as goal

abbrev pub invariant-elements : goal.invariant-elements
invariant-elements l = record {
  known : IsKnown l.trees l.rest.0;
  some : AddsSome l.trees l.fn.list.0 l.rest.0 l.fn.operands.items l.operands.items l.count;
}

abbrev pub decreases-elements : goal.decreases-elements
decreases-elements l = l.rest.0
