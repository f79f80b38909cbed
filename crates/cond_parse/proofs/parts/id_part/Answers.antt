use Rattle.std.proofs.Common.{◌≡◌, true, Some}
use Rattle.clvm_tree.specs.Nodes.{tree_at}
use Rattle.coin_facts.specs.Atoms.{hash_of}
use Rattle.cond_spec.specs.Parties.{is_by_id}
use Rattle.cond_parse.proofs.ReadingLaws.{no_step, lacks_part}
use Rattle.cond_parse.proofs.parts.id_part.Goals as goal

pub returns-in_err-id-clause-takes : goal.returns-in_err-id-clause-takes
returns-in_err-id-clause-takes c = no_step _ c.in_err-id.field-0.0 _ (tree_at c.args.trees.now c.hash.new.operands.0) c.from_residual.ensures.1 (λ next.
    let named : is_by_id c.args.side ≡ true = cc in
    lacks_part _ hash_of (tree_at c.args.trees.now c.args.operands.now.0) _ next named (c.in_err-id.ensures.takes (λ value rest. next (Some value) rest)))
