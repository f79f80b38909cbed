use Rattle.std.proofs.Common.{ap, arith}
use Rattle.clvm_spec.specs.Reading.{if_tree}
use Rattle.clvm_tree.specs.Nodes.{tree_at}
use Rattle.clvm_tree.proofs.WholeLaws.{whole_tree}
use Rattle.clvm_tree.proofs.arena.Trees.read_whole.Goals as goal

pub returns-clause-found : goal.returns-clause-found
returns-clause-found c =
    ap if_tree (whole_tree c.args.bytes.now (tree_at c.read.new.self c.in_ok-tree.tree.0) c.in_ok-tree.count c.in_ok-tree.ensures.found.read (omega (arith, c.if-count-bytes.false)))
