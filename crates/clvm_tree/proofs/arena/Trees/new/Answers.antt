use Rattle.std.proofs.Common.{length, ap, arith}
use Rattle.clvm_tree.proofs.ArenaLaws.{length-trees_of}
use Rattle.clvm_tree.proofs.arena.Trees.new.Goals as goal

pub returns-clause-count : goal.returns-clause-count
returns-clause-count c = omega (arith, length-trees_of c.new-2.result.items c.new.result.items, ap length c.new.ensures.items)
