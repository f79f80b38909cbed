use Rattle.std.proofs.Common.{length, ap, arith}
use Rattle.clvm_tree.proofs.ArenaLaws.{length-trees_of}
use Rattle.clvm_tree.proofs.arena.Trees.look.Goals as goal

pub sight_of-requires-clause-known : goal.sight_of-requires-clause-known
sight_of-requires-clause-known c =
    omega (arith, length-trees_of c.self.inside.bytes.items c.self.inside.entries.items, ap length c.self.view_is, ap length c.deref.ensures.value)
