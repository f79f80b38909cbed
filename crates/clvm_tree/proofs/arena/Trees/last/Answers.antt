use Rattle.std.proofs.Common.{length, ap, arith}
use Rattle.clvm_tree.proofs.ArenaLaws.{length-trees_of}
use Rattle.clvm_tree.proofs.arena.Trees.last.Goals as goal

pub returns : goal.returns
returns c =
    let long = length-trees_of c.self.inside.bytes.items c.self.inside.entries.items in
    omega (arith, long, ap length c.self.view_is, c.self.inside.entries.ok.0)
