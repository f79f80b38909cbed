use Rattle.std.proofs.Common.{arith}
use Rattle.clvm_tree.proofs.ArenaLaws.{enough_trees, byte_stands}
use Rattle.clvm_tree.proofs.arena.Trees.byte.Goals as goal

pub returns-clause-known : goal.returns-clause-known
returns-clause-known c =
    let enough = enough_trees c.self.inside.bytes.items c.self.inside.entries.items c.args.self.now c.self.view_is in
    omega (arith, enough)

pub returns-clause-stands : goal.returns-clause-stands
returns-clause-stands c =
    byte_stands c.self.inside.bytes.items c.self.inside.entries.items c.args.self.now c.args.byte c.self.view_is (omega arith)
