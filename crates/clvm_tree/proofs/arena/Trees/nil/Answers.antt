use Rattle.std.proofs.Common.{arith}
use Rattle.clvm_tree.proofs.ArenaLaws.{enough_trees, nil_stands}
use Rattle.clvm_tree.proofs.arena.Trees.nil.Goals as goal

pub returns-clause-known : goal.returns-clause-known
returns-clause-known c =
    let enough = enough_trees c.self.inside.bytes.items c.self.inside.entries.items c.args.self.now c.self.view_is in
    omega (arith, enough)

pub returns-clause-stands : goal.returns-clause-stands
returns-clause-stands c = nil_stands c.self.inside.bytes.items c.self.inside.entries.items c.args.self.now c.self.view_is
