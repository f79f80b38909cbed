use Rattle.std.proofs.Common.{◌≡◌, sym, ap, ◌∙◌, arith}
use Rattle.clvm_tree.specs.Nodes.{single_byte, tree_at}
use Rattle.clvm_tree.proofs.ArenaLaws.{low_single, high_single, nil_stands}
use Rattle.clvm_tree.proofs.arena.Trees.byte_of.Goals as goal

pub returns-in-1-to-256 : goal.returns-in-1-to-256
returns-in-1-to-256 c = sym (low_single c.self.inside.entries.items c.self.inside.bytes.items c.args.self.now c.args.node.0 c.self.view_is (omega arith) (omega arith))

pub returns-in_default : goal.returns-in_default
returns-in_default c =
    let zero_node : c.args.node.0 ≡ 0 = omega arith in
    sym (ap (λ n. single_byte (tree_at c.args.self.now n)) zero_node ∙ ap single_byte (nil_stands c.self.inside.bytes.items c.self.inside.entries.items c.args.self.now c.self.view_is))

pub returns-in_default-2 : goal.returns-in_default-2
returns-in_default-2 c = sym (high_single c.self.inside.entries.items c.self.inside.bytes.items c.args.self.now c.args.node.0 c.self.invariant c.self.view_is (omega arith) c.requires)
