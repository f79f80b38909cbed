use Rattle.std.proofs.Common.{ap, ◌∙◌}
use Rattle.std.proofs.lemmas.Bool.{eqb-true, eq-eqb}
use Rattle.clvm_tree.specs.Nodes.{tree_at}
use Rattle.clvm_tree.proofs.ArenaLaws.{nil_only, nil_stands}
use Rattle.clvm_tree.proofs.arena.Trees.is_nil.Goals as goal

pub returns : goal.returns
returns c =
    let es = c.self.inside.entries.items in
    let bytes = c.self.inside.bytes.items in (
      λ test. ap (tree_at c.args.self.now) (eqb-true c.args.node.0 0 test) ∙ nil_stands bytes es c.args.self.now c.self.view_is,
      λ stands. eq-eqb c.args.node.0 0 (nil_only es bytes c.args.self.now c.args.node.0 c.self.invariant c.self.view_is c.requires stands),
    )
