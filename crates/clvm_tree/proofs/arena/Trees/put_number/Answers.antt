use Rattle.std.proofs.Common.{◌∙◌, ap, subst}
use Rattle.std.specs.Prelude.{IfOk, length}
use Rattle.std.specs.Int.{w128, to_be_bytes, cast_unsigned}
use Rattle.std.proofs.lemmas.Int.{to_z-of_z}
use Rattle.clvm_spec.specs.Tree.{Atom}
use Rattle.clvm_spec.specs.Numbers.{shortest_atom}
use Rattle.clvm_spec.proofs.LengthLaws.{shortest_end}
use Rattle.clvm_tree.specs.Nodes.{Adds}
use Rattle.clvm_tree.proofs.arena.Trees.put_number.Goals as goal

pub returns-clause-ok : goal.returns-clause-ok
returns-clause-ok c =
    let passed = to_z-of_z w128 c.args.number c.ranges.number in
    let shortest = shortest_end c.args.number c.number_length.result c.to_be_bytes-bytes.result
    (c.number_length.ensures.length ∙ ap (λ z. length (shortest_atom z)) passed) (c.to_be_bytes-bytes.ensures ∙ ap (λ z. to_be_bytes w128 (cast_unsigned w128 z)) passed) in
    subst (λ bytes. IfOk c.atom.result (λ node. Adds c.args.self.now c.atom.new.self node.0 (Atom bytes))) shortest c.atom.ensures.ok
