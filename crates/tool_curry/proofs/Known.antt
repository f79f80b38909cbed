-- Nodes of a `Trees` that grows.
use Rattle.std.proofs.Common.{◌≡◌, List, [], ◌∷◌, refl, ap₂, arith}
use Rattle.clvm_spec.specs.Tree.{Tree}
use Rattle.clvm_tree.specs.Nodes.{AreKnown, Grows}
use Rattle.clvm_tree.specs.Operators.{trees_at}
use Rattle.clvm_tree.specs.declared.Node.{Node}
use Rattle.clvm_tree.proofs.NodeLaws.{grows_length, stays}

pub known-later : (old new : List Tree) (nodes : List Node) → Grows old new → AreKnown old nodes → AreKnown new nodes
known-later old new [] grows known = tt
known-later old new (node ∷ nodes) grows known =
    let longer = grows_length old new grows in
    let first = known.0 in
    (omega (arith, longer, first), known-later old new nodes grows known.1)

pub trees-stand : (old new : List Tree) (nodes : List Node) → Grows old new → AreKnown old nodes → trees_at new nodes ≡ trees_at old nodes
trees-stand old new [] grows known = refl
trees-stand old new (node ∷ nodes) grows known = ap₂ (λ tree trees. tree ∷ trees) (stays old new node.0 grows known.0) (trees-stand old new nodes grows known.1)
