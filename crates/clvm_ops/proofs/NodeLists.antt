-- The trees of the operands.
use Rattle.std.proofs.Common.{◌≡◌, ℕ, zero, suc, ◌-◌, ◌<◌, ◌≤◌, List, [], ◌∷◌, ◌++◌, length, get_or, take, refl, sym, ap, ◌∙◌, arith}
use Rattle.std.proofs.Math.Seq.{take-suc, take-length}
use Rattle.std.proofs.lemmas.List.{map-append, length-map}
use Rattle.clvm_spec.specs.Tree.{Tree, bytes_of}
use Rattle.clvm_tree.specs.Nodes.{tree_at, IsKnown, AreKnown}
use Rattle.clvm_tree.specs.Operators.{trees_at}
use Rattle.clvm_tree.specs.declared.Node.{Node}
use Rattle.clvm_ops.specs.OperandAtoms.{atoms_at}

pub length-trees_at : (trees : List Tree) (nodes : List Node) → length (trees_at trees nodes) ≡ length nodes
length-trees_at trees nodes = length-map nodes (λ (node : Node). tree_at trees node.0)

pub count_atoms : (trees : List Tree) (nodes : List Node) → length (atoms_at trees nodes) ≡ length nodes
count_atoms trees nodes = length-map (trees_at trees nodes) bytes_of ∙ length-trees_at trees nodes

pub known_at : (trees : List Tree) (nodes : List Node) (k : ℕ) (d : Node) → AreKnown trees nodes → k < length nodes → IsKnown trees (get_or nodes k d).0
known_at trees [] k d known h = absurd (omega arith)
known_at trees (node ∷ nodes) zero d known h = known.0
known_at trees (node ∷ nodes) (suc k) d known h = known_at trees nodes k d known.1 (omega arith)

pub known_front : (trees : List Tree) (nodes : List Node) (k : ℕ) → AreKnown trees nodes → AreKnown trees (take k nodes)
known_front trees [] zero known = tt
known_front trees [] (suc k) known = tt
known_front trees (node ∷ nodes) zero known = tt
known_front trees (node ∷ nodes) (suc k) known = (known.0, known_front trees nodes k known.1)

-- all but the last, and the last
split_last : (nodes : List Node) (d : Node) → 1 ≤ length nodes → nodes ≡ take (length nodes - 1) nodes ++ get_or nodes (length nodes - 1) d ∷ []
split_last nodes d some =
    let e : suc (length nodes - 1) ≡ length nodes = omega arith in
    sym (take-length nodes) ∙ ap (λ n. take n nodes) (sym e) ∙ take-suc nodes (length nodes - 1) d (omega arith)

pub trees_split_last : (trees : List Tree) (nodes : List Node) (d : Node) → 1 ≤ length nodes → trees_at trees nodes ≡ trees_at trees (take (length nodes - 1) nodes) ++ tree_at trees (get_or nodes (length nodes - 1) d).0 ∷ []
trees_split_last trees nodes d some =
    ap (trees_at trees) (split_last nodes d some) ∙ map-append (λ (node : Node). tree_at trees node.0) (take (length nodes - 1) nodes) (get_or nodes (length nodes - 1) d ∷ [])
