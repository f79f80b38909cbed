-- The trees of one, two and three operands.
use Rattle.std.proofs.Common.{◌≡◌, ℕ, ◌<◌, ◌≤◌, List, [], ◌∷◌, length, get_or, refl, arith}
use Rattle.clvm_spec.specs.Tree.{Tree}
use Rattle.clvm_tree.specs.Nodes.{tree_at}
use Rattle.clvm_tree.specs.Operators.{trees_at}
use Rattle.clvm_tree.specs.declared.Node.{Node}

pub one_operand : (trees : List Tree) (nodes : List Node) (d : Node) → 1 ≤ length nodes → length nodes < 2 → trees_at trees nodes ≡ tree_at trees (get_or nodes 0 d).0 ∷ []
one_operand trees [] d low high = absurd (omega arith)
one_operand trees (a ∷ []) d low high = refl
one_operand trees (a ∷ b ∷ nodes) d low high = absurd (omega arith)

pub two_operands : (trees : List Tree) (nodes : List Node) (d : Node) → 2 ≤ length nodes → length nodes < 3 → trees_at trees nodes ≡ tree_at trees (get_or nodes 0 d).0 ∷ tree_at trees (get_or nodes 1 d).0 ∷ []
two_operands trees [] d low high = absurd (omega arith)
two_operands trees (a ∷ []) d low high = absurd (omega arith)
two_operands trees (a ∷ b ∷ []) d low high = refl
two_operands trees (a ∷ b ∷ e ∷ nodes) d low high = absurd (omega arith)

pub three_operands : (trees : List Tree) (nodes : List Node) (d : Node) → 3 ≤ length nodes → length nodes < 4 → trees_at trees nodes ≡ tree_at trees (get_or nodes 0 d).0 ∷ tree_at trees (get_or nodes 1 d).0 ∷ tree_at trees (get_or nodes 2 d).0 ∷ []
three_operands trees [] d low high = absurd (omega arith)
three_operands trees (a ∷ []) d low high = absurd (omega arith)
three_operands trees (a ∷ b ∷ []) d low high = absurd (omega arith)
three_operands trees (a ∷ b ∷ e ∷ []) d low high = refl
three_operands trees (a ∷ b ∷ e ∷ f ∷ nodes) d low high = absurd (omega arith)
