-- The trees that stand before all others.
use Rattle.std.proofs.Common.{◌≡◌, ℕ, suc, ◌+◌, ◌<◌, List, [], ◌∷◌, map, length, refl, ◌∙◌, ap, arith}
use Rattle.std.specs.List.{range_with_len}
use Rattle.std.proofs.Math.Numerals.{add-one}
use Rattle.std.proofs.lemmas.List.FromFn.{length-map-range_with_len, get_or-map-range_with_len}
use Rattle.clvm_spec.specs.Tree.{Tree, Atom, nil}
use Rattle.clvm_tree.specs.Nodes.{first_trees, tree_at}
use Rattle.clvm_tree.specs.declared.arena.TheConstants.{FIRST_COUNT}

pub length-first_trees : length first_trees ≡ FIRST_COUNT
unfolding first_trees
length-first_trees = ap suc (length-map-range_with_len (λ byte. Atom (byte ∷ [])) 0 256)

pub nil_first : tree_at first_trees 0 ≡ nil
unfolding first_trees
nil_first = refl

behind : (tree : Tree) (trees : List Tree) (node : ℕ) → tree_at (tree ∷ trees) (node + 1) ≡ tree_at trees node
behind tree trees node = ap (tree_at (tree ∷ trees)) (add-one node)

pub byte_first : (byte : ℕ) → byte < 256 → tree_at first_trees (byte + 1) ≡ Atom (byte ∷ [])
unfolding first_trees
byte_first byte low =
    behind nil (map (λ b. Atom (b ∷ [])) (range_with_len 0 256)) byte
    ∙ get_or-map-range_with_len (λ b. Atom (b ∷ [])) 0 256 byte byte nil low (omega arith)
