-- Where all bytes spell the tree at the front, the whole is that tree.
use Rattle.std.proofs.Common.{◌≡◌, ℕ, ◌==◌, ◌≤◌, List, length, ◌∙◌, ap, arith}
use Rattle.std.proofs.lemmas.Bool.{cond-true, eq-eqb}
use Rattle.clvm_spec.specs.Tree.{Tree}
use Rattle.clvm_spec.specs.Reading.{Read, Found, Faulty, tree_at_front, HasTree, front_of, front_read, IsTree, IsLonger, whole_of, whole_read}

same_count : (t u : Tree) (m n : ℕ) → HasTree t m ≡ HasTree u n → m ≡ n
same_count t u m n e = cc

count_within : (bytes : List ℕ) (read : Read) (tree : Tree) (count : ℕ) → front_of bytes read ≡ HasTree tree count → count ≤ length bytes
count_within bytes (Found t rest) tree count e = omega (arith, same_count t tree _ count e)
count_within bytes (Faulty flaw from) tree count e = absurd cc

pub whole_tree : (bytes : List ℕ) (tree : Tree) (count : ℕ) → front_read bytes ≡ HasTree tree count → length bytes ≤ count → whole_read bytes ≡ IsTree tree
whole_tree bytes tree count e all =
    let within = count_within bytes (tree_at_front bytes) tree count e in
    ap (whole_of (length bytes)) e ∙ cond-true (count == length bytes) (IsTree tree) (IsLonger count) (eq-eqb count (length bytes) (omega arith))
