use Rattle.std.proofs.Common.{◌≡◌, ℕ, List, sym, ◌∙◌}
use Rattle.clvm_spec.specs.Tree.{Tree, Atom, Pair}
use Rattle.clvm_tree.proofs.hasher.atom_at.Goals as goal

same_atom : (tree : Tree) (bytes atom : List ℕ) → tree ≡ Atom bytes → tree ≡ Atom atom → bytes ≡ atom
same_atom tree bytes atom p q = let e : Atom bytes ≡ Atom atom = sym p ∙ q in cc

no_pair : (tree first rest : Tree) (atom bytes : List ℕ) → tree ≡ Pair first rest → tree ≡ Atom atom → bytes ≡ atom
no_pair tree first rest atom bytes p q = let e : Pair first rest ≡ Atom atom = sym p ∙ q in absurd cc

pub returns-in-Bytes : goal.returns-in-Bytes
returns-in-Bytes c = λ atom is. same_atom _ _ atom c.in-Bytes.ensures is

pub returns-in-Parts : goal.returns-in-Parts
returns-in-Parts c = λ atom is. no_pair _ _ _ atom _ c.in-Parts.ensures.pair is
