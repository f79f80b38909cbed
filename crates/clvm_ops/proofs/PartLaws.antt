-- Parts of atoms, by what is read of the operands.
use Rattle.std.proofs.Common.{◌≡◌, ℕ, ◌<◌, ◌≤◌, ℤ, pos, true, List, [], ◌∷◌, length, refl, sym, ap, arith, ◌∙◌}
use Rattle.clvm_spec.specs.Tree.{Tree, Atom, bytes_of}
use Rattle.clvm_spec.specs.Numbers.{number, is_short}
use Rattle.clvm_spec.specs.Outcomes.{Applied, WrongCount, Fails, Enough}
use Rattle.clvm_spec.specs.Operators.{atom_at, number_at, part_of, part, part_or_fault}
use Rattle.clvm_tree.specs.Operators.{trees_at, IsOpFault}
use Rattle.clvm_tree.specs.declared.Node.{Node}
use Rattle.clvm_tree.specs.declared.operators.OpFault.{OpFault}
use Rattle.clvm_ops.proofs.Answered.{fault_same}
use Rattle.clvm_ops.proofs.ReadLaws.{number_read}

-- the part as it is given
abbrev part_given : ℕ → List ℕ → ℤ → ℤ → Applied
part_given cost a start end = part_or_fault cost (part a start end)

part_same : (cost : ℕ) (a : List ℕ) (atom : Tree) (s m e n : ℤ) → atom ≡ Atom a → m ≡ s → n ≡ e → part_given cost a s e ≡ part_given cost (bytes_of atom) m n
part_same cost a atom s m e n is start end =
    ap (λ t. part_given cost (bytes_of t) s e) (sym is) ∙ ap (λ k. part_given cost (bytes_of atom) k e) (sym start) ∙ ap (part_given cost (bytes_of atom) m) (sym end)

-- two operands
pub start_bad : (cost : ℕ) (trees : List Tree) (atom start : Tree) (a : List ℕ) (f : OpFault) → atom ≡ Atom a → ((go : List ℕ → Applied) → IsOpFault trees (Enough (number_at 1 start go)) f)
    → IsOpFault trees (Enough (part_of cost (atom ∷ start ∷ []))) f
start_bad cost trees atom start a f is bad =
    fault_same trees _ _ f (ap (λ t. atom_at 0 t (λ a. number_at 1 start (λ start. part_given cost a (number start) (pos (length a))))) is) (bad (λ start. part_given cost a (number start) (pos (length a))))

pub part_from_is : (cost : ℕ) (atom start : Tree) (a s : List ℕ) (m n : ℤ) → atom ≡ Atom a → start ≡ Atom s → is_short s ≡ true → m ≡ number s → n ≡ pos (length a)
    → part_of cost (atom ∷ start ∷ []) ≡ part_given cost (bytes_of atom) m n
part_from_is cost atom start a s m n is start_is short first last =
    ap (λ t. atom_at 0 t (λ a. number_at 1 start (λ start. part_given cost a (number start) (pos (length a))))) is
    ∙ number_read 1 start s (λ start. part_given cost a (number start) (pos (length a))) start_is short
    ∙ part_same cost a atom (number s) m (pos (length a)) n is first last

-- three
abbrev behind_atom : ℕ → Tree → Tree → List ℕ → Applied
behind_atom cost start end a = number_at 1 start (λ start. number_at 2 end (λ end. part_given cost a (number start) (number end)))

pub start_before_end_bad : (cost : ℕ) (trees : List Tree) (atom start end : Tree) (a : List ℕ) (f : OpFault) → atom ≡ Atom a → ((go : List ℕ → Applied) → IsOpFault trees (Enough (number_at 1 start go)) f)
    → IsOpFault trees (Enough (part_of cost (atom ∷ start ∷ end ∷ []))) f
start_before_end_bad cost trees atom start end a f is bad =
    fault_same trees _ _ f (ap (λ t. atom_at 0 t (behind_atom cost start end)) is) (bad (λ start. number_at 2 end (λ end. part_given cost a (number start) (number end))))

pub end_bad : (cost : ℕ) (trees : List Tree) (atom start end : Tree) (a s : List ℕ) (f : OpFault) → atom ≡ Atom a → start ≡ Atom s → is_short s ≡ true → ((go : List ℕ → Applied) → IsOpFault trees (Enough (number_at 2 end go)) f)
    → IsOpFault trees (Enough (part_of cost (atom ∷ start ∷ end ∷ []))) f
end_bad cost trees atom start end a s f is start_is short bad =
    fault_same trees _ _ f (ap (λ t. atom_at 0 t (behind_atom cost start end)) is ∙ number_read 1 start s (λ start. number_at 2 end (λ end. part_given cost a (number start) (number end))) start_is short)
    (bad (λ end. part_given cost a (number s) (number end)))

pub part_between_is : (cost : ℕ) (atom start end : Tree) (a s e : List ℕ) (m n : ℤ) → atom ≡ Atom a → start ≡ Atom s → is_short s ≡ true → end ≡ Atom e → is_short e ≡ true → m ≡ number s → n ≡ number e
    → part_of cost (atom ∷ start ∷ end ∷ []) ≡ part_given cost (bytes_of atom) m n
part_between_is cost atom start end a s e m n is start_is start_short end_is end_short first last =
    ap (λ t. atom_at 0 t (behind_atom cost start end)) is
    ∙ number_read 1 start s (λ start. number_at 2 end (λ end. part_given cost a (number start) (number end))) start_is start_short
    ∙ number_read 2 end e (λ end. part_given cost a (number s) (number end)) end_is end_short
    ∙ part_same cost a atom (number s) m (number e) n is first last

-- Two operands or three are wanted.
pub part_of_few : (cost : ℕ) (trees : List Tree) (nodes : List Node) → length nodes < 2 → part_of cost (trees_at trees nodes) ≡ Fails WrongCount
part_of_few cost trees [] few = refl
part_of_few cost trees (a ∷ []) few = refl
part_of_few cost trees (a ∷ b ∷ nodes) few = absurd (omega arith)

pub part_of_many : (cost : ℕ) (trees : List Tree) (nodes : List Node) → 4 ≤ length nodes → part_of cost (trees_at trees nodes) ≡ Fails WrongCount
part_of_many cost trees [] many = absurd (omega arith)
part_of_many cost trees (a ∷ []) many = absurd (omega arith)
part_of_many cost trees (a ∷ b ∷ []) many = absurd (omega arith)
part_of_many cost trees (a ∷ b ∷ c ∷ []) many = absurd (omega arith)
part_of_many cost trees (a ∷ b ∷ c ∷ d ∷ nodes) many = refl
