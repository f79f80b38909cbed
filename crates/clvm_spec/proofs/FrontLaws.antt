-- Reading a tree from the front, one head after another.
use Rattle.std.proofs.Common.{◌≡◌, ℕ, zero, suc, ◌<◌, ◌≤◌, List, length, refl, ◌∙◌, ap, subst, arith}
use Rattle.clvm_spec.specs.Tree.{Tree, Atom}
use Rattle.clvm_spec.specs.Reading.{Flaw, PairMark, Leaf, Beginning, Begins, Flawed, Read, Found, Faulty, with_first, with_both, from_head, head_at, tree_within, tree_at_front}
use Rattle.clvm_spec.proofs.HeadLaws.{head_shrinks}

-- Fewer bytes are left where a tree is found.
abbrev Shrinks : ℕ → Read → Type 0
Shrinks n (Found tree rest) = length rest < n
Shrinks n (Faulty flaw rest) = Unit {0}

shrinks_first : (n : ℕ) (first : Tree) (read : Read) → Shrinks n read → Shrinks n (with_first first read)
shrinks_first n first (Found tree rest) h = h
shrinks_first n first (Faulty flaw rest) h = tt

shrinks_less : (m n : ℕ) (read : Read) → m ≤ n → Shrinks m read → Shrinks n read
shrinks_less m n (Found tree rest) le h = omega (arith, h)
shrinks_less m n (Faulty flaw rest) le h = tt

shrinks_both : (n : ℕ) (reader : List ℕ → Read) (read : Read) → ((bytes : List ℕ) → Shrinks (length bytes) (reader bytes)) → Shrinks n read → Shrinks n (with_both reader read)
shrinks_both n reader (Found tree rest) all h = shrinks_first n tree (reader rest) (shrinks_less (length rest) n (reader rest) (omega (arith, h)) (all rest))
shrinks_both n reader (Faulty flaw rest) all h = tt

shrinks_head : (reader : List ℕ → Read) (bytes : List ℕ) (front : Beginning) → ((rest : List ℕ) → Shrinks (length rest) (reader rest)) → head_at bytes ≡ front → Shrinks (length bytes) (from_head reader bytes front)
shrinks_head reader bytes (Flawed flaw) all e = tt
shrinks_head reader bytes (Begins (Leaf atom) rest) all e = head_shrinks bytes (Leaf atom) rest e
shrinks_head reader bytes (Begins PairMark rest) all e =
    let less = head_shrinks bytes PairMark rest e in
    shrinks_both (length bytes) reader (reader rest) all (shrinks_less (length rest) (length bytes) (reader rest) (omega (arith, less)) (all rest))

shrinks_within : (depth : ℕ) (bytes : List ℕ) → Shrinks (length bytes) (tree_within depth bytes)
shrinks_within zero bytes = tt
shrinks_within (suc depth) bytes = shrinks_head (tree_within depth) bytes (head_at bytes) (shrinks_within depth) refl

-- readers that agree on shorter bytes agree behind a mark
same_first : (a b : List ℕ → Read) (n : ℕ) (read : Read) → ((rest : List ℕ) → length rest < n → a rest ≡ b rest) → Shrinks n read → with_both a read ≡ with_both b read
same_first a b n (Found tree rest) same h = ap (with_first tree) (same rest h)
same_first a b n (Faulty flaw rest) same h = refl

same_head : (a b : List ℕ → Read) (bytes : List ℕ) (front : Beginning) → ((rest : List ℕ) → Shrinks (length rest) (b rest)) → ((rest : List ℕ) → length rest < length bytes → a rest ≡ b rest) → head_at bytes ≡ front → from_head a bytes front ≡ from_head b bytes front
same_head a b bytes (Flawed flaw) all same e = refl
same_head a b bytes (Begins (Leaf atom) rest) all same e = refl
same_head a b bytes (Begins PairMark rest) all same e =
    let less = head_shrinks bytes PairMark rest e in
    ap (with_both a) (same rest less)
    ∙ same_first a b (length bytes) (b rest) same (shrinks_less (length rest) (length bytes) (b rest) (omega (arith, less)) (all rest))

same_within : (c d : ℕ) (bytes : List ℕ) → length bytes < c → length bytes < d → tree_within c bytes ≡ tree_within d bytes
same_within zero d bytes lc ld = absurd (omega arith)
same_within (suc c) zero bytes lc ld = absurd (omega arith)
same_within (suc c) (suc d) bytes lc ld =
    same_head (tree_within c) (tree_within d) bytes (head_at bytes) (shrinks_within d) (λ rest less. same_within c d rest (omega arith) (omega arith)) refl

-- What is found at the front is found so whatever bounds the depth.
front_is : (depth : ℕ) (bytes : List ℕ) → length bytes < depth → tree_within depth bytes ≡ tree_at_front bytes
unfolding tree_at_front
front_is depth bytes h = same_within depth (suc (length bytes)) bytes h (omega arith)

front_shrinks : (bytes : List ℕ) → Shrinks (length bytes) (tree_at_front bytes)
unfolding tree_at_front
front_shrinks bytes = shrinks_within (suc (length bytes)) bytes

opened : (bytes : List ℕ) → tree_at_front bytes ≡ from_head (tree_within (length bytes)) bytes (head_at bytes)
unfolding tree_at_front
opened bytes = refl

-- A tree at the front is that of its first head, or a pair of what follows the mark.
pub front_step : (bytes : List ℕ) → tree_at_front bytes ≡ from_head tree_at_front bytes (head_at bytes)
front_step bytes =
    opened bytes ∙ same_head (tree_within (length bytes)) tree_at_front bytes (head_at bytes) front_shrinks (λ rest less. front_is (length bytes) rest less) refl

-- A tree takes at least one byte.
pub front_takes : (bytes : List ℕ) (tree : Tree) (rest : List ℕ) → tree_at_front bytes ≡ Found tree rest → length rest < length bytes
front_takes bytes tree rest e = subst (Shrinks (length bytes)) e (front_shrinks bytes)

-- the three cases of a first head
pub front_flawed : (bytes : List ℕ) (flaw : Flaw) → head_at bytes ≡ Flawed flaw → tree_at_front bytes ≡ Faulty flaw bytes
front_flawed bytes flaw e = front_step bytes ∙ ap (from_head tree_at_front bytes) e

pub front_leaf : (bytes atom rest : List ℕ) → head_at bytes ≡ Begins (Leaf atom) rest → tree_at_front bytes ≡ Found (Atom atom) rest
front_leaf bytes atom rest e = front_step bytes ∙ ap (from_head tree_at_front bytes) e

pub front_open : (bytes rest : List ℕ) → head_at bytes ≡ Begins PairMark rest → tree_at_front bytes ≡ with_both tree_at_front (tree_at_front rest)
front_open bytes rest e = front_step bytes ∙ ap (from_head tree_at_front bytes) e
