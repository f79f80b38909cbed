-- How operands are read, from the first to the last.
use Rattle.std.proofs.Common.{◌≡◌, ℕ, zero, suc, ◌+◌, ◌*◌, ◌^◌, ◌<◌, ◌≤◌, true, List, [], ◌∷◌, length, get_or, take, map, refl, sym, ap, ap₂, ◌∙◌, arith}
use Rattle.std.specs.List.{All}
use Rattle.std.proofs.lemmas.Bool.{cond-true, leb-true}
use Rattle.std.proofs.lemmas.List.{take_all, get_or-map, length-map}
use Rattle.std.proofs.lemmas.List.Elements.{All-more, All-map, All-weaker}
use Rattle.std.proofs.lemmas.List.Sums.{sum_by_more}
use Rattle.clvm_spec.specs.declared.limits.TheConstants.{NUMBER_BYTES}
use Rattle.clvm_spec.specs.Tree.{Tree, Atom, nil, bytes_of}
use Rattle.clvm_spec.specs.Outcomes.{Applied, TooWide, Enough}
use Rattle.clvm_spec.specs.Operators.{Reader, atom_at, number_at, two_read, each_read, atoms, numbers, lengths}
use Rattle.clvm_tree.specs.Nodes.{tree_at}
use Rattle.clvm_tree.specs.Operators.{trees_at, IsOpFault}
use Rattle.clvm_tree.specs.declared.Node.{Node}
use Rattle.clvm_tree.specs.declared.operators.OpFault.{OpFault}
use Rattle.clvm_spec.specs.Numbers.{is_short}
use Rattle.clvm_ops.specs.OperandAtoms.{atoms_at, HaveAtoms, HaveNumbers}
use Rattle.clvm_ops.proofs.Answered.{fault_same}

pub number_read : (place : ℕ) (tree : Tree) (bytes : List ℕ) (go : List ℕ → Applied) → tree ≡ Atom bytes → is_short bytes ≡ true → number_at place tree go ≡ go bytes
number_read place tree bytes go e short = ap (λ t. number_at place t go) e ∙ cond-true _ (go bytes) TooWide short

pub first_bad : (read : Reader) (trees operands : List Tree) (a b : Tree) (f : OpFault) → operands ≡ a ∷ b ∷ [] → ((go : List ℕ → Applied) → IsOpFault trees (Enough (read 0 a go)) f)
    → (go : List ℕ → List ℕ → Applied) → IsOpFault trees (Enough (two_read read operands go)) f
first_bad read trees operands a b f list bad go = fault_same trees _ _ f (ap (λ ts. two_read read ts go) list) (bad (λ x. read 1 b (λ y. go x y)))

pub second_bad : (read : Reader) (trees operands : List Tree) (a b : Tree) (bytes : List ℕ) (f : OpFault) → operands ≡ a ∷ b ∷ [] → ((go : List ℕ → Applied) → read 0 a go ≡ go bytes)
    → ((go : List ℕ → Applied) → IsOpFault trees (Enough (read 1 b go)) f) → (go : List ℕ → List ℕ → Applied) → IsOpFault trees (Enough (two_read read operands go)) f
second_bad read trees operands a b bytes f list first bad go =
    fault_same trees _ _ f (ap (λ ts. two_read read ts go) list ∙ first (λ x. read 1 b (λ y. go x y))) (bad (λ y. go bytes y))

-- ---- any count of them

module _ (read : Reader) (P : Tree → Type 0) (reads : (place : ℕ) (tree : Tree) (go : List ℕ → Applied) → P tree → read place tree go ≡ go (bytes_of tree)) where
  all_read : (place : ℕ) (trees : List Tree) (go : List (List ℕ) → Applied) → All P trees → each_read read place trees go ≡ go (map bytes_of trees)
  all_read place [] go all = refl
  all_read place (tree ∷ trees) go all =
      reads place tree (λ bytes. each_read read (suc place) trees (λ more. go (bytes ∷ more))) (all 0 nil (omega arith))
      ∙ all_read (suc place) trees (λ more. go (bytes_of tree ∷ more)) (λ k d h. all (suc k) d (omega arith))

  -- where the operands before it are read
  one_bad : (known trees : List Tree) (place i at : ℕ) (f : OpFault) → at ≡ place + i → i < length trees → All P (take i trees)
      → ((go : List ℕ → Applied) → IsOpFault known (Enough (read at (get_or trees i nil) go)) f) → (go : List (List ℕ) → Applied) → IsOpFault known (Enough (each_read read place trees go)) f
  one_bad known [] place i at f e h all bad go = absurd (omega arith)
  one_bad known (tree ∷ trees) place zero at f e h all bad go =
      let same : place ≡ at = omega arith in
      fault_same known _ _ f (ap (λ p. read p tree (λ bytes. each_read read (suc place) trees (λ more. go (bytes ∷ more)))) same) (bad (λ bytes. each_read read (suc place) trees (λ more. go (bytes ∷ more))))
  one_bad known (tree ∷ trees) place (suc i) at f e h all bad go =
      fault_same known _ _ f (reads place tree (λ bytes. each_read read (suc place) trees (λ more. go (bytes ∷ more))) (all 0 nil (omega arith)))
      (one_bad known trees (suc place) i at f (omega arith) (omega arith) (λ k d h. all (suc k) d (omega arith)) bad (λ more. go (bytes_of tree ∷ more)))

-- ---- atoms

abbrev pub IsAtomOf : Tree → Type 0
IsAtomOf tree = tree ≡ Atom (bytes_of tree)

atom_read : (place : ℕ) (tree : Tree) (go : List ℕ → Applied) → IsAtomOf tree → atom_at place tree go ≡ go (bytes_of tree)
atom_read place tree go is = ap (λ t. atom_at place t go) is

-- the operands before this place are atoms, of so many bytes
pub record AtomsBefore (trees : List Tree) (operands : List Node) (place size : ℕ) : Type 0 where
  pub all : All IsAtomOf (take place (trees_at trees operands))
  pub size_is : size ≡ lengths (take place (atoms_at trees operands))
  pub few : size ≤ place * 2 ^ 63

tree_read : (trees : List Tree) (operands : List Node) (place : ℕ) (d : Node) → place < length operands → get_or (trees_at trees operands) place nil ≡ tree_at trees (get_or operands place d).0
tree_read trees operands place d h = get_or-map (λ (node : Node). tree_at trees node.0) operands place d nil h

bytes_read : (trees : List Tree) (operands : List Node) (place : ℕ) (d : Node) (bytes : List ℕ) → place < length operands → tree_at trees (get_or operands place d).0 ≡ Atom bytes
    → get_or (atoms_at trees operands) place [] ≡ bytes
bytes_read trees operands place d bytes h is =
    get_or-map bytes_of (trees_at trees operands) place nil [] (omega (arith, length-map operands (λ (node : Node). tree_at trees node.0)))
    ∙ ap bytes_of (tree_read trees operands place d h ∙ is)

atom_of : (tree : Tree) (bytes : List ℕ) → tree ≡ Atom bytes → IsAtomOf tree
atom_of tree bytes is = is ∙ ap (λ t. Atom (bytes_of t)) (sym is)

pub atoms_more : (trees : List Tree) (operands : List Node) (place size : ℕ) (d : Node) (bytes : List ℕ) → place < length operands → tree_at trees (get_or operands place d).0 ≡ Atom bytes → length bytes < 2 ^ 63
    → AtomsBefore trees operands place size → AtomsBefore trees operands (place + 1) (size + length bytes)
atoms_more trees operands place size d bytes h is short before =
    let count = length-map operands (λ (node : Node). tree_at trees node.0) in
    let count_bytes = length-map (trees_at trees operands) bytes_of in
    record {
      all = All-more IsAtomOf (trees_at trees operands) place nil (omega arith) before.all (atom_of _ bytes (tree_read trees operands place d h ∙ is));
      size_is = ap₂ ◌+◌ before.size_is (ap length (sym (bytes_read trees operands place d bytes h is))) ∙ sym (sum_by_more length (atoms_at trees operands) place [] (omega arith));
      few = omega (arith, before.few);
    }

pub atoms_bad : (trees : List Tree) (operands : List Node) (place size : ℕ) (d : Node) (f : OpFault) → place < length operands → AtomsBefore trees operands place size
    → ((go : List ℕ → Applied) → IsOpFault trees (Enough (atom_at place (tree_at trees (get_or operands place d).0) go)) f) → (go : List (List ℕ) → Applied) → IsOpFault trees (Enough (atoms (trees_at trees operands) go)) f
atoms_bad trees operands place size d f h before bad go =
    let count = length-map operands (λ (node : Node). tree_at trees node.0) in
    one_bad atom_at IsAtomOf atom_read trees (trees_at trees operands) 0 place place f (omega arith) (omega arith) before.all (λ go. fault_same trees _ _ f (ap (λ t. atom_at place t go) (tree_read trees operands place d h)) (bad go)) go

pub atoms_whole : (trees : List Tree) (operands : List Node) (place size : ℕ) → place ≡ length operands → AtomsBefore trees operands place size → HaveAtoms trees operands size
atoms_whole trees operands place size e before =
    let count = length-map operands (λ (node : Node). tree_at trees node.0) in
    let count_bytes = length-map (trees_at trees operands) bytes_of in
    let whole = take_all place (trees_at trees operands) (omega arith) in
    record {
      read = λ go. all_read atom_at IsAtomOf atom_read 0 (trees_at trees operands) go (rw whole at before.all);
      size_is = before.size_is ∙ ap lengths (take_all place (atoms_at trees operands) (omega arith));
      few = omega (arith, before.few);
    }

-- ---- numbers

pub record IsNumberOf (tree : Tree) : Type 0 where
  pub atom : IsAtomOf tree
  pub short : is_short (bytes_of tree) ≡ true

numbers_read : (place : ℕ) (tree : Tree) (go : List ℕ → Applied) → IsNumberOf tree → number_at place tree go ≡ go (bytes_of tree)
numbers_read place tree go is = number_read place tree (bytes_of tree) go is.atom is.short

-- the operands before this place are numbers, of so many bytes
pub record NumbersBefore (trees : List Tree) (operands : List Node) (place size : ℕ) : Type 0 where
  pub all : All IsNumberOf (take place (trees_at trees operands))
  pub size_is : size ≡ lengths (take place (atoms_at trees operands))
  pub few : size ≤ place * NUMBER_BYTES

number_of : (tree : Tree) (bytes : List ℕ) → tree ≡ Atom bytes → is_short bytes ≡ true → IsNumberOf tree
number_of tree bytes is short = record { atom = atom_of tree bytes is; short = ap (λ t. is_short (bytes_of t)) is ∙ short }

pub numbers_more : (trees : List Tree) (operands : List Node) (place size : ℕ) (d : Node) (bytes : List ℕ) → place < length operands → tree_at trees (get_or operands place d).0 ≡ Atom bytes → is_short bytes ≡ true
    → NumbersBefore trees operands place size → NumbersBefore trees operands (place + 1) (size + length bytes)
numbers_more trees operands place size d bytes h is short before =
    let count = length-map operands (λ (node : Node). tree_at trees node.0) in
    let count_bytes = length-map (trees_at trees operands) bytes_of in
    record {
      all = All-more IsNumberOf (trees_at trees operands) place nil (omega arith) before.all (number_of _ bytes (tree_read trees operands place d h ∙ is) short);
      size_is = ap₂ ◌+◌ before.size_is (ap length (sym (bytes_read trees operands place d bytes h is))) ∙ sym (sum_by_more length (atoms_at trees operands) place [] (omega arith));
      few = omega (arith, before.few, leb-true (length bytes) NUMBER_BYTES short);
    }

pub numbers_bad : (trees : List Tree) (operands : List Node) (place size : ℕ) (d : Node) (f : OpFault) → place < length operands → NumbersBefore trees operands place size
    → ((go : List ℕ → Applied) → IsOpFault trees (Enough (number_at place (tree_at trees (get_or operands place d).0) go)) f) → (go : List (List ℕ) → Applied) → IsOpFault trees (Enough (numbers (trees_at trees operands) go)) f
numbers_bad trees operands place size d f h before bad go =
    let count = length-map operands (λ (node : Node). tree_at trees node.0) in
    one_bad number_at IsNumberOf numbers_read trees (trees_at trees operands) 0 place place f (omega arith) (omega arith) before.all (λ go. fault_same trees _ _ f (ap (λ t. number_at place t go) (tree_read trees operands place d h)) (bad go)) go

pub numbers_whole : (trees : List Tree) (operands : List Node) (place size : ℕ) → place ≡ length operands → NumbersBefore trees operands place size → HaveNumbers trees operands size
numbers_whole trees operands place size e before =
    let count = length-map operands (λ (node : Node). tree_at trees node.0) in
    let count_bytes = length-map (trees_at trees operands) bytes_of in
    let all = rw (take_all place (trees_at trees operands) (omega arith)) at before.all in
    record {
      read = λ go. all_read number_at IsNumberOf numbers_read 0 (trees_at trees operands) go all;
      short = All-map (λ bytes. is_short bytes ≡ true) bytes_of (trees_at trees operands) (All-weaker IsNumberOf (λ tree. is_short (bytes_of tree) ≡ true) (λ tree is. is.short) (trees_at trees operands) all);
      size_is = before.size_is ∙ ap lengths (take_all place (atoms_at trees operands) (omega arith));
      few = omega (arith, before.few);
    }
