-- Operators on the bytes of atoms, by what is read of their operands.
use Rattle.std.proofs.Common.{Ordering, Less, Equal, Greater, ◌≡◌, ℕ, ◌+◌, ◌*◌, ◌<◌, Bool, Some, List, [], ◌∷◌, ◌++◌, length, get_or, take, map, refl, sym, ap, ap₂, ◌∙◌, arith}
use Rattle.std.specs.Prelude.{bytes_eq}
use Rattle.std.specs.List.{concat}
use Rattle.std.specs.Ordering.{nat_cmp, is_gt, is_some_and, ordering_then, partial_ordering_then}
use Rattle.std.specs.Cmp.Lexicographic.{slice_cmp, slice_partial_cmp}
use Rattle.std.proofs.lemmas.List.{append-nil, length-append, map_more, map_push}
use Rattle.std.proofs.lemmas.List.Folds.{concat-append}
use Rattle.std.proofs.lemmas.List.Sums.{sum_by-cons}
use Rattle.sha2.specs.Sha256.{sha256}
use Rattle.sha2.proofs.Facts256.{length-sha256}
use Rattle.clvm_spec.specs.declared.costs.TheConstants.{RESULT_BYTE_COST, COMPARED_BYTE_COST, HASHED_ATOM_COST, HASHED_BYTE_COST, JOINED_ATOM_COST, JOINED_BYTE_COST, ATOM_OVERHEAD}
use Rattle.clvm_spec.specs.Tree.{Tree, Atom, bytes_of}
use Rattle.clvm_spec.specs.Outcomes.{Applied, Gives}
use Rattle.clvm_spec.specs.Operators.{two_atoms, equal_flag, bytes_greater_flag, length_of, hash_of, concat_of, lengths, new_atom, new_length, written, free, flag}
use Rattle.clvm_tree.specs.Nodes.{tree_at}
use Rattle.clvm_tree.specs.Operators.{trees_at}
use Rattle.clvm_tree.specs.declared.Node.{Node}
use Rattle.clvm_ops.specs.OperandAtoms.{atoms_at, HaveAtoms}
use Rattle.clvm_ops.proofs.NodeLists.{count_atoms}

pub equal_flag_is : (cost : ℕ) (operands : List Tree) (x y : List ℕ) (same : Bool) → ((go : List ℕ → List ℕ → Applied) → two_atoms operands go ≡ go x y) → same ≡ bytes_eq x y
    → equal_flag cost operands ≡ free (flag same) (cost + COMPARED_BYTE_COST * (length x + length y))
equal_flag_is cost operands x y same read e =
    read (λ a b. free (flag (bytes_eq a b)) (cost + COMPARED_BYTE_COST * (length a + length b))) ∙ ap (λ s. free (flag s) (cost + COMPARED_BYTE_COST * (length x + length y))) (sym e)

then_some : (o p : Ordering) → partial_ordering_then (Some o) (Some p) ≡ Some (ordering_then o p)
then_some Less p = refl
then_some Equal p = refl
then_some Greater p = refl

compared : (xs ys : List ℕ) → slice_partial_cmp (λ x y. Some (nat_cmp x y)) xs ys ≡ Some (slice_cmp nat_cmp xs ys)
compared [] [] = refl
compared [] (y ∷ ys) = refl
compared (x ∷ xs) [] = refl
compared (x ∷ xs) (y ∷ ys) = ap (partial_ordering_then (Some (nat_cmp x y))) (compared xs ys) ∙ then_some (nat_cmp x y) (slice_cmp nat_cmp xs ys)

pub bytes_greater_flag_is : (cost : ℕ) (operands : List Tree) (x y : List ℕ) (greater : Bool) → ((go : List ℕ → List ℕ → Applied) → two_atoms operands go ≡ go x y)
    → greater ≡ is_some_and is_gt (slice_partial_cmp (λ x y. Some (nat_cmp x y)) x y) → bytes_greater_flag cost operands ≡ free (flag greater) (cost + COMPARED_BYTE_COST * (length x + length y))
bytes_greater_flag_is cost operands x y greater read e =
    read (λ a b. free (flag (is_gt (slice_cmp nat_cmp a b))) (cost + COMPARED_BYTE_COST * (length a + length b)))
    ∙ ap (λ s. free (flag s) (cost + COMPARED_BYTE_COST * (length x + length y))) (sym (e ∙ ap (is_some_and is_gt) (compared x y)))

pub length_of_is : (cost : ℕ) (operands : List Tree) (a : Tree) (bytes : List ℕ) → operands ≡ a ∷ [] → a ≡ Atom bytes → length_of cost operands ≡ new_length cost (length bytes)
length_of_is cost operands a bytes list is = ap (length_of cost) (list ∙ ap (λ t. t ∷ []) is)

pub atoms_push : (trees : List Tree) (nodes : List Node) (i : ℕ) (d : Node) → i < length nodes
    → concat (atoms_at trees (take (i + 1) nodes)) ≡ concat (atoms_at trees (take i nodes)) ++ bytes_of (tree_at trees (get_or nodes i d).0)
atoms_push trees nodes i d h =
    let tree_of : Node → Tree = λ node. tree_at trees node.0 in
    let next = tree_of (get_or nodes i d) in
    ap concat (ap (map bytes_of) (map_more tree_of nodes i d h) ∙ map_push bytes_of (map tree_of (take i nodes)) next)
    ∙ concat-append (atoms_at trees (take i nodes)) (bytes_of next ∷ [])
    ∙ ap (λ b. concat (atoms_at trees (take i nodes)) ++ b) (append-nil (bytes_of next))

length-concat : (atoms : List (List ℕ)) → length (concat atoms) ≡ lengths atoms
length-concat [] = refl
length-concat (a ∷ atoms) = length-append a (concat atoms) ∙ ap (λ n. length a + n) (length-concat atoms) ∙ sym (sum_by-cons length a atoms)

pub hash_of_is : (cost : ℕ) (trees : List Tree) (operands : List Node) (size : ℕ) → HaveAtoms trees operands size
    → hash_of cost (trees_at trees operands) ≡ Gives (Atom (sha256 (concat (atoms_at trees operands)))) (cost + HASHED_ATOM_COST * length operands + HASHED_BYTE_COST * size) 0 (32 + ATOM_OVERHEAD)
hash_of_is cost trees operands size have =
    let hash = sha256 (concat (atoms_at trees operands)) in
    let costs : cost + HASHED_ATOM_COST * length (atoms_at trees operands) + HASHED_BYTE_COST * lengths (atoms_at trees operands) ≡ cost + HASHED_ATOM_COST * length operands + HASHED_BYTE_COST * size =
    omega (arith, have.size_is, count_atoms trees operands) in
    let bytes : length hash + ATOM_OVERHEAD ≡ 32 + ATOM_OVERHEAD = ap (λ n. n + ATOM_OVERHEAD) (length-sha256 (concat (atoms_at trees operands))) in
    have.read (λ atoms. new_atom (cost + HASHED_ATOM_COST * length atoms + HASHED_BYTE_COST * lengths atoms) (sha256 (concat atoms))) ∙ ap₂ (λ c b. Gives (Atom hash) c 0 b) costs bytes

pub concat_of_is : (cost : ℕ) (trees : List Tree) (operands : List Node) (size : ℕ) → HaveAtoms trees operands size
    → concat_of cost (trees_at trees operands) ≡ Gives (Atom (concat (atoms_at trees operands))) (cost + JOINED_ATOM_COST * length operands + (JOINED_BYTE_COST + RESULT_BYTE_COST) * size) 0 (size + ATOM_OVERHEAD)
concat_of_is cost trees operands size have =
    let all = atoms_at trees operands in
    let costs : cost + JOINED_ATOM_COST * length all + JOINED_BYTE_COST * lengths all + RESULT_BYTE_COST * length (concat all) ≡ cost + JOINED_ATOM_COST * length operands + (JOINED_BYTE_COST + RESULT_BYTE_COST) * size =
    omega (arith, have.size_is, count_atoms trees operands, length-concat all) in
    let bytes : length (concat all) + ATOM_OVERHEAD ≡ size + ATOM_OVERHEAD = omega (arith, have.size_is, length-concat all) in
    have.read (λ atoms. written (cost + JOINED_ATOM_COST * length atoms + JOINED_BYTE_COST * lengths atoms) (concat atoms)) ∙ ap₂ (λ c b. Gives (Atom (concat all)) c 0 b) costs bytes
