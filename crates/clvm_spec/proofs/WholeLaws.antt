-- Whole bytes against spellings.
use Rattle.std.proofs.Common.{◌≡◌, ℕ, ◌==◌, Bool, true, false, cond, List, [], ◌∷◌, ◌++◌, length, Some, refl, sym, ◌∙◌, ap, arith}
use Rattle.std.proofs.lemmas.Bool.{cond-true, eqb-true, eq-eqb}
use Rattle.std.proofs.lemmas.List.{append-nil, length-append}
use Rattle.clvm_spec.specs.Places.{place_of}
use Rattle.clvm_spec.specs.Tree.{Tree}
use Rattle.clvm_spec.specs.Spelling.{spelling, HasSpelling}
use Rattle.clvm_spec.specs.Reading.{Read, Found, Faulty, tree_at_front, HasTree, front_of, IsTree, IsLonger, whole_of, if_tree}
use Rattle.clvm_spec.specs.Laws.{HasOneSpelling, BeginsNoOther, ReadsSpelled, FaultIsFound, WholeIsSpelled}
use Rattle.clvm_spec.proofs.FrontLaws.{front_takes}
use Rattle.clvm_spec.proofs.SpelledLaws.{front-spelling}
use Rattle.clvm_spec.proofs.FaultLaws.{found_is_spelled, faulty_is_fault, fault_is_faulty}

pub one_spelling : HasOneSpelling
one_spelling tree a b ha hb = ha.1 ∙ sym hb.1

same_tree : (t u : Tree) (xs ys : List ℕ) → Found t xs ≡ Found u ys → t ≡ u
same_tree t u xs ys e = cc

same_rest : (t u : Tree) (xs ys : List ℕ) → Found t xs ≡ Found u ys → xs ≡ ys
same_rest t u xs ys e = cc

-- what is spelled, all of it
pub front-whole : (tree : Tree) → HasSpelling tree → tree_at_front (spelling tree) ≡ Found tree []
front-whole tree h = ap tree_at_front (sym (append-nil (spelling tree))) ∙ front-spelling tree [] h

pub begins_no_other : BeginsNoOther
begins_no_other tree other rest ht ho e =
    let both : Found tree rest ≡ Found other [] = sym (front-spelling tree rest ht) ∙ ap tree_at_front (sym e) ∙ front-whole other ho in
    (same_tree tree other rest [] both, same_rest tree other rest [] both)

pub fault_is_found : FaultIsFound
fault_is_found bytes flaw rest below = (faulty_is_fault bytes flaw rest below, fault_is_faulty bytes flaw rest)

all_of : (test : Bool) (t tree : Tree) (count : ℕ) → if_tree (cond test (IsTree t) (IsLonger count)) ≡ Some tree → (test ≡ true) × (t ≡ tree)
all_of true t tree count e = (refl, cc)
all_of false t tree count e = absurd cc

no_bytes : (rest : List ℕ) → length rest ≡ 0 → rest ≡ []
no_bytes [] e = refl
no_bytes (b ∷ rest) e = absurd (omega arith)

-- a whole tree is a found one with nothing behind
whole_found : (bytes : List ℕ) (read : Read) (tree : Tree) → tree_at_front bytes ≡ read → if_tree (whole_of (length bytes) (front_of bytes read)) ≡ Some tree → read ≡ Found tree []
whole_found bytes (Found t rest) tree is e =
    let whole = all_of (place_of bytes rest == length bytes) t tree (place_of bytes rest) e in
    let none : rest ≡ [] = no_bytes rest (omega (arith, front_takes bytes t rest is, eqb-true (place_of bytes rest) (length bytes) whole.0)) in
    ap (λ u. Found u rest) whole.1 ∙ ap (Found tree) none
whole_found bytes (Faulty flaw rest) tree is e = cc

pub whole_is_spelled : WholeIsSpelled
whole_is_spelled bytes tree below = (
  λ e. let spelled = found_is_spelled bytes tree [] below (whole_found bytes (tree_at_front bytes) tree refl e) in (spelled.0, spelled.1 ∙ append-nil (spelling tree)),
  λ s.
      ap (λ read. if_tree (whole_of (length bytes) (front_of bytes read))) (ap tree_at_front s.1 ∙ front-whole tree s.0)
      ∙ ap if_tree (cond-true (place_of bytes [] == length bytes) (IsTree tree) (IsLonger (place_of bytes [])) (eq-eqb (place_of bytes []) (length bytes) (omega arith))),
)

pub reads_spelled : ReadsSpelled
reads_spelled tree rest h =
    let bytes = spelling tree ++ rest in
    let count : place_of bytes rest ≡ length (spelling tree) = omega (arith, length-append (spelling tree) rest) in
    ap (front_of bytes) (front-spelling tree rest h) ∙ ap (HasTree tree) count
