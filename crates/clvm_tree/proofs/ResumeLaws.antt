-- What is read in all, where pairs are open.
use Rattle.std.proofs.Common.{◌≡◌, ℕ, ◌-◌, ◌<◌, ◌≤◌, List, [], ◌∷◌, ◌++◌, length, take, drop, Option, Some, None, refl, ◌∙◌, ap, subst, ⊎_elim, arith}
use Rattle.std.proofs.lemmas.List.{length-drop, append_cancel_right, take-append-drop}
use Rattle.std.proofs.lemmas.Bool.{cases_lt}
use Rattle.clvm_spec.specs.Tree.{Tree}
use Rattle.clvm_spec.specs.Reading.{Flaw, Flawed, Read, Faulty, with_first, with_both, head_at, tree_at_front, Found, HasFlaw, front_of, front_read}
use Rattle.clvm_spec.proofs.FrontLaws.{front_flawed}
use Rattle.std.specs.Int.Digits.{AllBelowBase}
use Rattle.clvm_spec.specs.Spelling.{spelling, Spells}
use Rattle.clvm_spec.proofs.FaultLaws.{found_is_spelled}
use Rattle.clvm_tree.specs.Nodes.{tree_at, Grows}
use Rattle.clvm_tree.specs.Reads.{resumed, AreOpen, Closes}
use Rattle.clvm_tree.specs.declared.Node.{Node}
use Rattle.clvm_tree.proofs.NodeLaws.{stays, grows_length}

-- one more open pair, within the others
pub resumed-push : (trees : List Tree) (begun : List (Option Node)) (o : Option Node) (read : Read) → resumed trees (begun ++ o ∷ []) read ≡ resumed trees begun (resumed trees (o ∷ []) read)
resumed-push trees [] o read = refl
resumed-push trees (None ∷ begun) o read = ap (with_both tree_at_front) (resumed-push trees begun o read)
resumed-push trees (Some first ∷ begun) o read = ap (with_first (tree_at trees first.0)) (resumed-push trees begun o read)

pub resumed-faulty : (trees : List Tree) (begun : List (Option Node)) (flaw : Flaw) (rest : List ℕ) → resumed trees begun (Faulty flaw rest) ≡ Faulty flaw rest
resumed-faulty trees [] flaw rest = refl
resumed-faulty trees (None ∷ begun) flaw rest = ap (with_both tree_at_front) (resumed-faulty trees begun flaw rest)
resumed-faulty trees (Some first ∷ begun) flaw rest = ap (with_first (tree_at trees first.0)) (resumed-faulty trees begun flaw rest)

pub resumed-grows : (a b : List Tree) (begun : List (Option Node)) (read : Read) → Grows a b → AreOpen a begun → resumed b begun read ≡ resumed a begun read
resumed-grows a b [] read grows h = refl
resumed-grows a b (None ∷ begun) read grows h = ap (with_both tree_at_front) (resumed-grows a b begun read grows h)
resumed-grows a b (Some first ∷ begun) read grows h =
    ap (λ t. with_first t (resumed b begun read)) (stays a b first.0 grows h.0) ∙ ap (with_first (tree_at a first.0)) (resumed-grows a b begun read grows h.1)

pub AreOpen-grows : (a b : List Tree) (begun : List (Option Node)) → Grows a b → AreOpen a begun → AreOpen b begun
AreOpen-grows a b [] grows h = tt
AreOpen-grows a b (None ∷ begun) grows h = AreOpen-grows a b begun grows h
AreOpen-grows a b (Some first ∷ begun) grows h = (omega (arith, h.0, grows_length a b grows), AreOpen-grows a b begun grows h.1)

pub AreOpen-push : (trees : List Tree) (begun : List (Option Node)) (o : Option Node) → AreOpen trees begun → AreOpen trees (o ∷ []) → AreOpen trees (begun ++ o ∷ [])
AreOpen-push trees [] o h l = l
AreOpen-push trees (None ∷ begun) o h l = AreOpen-push trees begun o h l
AreOpen-push trees (Some first ∷ begun) o h l = (h.0, AreOpen-push trees begun o h.1 l)

pub AreOpen-init : (trees : List Tree) (begun : List (Option Node)) (o : Option Node) → AreOpen trees (begun ++ o ∷ []) → AreOpen trees begun
AreOpen-init trees [] o h = tt
AreOpen-init trees (None ∷ begun) o h = AreOpen-init trees begun o h
AreOpen-init trees (Some first ∷ begun) o h = (h.0, AreOpen-init trees begun o h.1)

pub AreOpen-last : (trees : List Tree) (begun : List (Option Node)) (o : Option Node) → AreOpen trees (begun ++ o ∷ []) → AreOpen trees (o ∷ [])
AreOpen-last trees [] None h = tt
AreOpen-last trees [] (Some first) h = h
AreOpen-last trees (None ∷ begun) o h = AreOpen-last trees begun o h
AreOpen-last trees (Some first ∷ begun) o h = AreOpen-last trees begun o h.1

-- an end of a list is told by its length
pub drop_by_length : (xs ys : List ℕ) (k : ℕ) → ys ≡ drop k xs → ys ≡ drop (length xs - length ys) xs
drop_by_length xs ys k e =
    ⊎_elim (λ (within : k < length xs).
    let eq : k ≡ length xs - length ys = omega (arith, ap length e, length-drop k xs) in
    e ∙ ap (λ i. drop i xs) eq)
    (λ (past : length xs ≤ k).
    let none : length ys ≡ 0 = omega (arith, ap length e, length-drop k xs) in
    same_ends ys (drop (length xs - length ys) xs) none (omega (arith, length-drop (length xs - length ys) xs)))
    (cases_lt k (length xs))
  where
    same_ends : (cs bs : List ℕ) → length cs ≡ 0 → length bs ≡ 0 → cs ≡ bs
    same_ends [] [] a b = refl
    same_ends [] (y ∷ bs) a b = absurd (omega arith)
    same_ends (x ∷ cs) bs a b = absurd (omega arith)

pub closes_some : (old new : List Tree) (begun still : List (Option Node)) (tree : Tree) (result : Option Node) (whole : Node) → result ≡ Some whole → Closes old begun tree new still result → Closes old begun tree new still (Some whole)
closes_some old new begun still tree result whole is h = subst (Closes old begun tree new still) is h

pub closes_none : (old new : List Tree) (begun still : List (Option Node)) (tree : Tree) (result : Option Node) → result ≡ None → Closes old begun tree new still result → Closes old begun tree new still None
closes_none old new begun still tree result is h = subst (Closes old begun tree new still) is h

-- A flaw where a head must stand is the flaw of all.
pub flaw_at : (trees : List Tree) (begun : List (Option Node)) (bytes rest : List ℕ) (flaw : Flaw) → tree_at_front bytes ≡ resumed trees begun (tree_at_front rest) → head_at rest ≡ Flawed flaw → front_read bytes ≡ HasFlaw flaw (length bytes - length rest)
flaw_at trees begun bytes rest flaw same head =
    ap (front_of bytes) (same ∙ ap (resumed trees begun) (front_flawed rest flaw head) ∙ resumed-faulty trees begun flaw rest)

-- What stands before the rest spells the tree that is found.
pub spelled_front : (bytes : List ℕ) (tree : Tree) (count : ℕ) → AllBelowBase 256 bytes → tree_at_front bytes ≡ Found tree (drop count bytes) → Spells tree (take count bytes)
spelled_front bytes tree count below found =
    let s = found_is_spelled bytes tree (drop count bytes) below found in
    (s.0, append_cancel_right (take count bytes) (spelling tree) (drop count bytes) (take-append-drop count bytes ∙ s.1))
