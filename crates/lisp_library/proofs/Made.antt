-- Forms that are made of nodes.
use Rattle.std.proofs.Common.{◌≡◌, ◌∙◌, ℕ, List, [], ◌∷◌, Result, Ok, Err, IfOk, OnErr, sym, ap, ap₂, subst, arith, get_or, length, drop, zero, suc, ◌-◌, ◌<◌, ◌≤◌}
use Rattle.std.proofs.Math.Seq.{drop-cons}
use Rattle.std.specs.declared.alloc.AllocError.{AllocError}
use Rattle.clvm_spec.specs.Tree.{Tree, Atom, Pair, nil}
use Rattle.clvm_tree.specs.Nodes.{tree_at, IsKnown, AreKnown, Grows, Adds}
use Rattle.clvm_tree.specs.Operators.{trees_at}
use Rattle.clvm_tree.specs.declared.Node.{Node}
use Rattle.clvm_tree.proofs.NodeLaws.{grows_same, grows_on, grows_length, stays}
use Rattle.clvm_spec.specs.Currying.{quote_of, environment_with}

pub grows_either : (a b : List Tree) (tree : Tree) (made : Result Node AllocError) → IfOk made (λ n. Adds a b n.0 tree) → OnErr made (b ≡ a) → Grows a b
grows_either a b tree (Ok node) ok err = ok.grows
grows_either a b tree (Err fault) ok err = subst (Grows a) (sym err) (grows_same a)

pub stands_as : (a b : List Tree) (tree wanted : Tree) (made : Result Node AllocError) → IfOk made (λ n. Adds a b n.0 tree) → tree ≡ wanted → IfOk made (λ n. tree_at b n.0 ≡ wanted)
stands_as a b tree wanted (Ok node) ok is = ok.stands ∙ is
stands_as a b tree wanted (Err fault) ok is = tt

-- the parts of a form, one made after the other
pub record Parts (t0 t1 t2 t3 : List Tree) (operator quoted last one end quote behind operands : ℕ) : Type 0 where
  pub operator_known : IsKnown t0 operator
  pub last_known : IsKnown t0 last
  pub one_is : tree_at t0 one ≡ Atom (1 ∷ [])
  pub end_is : tree_at t1 end ≡ nil
  pub adds_quote : Adds t0 t1 quote (Pair (tree_at t0 one) (tree_at t0 quoted))
  pub adds_behind : Adds t1 t2 behind (Pair (tree_at t1 last) (tree_at t1 end))
  pub adds_operands : Adds t2 t3 operands (Pair (tree_at t2 quote) (tree_at t2 behind))

pub form_made : (t0 t1 t2 t3 : List Tree) (operator quoted last one end quote behind operands : ℕ) → Parts t0 t1 t2 t3 operator quoted last one end quote behind operands
    → Pair (tree_at t3 operator) (tree_at t3 operands) ≡ Pair (tree_at t0 operator) (Pair (quote_of (tree_at t0 quoted)) (Pair (tree_at t0 last) nil))
form_made t0 t1 t2 t3 operator quoted last one end quote behind operands p =
    let all = grows_on t0 t2 t3 (grows_on t0 t1 t2 p.adds_quote.grows p.adds_behind.grows) p.adds_operands.grows in
    let first = stays t1 t2 quote p.adds_behind.grows p.adds_quote.known ∙ p.adds_quote.stands ∙ ap (λ t. Pair t (tree_at t0 quoted)) p.one_is in
    let second = p.adds_behind.stands ∙ ap₂ Pair (stays t0 t1 last p.adds_quote.grows p.last_known) p.end_is in
    ap₂ Pair (stays t0 t3 operator all p.operator_known) (p.adds_operands.stands ∙ ap₂ Pair first second)

-- ---- arguments, from the last to the first

pub known_at : (trees : List Tree) (nodes : List Node) (place : ℕ) (d : Node) → AreKnown trees nodes → place < length nodes → IsKnown trees (get_or nodes place d).0
known_at trees [] place d known within = absurd (omega (arith, within))
known_at trees (node ∷ nodes) zero d known within = known.0
known_at trees (node ∷ nodes) (suc place) d known within = known_at trees nodes place d known.1 (omega (arith, within))

pub known_later : (old trees : List Tree) (nodes : List Node) (place : ℕ) (d : Node) → Grows old trees → AreKnown old nodes → place < length nodes → IsKnown trees (get_or nodes place d).0
known_later old trees nodes place d grows known within =
    let here = known_at old nodes place d known within in
    let longer = grows_length old trees grows in
    omega (arith, here, longer)

pub from_one_before : (nodes : List Node) (place : ℕ) (d : Node) → 0 < place → place ≤ length nodes → drop (place - 1) nodes ≡ get_or nodes (place - 1) d ∷ drop place nodes
from_one_before nodes place d some within =
    let next : suc (place - 1) ≡ place = omega (arith, some) in
    drop-cons nodes (place - 1) d (omega (arith, some, within)) ∙ ap (λ p. get_or nodes (place - 1) d ∷ drop p nodes) next

pub one_argument_more : (old trees : List Tree) (cons environment : ℕ) (argument : Node) (arguments : List Node) → Grows old trees → IsKnown old argument.0
    → tree_at trees cons ≡ Atom (4 ∷ []) → tree_at trees environment ≡ environment_with (trees_at old arguments)
    → Pair (tree_at trees cons) (Pair (quote_of (tree_at trees argument.0)) (Pair (tree_at trees environment) nil)) ≡ environment_with (trees_at old (argument ∷ arguments))
one_argument_more old trees cons environment argument arguments grows known cons_is environment_is =
    ap₂ Pair cons_is (ap₂ Pair (ap quote_of (stays old trees argument.0 grows known)) (ap (λ t. Pair t nil) environment_is))
