-- How nodes keep their trees while a `Trees` grows.
use Rattle.std.proofs.Common.{◌≡◌, ℕ, ◌<◌, ◌≤◌, List, [], ◌∷◌, ◌++◌, length, sym, ◌∙◌, ap, refl, arith, append_assoc}
use Rattle.std.proofs.lemmas.List.{append-nil, length-append, get_or_append_left}
use Rattle.clvm_spec.specs.Tree.{Tree, nil}
use Rattle.clvm_tree.specs.Nodes.{tree_at, Grows}

pub grows_same : (trees : List Tree) → Grows trees trees
grows_same trees = ([], sym (append-nil trees))

pub grows_one : (trees : List Tree) (tree : Tree) → Grows trees (trees ++ tree ∷ [])
grows_one trees tree = (tree ∷ [], refl)

pub grows_on : (a b c : List Tree) → Grows a b → Grows b c → Grows a c
grows_on a b c ab bc = (ab.0 ++ bc.0, bc.1 ∙ ap (λ x. x ++ bc.0) ab.1 ∙ append_assoc a ab.0 bc.0)

pub grows_length : (a b : List Tree) → Grows a b → length a ≤ length b
grows_length a b h = let e = ap length h.1 in omega (arith, length-append a h.0, e)

-- an earlier node stands
pub stays : (a b : List Tree) (i : ℕ) → Grows a b → i < length a → tree_at b i ≡ tree_at a i
stays a b i h lt = ap (λ x. tree_at x i) h.1 ∙ get_or_append_left a h.0 nil i lt
