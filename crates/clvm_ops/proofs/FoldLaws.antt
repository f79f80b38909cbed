-- What is calculated of any count of numbers, step by step.
use Rattle.std.proofs.Common.{◌≡◌, ℕ, suc, ◌+◌, ◌-◌, ◌*◌, ◌^◌, ◌<◌, ◌≤◌, ℤ, ◌*ℤ◌, true, List, [], ◌∷◌, length, get_or, take, drop, map, FitsSigned, to_z, of_z, subst, sym, ap, ap₂, ◌∙◌, arith}
use Rattle.std.specs.Prelude.{fold}
use Rattle.std.specs.Int.{w128}
use Rattle.std.proofs.lemmas.Int.{to_z-of_z}
use Rattle.std.proofs.lemmas.List.{drop_more, drop_all, take_rest, get_or-map, length-map}
use Rattle.clvm_spec.specs.declared.limits.TheConstants.{NUMBER_BYTES}
use Rattle.clvm_spec.specs.Tree.{Tree, nil, bytes_of}
use Rattle.clvm_spec.specs.Numbers.{number, shortest_atom, is_short}
use Rattle.clvm_spec.specs.Outcomes.{Applied, TooWide}
use Rattle.clvm_spec.specs.Operators.{or_wide, from_left, factors_cost, new_number, factor_cost}
use Rattle.clvm_tree.specs.Nodes.{tree_at}
use Rattle.clvm_tree.specs.Operators.{trees_at}
use Rattle.clvm_tree.specs.declared.Node.{Node}
use Rattle.clvm_ops.specs.OperandAtoms.{atoms_at, AreShort}
use Rattle.clvm_ops.specs.Folds.{numbers_at}
use Rattle.clvm_tree.proofs.HeldNumbers.{is_held}
use Rattle.clvm_ops.proofs.Fits.{too_wide}
use Rattle.clvm_ops.proofs.NodeLists.{length-trees_at}

pub short_at : (trees : List Tree) (nodes : List Node) (k : ℕ) (d : Node) → k < length nodes → AreShort trees nodes
    → is_short (bytes_of (tree_at trees (get_or nodes k d).0)) ≡ true
short_at trees nodes k d h all =
    let count = length-trees_at trees nodes in
    let count_bytes = length-map (trees_at trees nodes) bytes_of in
    let read = get_or-map bytes_of (trees_at trees nodes) k nil [] (omega arith) ∙ ap bytes_of (get_or-map (λ (node : Node). tree_at trees node.0) nodes k d nil h) in
    sym (ap is_short read) ∙ all k [] (omega arith)

short_drop : (trees : List Tree) (nodes : List Node) → AreShort trees nodes → AreShort trees (drop 1 nodes)
short_drop trees [] all = all
short_drop trees (node ∷ nodes) all = λ k d h. all (suc k) d (omega arith)

-- all but the first
pub short_rest : (trees : List Tree) (nodes : List Node) → AreShort trees nodes
    → AreShort trees (take (length nodes - 1) (drop 1 nodes))
short_rest trees nodes all = rw (take_rest nodes 1) (short_drop trees nodes all)

next_number : (trees : List Tree) (nodes : List Node) (k : ℕ) (d : Node) → k < length nodes
    → numbers_at trees (drop k nodes) ≡ number (bytes_of (tree_at trees (get_or nodes k d).0)) ∷ numbers_at trees (drop (k + 1) nodes)
next_number trees nodes k d h = ap (numbers_at trees) (drop_more nodes k d h)

left_more : (step : ℤ → ℤ → ℤ) (trees : List Tree) (nodes : List Node) (k : ℕ) (d : Node) (so_far next : ℤ) (go : ℤ → Applied) → k < length nodes
    → FitsSigned w128 (step so_far (number (bytes_of (tree_at trees (get_or nodes k d).0)))) → next ≡ step so_far (number (bytes_of (tree_at trees (get_or nodes k d).0)))
    → from_left step so_far (numbers_at trees (drop k nodes)) go ≡ from_left step next (numbers_at trees (drop (k + 1) nodes)) go
left_more step trees nodes k d so_far next go h held is =
    ap (λ ns. from_left step so_far ns go) (next_number trees nodes k d h)
    ∙ ap (λ next. or_wide next (λ n. from_left step n (numbers_at trees (drop (k + 1) nodes)) go)) (is_held _ held)
    ∙ ap (λ n. from_left step n (numbers_at trees (drop (k + 1) nodes)) go) (sym is)

-- the same where the numbers went through words
pub left_step : (step : ℤ → ℤ → ℤ) (trees : List Tree) (nodes : List Node) (k : ℕ) (d : Node) (so_far next read : ℤ) (go : ℤ → Applied) → k < length nodes
    → FitsSigned w128 read → read ≡ number (bytes_of (tree_at trees (get_or nodes k d).0))
    → FitsSigned w128 (step so_far (to_z w128 (of_z w128 read))) → next ≡ step so_far (to_z w128 (of_z w128 read))
    → from_left step so_far (numbers_at trees (drop k nodes)) go ≡ from_left step (to_z w128 (of_z w128 next)) (numbers_at trees (drop (k + 1) nodes)) go
left_step step trees nodes k d so_far next read go h read_fits read_is held is =
    let word = to_z-of_z w128 read read_fits ∙ read_is in
    let fits_next : FitsSigned w128 next = subst (FitsSigned w128) (sym is) held in
    left_more step trees nodes k d so_far (to_z w128 (of_z w128 next)) go h (subst (λ (n : ℤ). FitsSigned w128 (step so_far n)) word held)
    (to_z-of_z w128 next fits_next ∙ is ∙ ap (step so_far) word)

-- where 128 bits don't hold the next
pub left_wide : (step : ℤ → ℤ → ℤ) (trees : List Tree) (nodes : List Node) (k : ℕ) (d : Node) (so_far read : ℤ) (go : ℤ → Applied) → k < length nodes
    → FitsSigned w128 read → read ≡ number (bytes_of (tree_at trees (get_or nodes k d).0)) → ¬ FitsSigned w128 (step so_far (to_z w128 (of_z w128 read)))
    → from_left step so_far (numbers_at trees (drop k nodes)) go ≡ TooWide
left_wide step trees nodes k d so_far read go h read_fits read_is long =
    let word = to_z-of_z w128 read read_fits ∙ read_is in
    ap (λ ns. from_left step so_far ns go) (next_number trees nodes k d h)
    ∙ ap (λ next. or_wide next (λ n. from_left step n (numbers_at trees (drop (k + 1) nodes)) go)) (too_wide _ (subst (λ (n : ℤ). ¬ FitsSigned w128 (step so_far n)) word long))

-- where none is left
pub left_all : (step : ℤ → ℤ → ℤ) (trees : List Tree) (nodes : List Node) (k : ℕ) (so_far : ℤ) (go : ℤ → Applied) → length nodes ≤ k
    → from_left step so_far (numbers_at trees (drop k nodes)) go ≡ go so_far
left_all step trees nodes k so_far go h = ap (λ nodes. from_left step so_far (numbers_at trees nodes) go) (drop_all k nodes h)

pub bits_step : (step : ℤ → ℤ → ℤ) (trees : List Tree) (nodes : List Node) (k : ℕ) (d : Node) (whole so_far next read : ℤ) → k < length nodes
    → whole ≡ fold step so_far (numbers_at trees (drop k nodes)) → FitsSigned w128 read → read ≡ number (bytes_of (tree_at trees (get_or nodes k d).0))
    → FitsSigned w128 next → next ≡ step so_far (to_z w128 (of_z w128 read)) → whole ≡ fold step (to_z w128 (of_z w128 next)) (numbers_at trees (drop (k + 1) nodes))
bits_step step trees nodes k d whole so_far next read h before read_fits read_is next_fits is =
    let joined = to_z-of_z w128 next next_fits ∙ is ∙ ap (step so_far) (to_z-of_z w128 read read_fits ∙ read_is) in
    before ∙ ap (fold step so_far) (next_number trees nodes k d h) ∙ ap (λ n. fold step n (numbers_at trees (drop (k + 1) nodes))) (sym joined)

-- ---- products

-- what the product so far, of this size and at this cost, comes to with these
abbrev times_on : (cost size : ℕ) → ℤ → List (List ℕ) → Applied
times_on cost size so_far atoms = from_left ◌*ℤ◌ so_far (map number atoms) (new_number (cost + factors_cost size so_far atoms))

pub record ProductSoFar (trees : List Tree) (nodes : List Node) (k : ℕ) (whole : Applied) (cost size : ℕ) (number : ℤ) : Type 0 where
  pub whole_is : whole ≡ times_on cost size number (atoms_at trees (drop k nodes))
  pub cost_few : cost < 2 ^ 32 + k * 2000
  pub size_few : size ≤ NUMBER_BYTES

next_atom : (trees : List Tree) (nodes : List Node) (k : ℕ) (d : Node) → k < length nodes
    → atoms_at trees (drop k nodes) ≡ bytes_of (tree_at trees (get_or nodes k d).0) ∷ atoms_at trees (drop (k + 1) nodes)
next_atom trees nodes k d h = ap (atoms_at trees) (drop_more nodes k d h)

-- one factor more
times_one : (cost size : ℕ) (so_far : ℤ) (a : List ℕ) (atoms : List (List ℕ)) → FitsSigned w128 (so_far *ℤ number a)
    → times_on cost size so_far (a ∷ atoms) ≡ times_on (cost + factor_cost size (length a)) (length (shortest_atom (so_far *ℤ number a))) (so_far *ℤ number a) atoms
times_one cost size so_far a atoms held =
    let product = so_far *ℤ number a in
    let next = length (shortest_atom product) in
    let costs : cost + factors_cost size so_far (a ∷ atoms) ≡ cost + factor_cost size (length a) + factors_cost next product atoms = omega arith in
    ap (λ next. or_wide next (λ n. from_left ◌*ℤ◌ n (map number atoms) (new_number (cost + factors_cost size so_far (a ∷ atoms))))) (is_held product held) ∙ ap (λ c. from_left ◌*ℤ◌ product (map number atoms) (new_number c)) costs

times_more : (trees : List Tree) (nodes : List Node) (k : ℕ) (d : Node) (whole : Applied) (cost size : ℕ) (so_far next : ℤ) (bytes : List ℕ) → k < length nodes
    → bytes ≡ bytes_of (tree_at trees (get_or nodes k d).0) → whole ≡ times_on cost size so_far (atoms_at trees (drop k nodes)) → FitsSigned w128 (so_far *ℤ number bytes)
    → next ≡ so_far *ℤ number bytes → whole ≡ times_on (cost + factor_cost size (length bytes)) (length (shortest_atom next)) next (atoms_at trees (drop (k + 1) nodes))
times_more trees nodes k d whole cost size so_far next bytes h read before held is =
    before ∙ ap (times_on cost size so_far) (next_atom trees nodes k d h ∙ ap (λ b. b ∷ atoms_at trees (drop (k + 1) nodes)) (sym read))
    ∙ times_one cost size so_far bytes (atoms_at trees (drop (k + 1) nodes)) held
    ∙ ap (λ n. times_on (cost + factor_cost size (length bytes)) (length (shortest_atom n)) n (atoms_at trees (drop (k + 1) nodes))) (sym is)

-- the same where the numbers went through words
pub times_step : (trees : List Tree) (nodes : List Node) (k : ℕ) (d : Node) (whole : Applied) (cost size factor new_size : ℕ) (so_far next read : ℤ) (bytes : List ℕ) → k < length nodes
    → bytes ≡ bytes_of (tree_at trees (get_or nodes k d).0) → ProductSoFar trees nodes k whole cost size so_far → FitsSigned w128 read → read ≡ number (bytes_of (tree_at trees (get_or nodes k d).0))
    → FitsSigned w128 (so_far *ℤ to_z w128 (of_z w128 read)) → next ≡ so_far *ℤ to_z w128 (of_z w128 read)
    → factor ≡ factor_cost size (length bytes) → factor ≤ 2000 → new_size ≡ length (shortest_atom (to_z w128 (of_z w128 next))) → new_size ≤ NUMBER_BYTES
    → ProductSoFar trees nodes (k + 1) whole (cost + factor) new_size (to_z w128 (of_z w128 next))
times_step trees nodes k d whole cost size factor new_size so_far next read bytes h is before read_fits read_is held next_is cost_is few size_is short =
    let word = to_z-of_z w128 read read_fits ∙ read_is ∙ ap number (sym is) in
    let fits_next : FitsSigned w128 next = subst (FitsSigned w128) (sym next_is) held in
    let more = times_more trees nodes k d whole cost size so_far (to_z w128 (of_z w128 next)) bytes h is before.whole_is (subst (λ (n : ℤ). FitsSigned w128 (so_far *ℤ n)) word held)
    (to_z-of_z w128 next fits_next ∙ next_is ∙ ap (λ n. so_far *ℤ n) word) in
    record {
      whole_is = more ∙ ap₂ (λ f s. times_on (cost + f) s (to_z w128 (of_z w128 next)) (atoms_at trees (drop (k + 1) nodes))) (sym cost_is) (sym size_is);
      cost_few = omega (arith, before.cost_few);
      size_few = short;
    }
