-- Operators on whole trees, by their operands.
use Rattle.std.proofs.Common.{◌≡◌, ℕ, ◌+◌, ◌-◌, ◌*◌, ◌≤◌, Bool, cond, List, [], ◌∷◌, ◌++◌, length, get_or, take, refl, sym, ap, ap₂, ◌∙◌, arith}
use Rattle.std.specs.List.{list_any, list_all}
use Rattle.std.proofs.lemmas.List.{length-take-le}
use Rattle.clvm_spec.specs.declared.costs.TheConstants.{TRUTH_COST}
use Rattle.clvm_spec.specs.Tree.{Tree, Pair, nil, list_tree}
use Rattle.clvm_spec.specs.Operators.{is_nil, is_pair, choice, pair_flag, nil_flag, any_flag, all_flag, is_true, free, flag}
use Rattle.clvm_tree.specs.Nodes.{tree_at, IsKnown, AreKnown, Grows, Adds}
use Rattle.clvm_tree.specs.Operators.{trees_at}
use Rattle.clvm_tree.specs.declared.Node.{Node}
use Rattle.clvm_tree.proofs.NodeLaws.{grows_same, grows_on, grows_length, stays}
use Rattle.clvm_ops.proofs.NodeLists.{length-trees_at, known_at, known_front, trees_split_last}

pub choice_is : (cost : ℕ) (trees : List Tree) (a b c : Tree) (test : Bool) → trees ≡ a ∷ b ∷ c ∷ [] → test ≡ is_nil a → choice cost trees ≡ free (cond test c b) cost
choice_is cost trees a b c test list e = ap (choice cost) list ∙ ap (λ t. free (cond t c b) cost) (sym e)

pub pair_flag_is : (cost : ℕ) (trees : List Tree) (a : Tree) (pair : Bool) → trees ≡ a ∷ [] → pair ≡ is_pair a → pair_flag cost trees ≡ free (flag pair) cost
pair_flag_is cost trees a pair list e = ap (pair_flag cost) list ∙ ap (λ p. free (flag p) cost) (sym e)

pub nil_flag_is : (cost : ℕ) (trees : List Tree) (a : Tree) (empty : Bool) → trees ≡ a ∷ [] → empty ≡ is_nil a → nil_flag cost trees ≡ free (flag empty) cost
nil_flag_is cost trees a empty list e = ap (nil_flag cost) list ∙ ap (λ p. free (flag p) cost) (sym e)

pub any_flag_is : (cost : ℕ) (trees : List Tree) (operands : List Node) (holds : Bool) → holds ≡ list_any is_true (trees_at trees operands) → any_flag cost (trees_at trees operands) ≡ free (flag holds) (cost + TRUTH_COST * length operands)
any_flag_is cost trees operands holds e = ap₂ (λ b n. free (flag b) (cost + TRUTH_COST * n)) (sym e) (length-trees_at trees operands)

pub all_flag_is : (cost : ℕ) (trees : List Tree) (operands : List Node) (holds : Bool) → holds ≡ list_all is_true (trees_at trees operands) → all_flag cost (trees_at trees operands) ≡ free (flag holds) (cost + TRUTH_COST * length operands)
all_flag_is cost trees operands holds e = ap₂ (λ b n. free (flag b) (cost + TRUTH_COST * n)) (sym e) (length-trees_at trees operands)

-- the list of these trees, ended by this one
abbrev pub list_with : List Tree → Tree → Tree
list_with [] end = end
list_with (tree ∷ trees) end = Pair tree (list_with trees end)

pub list_with-nil : (trees : List Tree) → list_with trees nil ≡ list_tree trees
list_with-nil [] = refl
list_with-nil (tree ∷ trees) = ap (Pair tree) (list_with-nil trees)

list_with-push : (trees : List Tree) (tree end : Tree) → list_with (trees ++ tree ∷ []) end ≡ list_with trees (Pair tree end)
list_with-push [] tree end = refl
list_with-push (t ∷ trees) tree end = ap (Pair t) (list_with-push trees tree end)

-- how far the list of the operands is built, from the last
pub record Listed (old new : List Tree) (operands rest : List Node) (list : ℕ) : Type 0 where
  pub grows : Grows old new
  pub few : length new + length rest ≤ length old + length operands
  pub known : IsKnown new list
  pub rest_known : AreKnown old rest
  pub list_is : list_with (trees_at old rest) (tree_at new list) ≡ list_tree (trees_at old operands)

pub listed-init : (old : List Tree) (operands : List Node) (list : ℕ) → AreKnown old operands → IsKnown old list → tree_at old list ≡ nil → Listed old old operands operands list
listed-init old operands list known there empty = record {
  grows = grows_same old;
  few = omega arith;
  known = there;
  rest_known = known;
  list_is = ap (list_with (trees_at old operands)) empty ∙ list_with-nil (trees_at old operands);
}

pub listed_more : (old now new : List Tree) (operands rest : List Node) (list pair : ℕ) (d : Node) → 1 ≤ length rest → Listed old now operands rest list
    → Adds now new pair (Pair (tree_at now (get_or rest (length rest - 1) d).0) (tree_at now list)) → Listed old new operands (take (length rest - 1) rest) pair
listed_more old now new operands rest list pair d some so_far adds =
    let last = get_or rest (length rest - 1) d in
    let stands = stays old now last.0 so_far.grows (known_at old rest (length rest - 1) d so_far.rest_known (omega arith)) in
    record {
      grows = grows_on old now new so_far.grows adds.grows;
      few = omega (arith, length-take-le (length rest - 1) rest (omega arith), so_far.few, adds.few);
      known = adds.known;
      rest_known = known_front old rest (length rest - 1) so_far.rest_known;
      list_is =
          ap (list_with (trees_at old (take (length rest - 1) rest))) (adds.stands ∙ ap (λ t. Pair t (tree_at now list)) stands)
          ∙ sym (list_with-push (trees_at old (take (length rest - 1) rest)) (tree_at old last.0) (tree_at now list))
          ∙ ap (λ ts. list_with ts (tree_at now list)) (sym (trees_split_last old rest d some))
          ∙ so_far.list_is;
    }

pub last_known : (old now : List Tree) (operands rest : List Node) (list : ℕ) (d : Node) → 1 ≤ length rest → Listed old now operands rest list → IsKnown now (get_or rest (length rest - 1) d).0
last_known old now operands rest list d some so_far =
    omega (arith, known_at old rest (length rest - 1) d so_far.rest_known (omega arith), grows_length old now so_far.grows)
