-- What the operators give that are answered without the table, by their operands.
use Rattle.std.proofs.Common.{◌≡◌, ℕ, ◌+◌, ◌*◌, ◌<◌, ◌≤◌, ◌^◌, ℤ, pos, negsuc, ◌+ℤ◌, ◌-ℤ◌, Bool, true, false, cond, Option, Some, List, [], ◌∷◌, length, get_or, FitsSigned, IsTrue, refl, sym, ◌∙◌, ap, ap₂, subst, arith}
use Rattle.std.specs.Prelude.{◌↔◌, bytes_eq, int_lt}
use Rattle.std.specs.Int.{w128}
use Rattle.std.proofs.lemmas.Bool.{cond-true, lt-ltb, ne_eqb}
use Rattle.std.proofs.lemmas.Int.{ints}
use Rattle.clvm_spec.specs.declared.fuel.Fuel.{Fuel}
use Rattle.clvm_spec.specs.declared.costs.TheConstants.{COMPARED_BYTE_COST, TERM_COST, TERM_BYTE_COST, GREATER_BYTE_COST}
use Rattle.clvm_spec.specs.Tree.{Tree, Atom, Pair, nil}
use Rattle.clvm_spec.specs.Numbers.{number, is_natural, is_short, shortest_atom}
use Rattle.clvm_spec.specs.Arithmetic.{fits_128, if_fits}
use Rattle.clvm_spec.specs.Outcomes.{Applied, Gives, Enough}
use Rattle.clvm_spec.specs.Operators.{is_nil, is_pair, number_at, free, flag, or_wide, new_number, written, choice, pair_flag, equal_flag, sum_of, difference_of, greater_flag, from_left, terms_cost}
use Rattle.clvm_spec.specs.OperatorTable.{unless_lacking, within}
use Rattle.clvm_spec.specs.Spending.{Suffices}
use Rattle.clvm_spec.proofs.ShortestLaws.{shortest_is_itself}
use Rattle.clvm_tree.specs.Nodes.{tree_at, single_byte}
use Rattle.clvm_tree.specs.Operators.{trees_at, outcome_by}
use Rattle.clvm_tree.specs.declared.Node.{Node}
use Rattle.clvm_tree.specs.declared.operators.Answer.{Answer}
use Rattle.clvm_tree.proofs.HeldNumbers.{is_held}
use Rattle.clvm_eval.specs.Quick.{IsQuickOrNone, Quickly, IsNumber}

-- ---- an answer

pub quickly_same : (old new : List Tree) (left : Fuel) (a b : Applied) (result : Option Answer) → a ≡ b → Quickly old new left b result → Quickly old new left a result
quickly_same old new left a b result e h = subst (λ x. Quickly old new left x result) (sym e) h

pub enough : (left : Fuel) (value : Tree) (cost pairs bytes : ℕ) → Suffices left (record { cost = cost; pairs = pairs; bytes = bytes }) → within left (Gives value cost pairs bytes) ≡ Enough (Gives value cost pairs bytes)
enough left value cost pairs bytes h = ap (λ l. unless_lacking l (Gives value cost pairs bytes)) h

pub byte_is : (tree : Tree) (byte : ℕ) → single_byte tree ≡ Some byte → tree ≡ Atom (byte ∷ [])
byte_is (Atom []) byte e = absurd cc
byte_is (Atom (b ∷ [])) byte e = let same : b ≡ byte = cc in ap (λ x. Atom (x ∷ [])) same
byte_is (Atom (b ∷ c ∷ more)) byte e = absurd cc
byte_is (Pair first rest) byte e = absurd cc

pub quick_by_byte : (old new : List Tree) (code : Tree) (byte : ℕ) (operands : List Tree) (left : Fuel) (result : Option Answer) → single_byte code ≡ Some byte →
    IsQuickOrNone old new (outcome_by (Atom (byte ∷ [])) operands left) result → IsQuickOrNone old new (outcome_by code operands left) result
quick_by_byte old new code byte operands left result is h = subst (λ c. IsQuickOrNone old new (outcome_by c operands left) result) (sym (byte_is code byte is)) h

-- ---- trees

pub choice_is : (cost : ℕ) (trees : List Tree) (a b c : Tree) (test : Bool) → trees ≡ a ∷ b ∷ c ∷ [] → test ≡ is_nil a → choice cost trees ≡ free (cond test c b) cost
choice_is cost trees a b c test list e = ap (choice cost) list ∙ ap (λ t. free (cond t c b) cost) (sym e)

pub pair_flag_is : (cost : ℕ) (trees : List Tree) (a : Tree) (pair : Bool) → trees ≡ a ∷ [] → is_pair a ≡ pair → pair_flag cost trees ≡ free (flag pair) cost
pair_flag_is cost trees a pair list e = ap (pair_flag cost) list ∙ ap (λ p. free (flag p) cost) e

pub nil_test : (result : Bool) (tree : Tree) → IsTrue result ↔ (tree ≡ nil) → result ≡ is_nil tree
nil_test true tree h = sym (ap is_nil (h.0 refl))
nil_test false (Atom []) h = h.1 refl
nil_test false (Atom (b ∷ bytes)) h = refl
nil_test false (Pair first rest) h = refl

-- ---- atoms

pub equal_flag_is : (cost : ℕ) (operands : List Tree) (a b : Tree) (x y : List ℕ) (same : Bool) → operands ≡ a ∷ b ∷ [] → a ≡ Atom x → b ≡ Atom y → same ≡ bytes_eq x y →
    equal_flag cost operands ≡ free (flag same) (cost + COMPARED_BYTE_COST * (length x + length y))
equal_flag_is cost operands a b x y same list first second e =
    ap (equal_flag cost) (list ∙ ap₂ (λ a b. a ∷ b ∷ []) first second) ∙ ap (λ s. free (flag s) (cost + COMPARED_BYTE_COST * (length x + length y))) (sym e)

-- ---- numbers

read_number : (place : ℕ) (tree : Tree) (n : ℤ) (size : ℕ) (is : IsNumber tree n size) (go : List ℕ → Applied) → number_at place tree go ≡ go is.bytes
read_number place tree n size is go = ap (λ t. number_at place t go) is.is ∙ cond-true (is_short is.bytes) _ _ is.short

pub number_written : (cost : ℕ) (n : ℤ) → FitsSigned w128 n → new_number cost n ≡ written cost (shortest_atom n)
number_written cost n h = ap (λ held. or_wide held (λ n. written cost (shortest_atom n))) (is_held n h)

-- The shortest atom of a positive number below 128 is that byte alone.
pub small_is : (cost n : ℕ) → 0 < n → n < 128 → new_number cost (pos n) ≡ written cost (n ∷ [])
small_is cost n low high =
    let byte : number (n ∷ []) ≡ pos n = cond-true (is_natural n) _ _ (lt-ltb n 128 high) ∙ ap pos (omega arith) in
    let itself = shortest_is_itself (n ∷ []) (omega arith, tt) (omega arith) (ne_eqb n 0 (λ e. omega arith)) in
    number_written cost (pos n) (record { sfits = omega arith }) ∙ ap (written cost) (ap shortest_atom (sym byte) ∙ itself)

zero_more : (n : ℤ) → pos 0 +ℤ n ≡ n
zero_more n = omega (arith, ints)

module _ (operands : List Tree) (a b : Tree) (n m : ℤ) (size other : ℕ) (list : operands ≡ a ∷ b ∷ []) (first : IsNumber a n size) (second : IsNumber b m other) where
  abbrev terms : ℕ
  terms = TERM_COST * 2 + TERM_BYTE_COST * (size + other)

  terms_are : terms_cost (first.bytes ∷ second.bytes ∷ []) ≡ terms
  terms_are = let s = first.size_is in let t = second.size_is in omega arith

  pub sum_is : (cost : ℕ) → FitsSigned w128 (n +ℤ m) → sum_of cost operands ≡ new_number (cost + terms) (n +ℤ m)
  sum_is cost held =
      ap (sum_of cost) list
      ∙ read_number 0 a n size first _
      ∙ read_number 1 b m other second _
      ∙ ap₂ (λ x y. from_left ◌+ℤ◌ (pos 0) (x ∷ y ∷ []) (new_number (cost + terms_cost (first.bytes ∷ second.bytes ∷ [])))) (sym first.number_is) (sym second.number_is)
      ∙ ap (λ z. or_wide (if_fits z) (λ next. or_wide (if_fits (next +ℤ m)) (new_number (cost + terms_cost (first.bytes ∷ second.bytes ∷ []))))) (zero_more n)
      ∙ ap (λ held. or_wide held (λ next. or_wide (if_fits (next +ℤ m)) (new_number (cost + terms_cost (first.bytes ∷ second.bytes ∷ []))))) (is_held n first.held)
      ∙ ap (λ held. or_wide held (new_number (cost + terms_cost (first.bytes ∷ second.bytes ∷ [])))) (is_held (n +ℤ m) held)
      ∙ ap (λ t. new_number (cost + t) (n +ℤ m)) terms_are

  pub difference_is : (cost : ℕ) → FitsSigned w128 (n -ℤ m) → difference_of cost operands ≡ new_number (cost + terms) (n -ℤ m)
  difference_is cost held =
      ap (difference_of cost) list
      ∙ read_number 0 a n size first _
      ∙ read_number 1 b m other second _
      ∙ ap₂ (λ x y. from_left ◌-ℤ◌ x (y ∷ []) (new_number (cost + terms_cost (first.bytes ∷ second.bytes ∷ [])))) (sym first.number_is) (sym second.number_is)
      ∙ ap (λ held. or_wide held (new_number (cost + terms_cost (first.bytes ∷ second.bytes ∷ [])))) (is_held (n -ℤ m) held)
      ∙ ap (λ t. new_number (cost + t) (n -ℤ m)) terms_are

  pub greater_is : (cost : ℕ) (greater : Bool) → greater ≡ int_lt m n → greater_flag cost operands ≡ free (flag greater) (cost + GREATER_BYTE_COST * (size + other))
  greater_is cost greater is =
      ap (greater_flag cost) list
      ∙ read_number 0 a n size first _
      ∙ read_number 1 b m other second _
      ∙ ap₂ (λ x y. free (flag (int_lt y x)) (cost + GREATER_BYTE_COST * (length first.bytes + length second.bytes))) (sym first.number_is) (sym second.number_is)
      ∙ ap (λ g. free (flag g) (cost + GREATER_BYTE_COST * (length first.bytes + length second.bytes))) (sym is)
      ∙ ap₂ (λ s t. free (flag greater) (cost + GREATER_BYTE_COST * (s + t))) (sym first.size_is) (sym second.size_is)
