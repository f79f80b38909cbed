-- Quotient and remainder in a pair.
use Rattle.std.proofs.Common.{◌≡◌, ℕ, ◌+◌, ◌*◌, ℤ, false, Some, Result, Ok, Err, List, length, FitsSigned, sym, ap, ap₂, ◌∙◌, arith}
use Rattle.std.specs.Int.{w128}
use Rattle.std.specs.Result.{IfOk, OnErr}
use Rattle.std.proofs.lemmas.Bool.{cond-false}
use Rattle.clvm_spec.specs.declared.costs.TheConstants.{RESULT_BYTE_COST, DIVISION_BYTE_COST, ATOM_OVERHEAD}
use Rattle.clvm_spec.specs.Tree.{Tree, Atom, Pair}
use Rattle.clvm_spec.specs.Numbers.{number, shortest_atom}
use Rattle.clvm_spec.specs.Arithmetic.{if_fits, is_zero, quotient, remainder}
use Rattle.clvm_spec.specs.Outcomes.{Applied, Gives, Fails, ZeroDivisor}
use Rattle.clvm_spec.specs.Operators.{two_numbers, unless_zero, or_wide, written_pair, new_pair_of_numbers, quotient_and_remainder}
use Rattle.clvm_tree.specs.Nodes.{tree_at, Grows, Adds}
use Rattle.clvm_tree.specs.declared.Node.{Node}
use Rattle.clvm_tree.proofs.NodeLaws.{grows_same, stays}
use Rattle.clvm_tree.proofs.HeldNumbers.{is_held}

pub pair_some : (cost : ℕ) (q r n d : ℤ) → Some q ≡ if_fits (quotient n d) → r ≡ remainder n d → FitsSigned w128 r
    → new_pair_of_numbers cost (quotient n d) (remainder n d) ≡ written_pair cost (shortest_atom q) (shortest_atom r)
pair_some cost q r n d quotient_is remainder_is held =
    ap (λ first. or_wide first (λ a. or_wide (if_fits (remainder n d)) (λ b. written_pair cost (shortest_atom a) (shortest_atom b)))) (sym quotient_is)
    ∙ ap (λ second. or_wide second (λ b. written_pair cost (shortest_atom q) (shortest_atom b))) (ap if_fits (sym remainder_is) ∙ is_held r held)

pub written_pair_is : (cost : ℕ) (a b : List ℕ) (m n : ℕ) → m ≡ length a → n ≡ length b → written_pair cost a b ≡ Gives (Pair (Atom a) (Atom b)) (cost + RESULT_BYTE_COST * (m + n)) 1 (m + n + 2 * ATOM_OVERHEAD)
written_pair_is cost a b m n first second =
    let costs : cost + RESULT_BYTE_COST * (length a + length b) ≡ cost + RESULT_BYTE_COST * (m + n) = omega arith in
    let bytes : (length a + ATOM_OVERHEAD) + (length b + ATOM_OVERHEAD) ≡ m + n + 2 * ATOM_OVERHEAD = omega arith in
    ap₂ (λ c k. Gives (Pair (Atom a) (Atom b)) c 1 k) costs bytes

pub division_is : (cost : ℕ) (operands : List Tree) (x y : List ℕ) (n d : ℤ) → ((go : List ℕ → List ℕ → Applied) → two_numbers operands go ≡ go x y) → n ≡ number x → d ≡ number y → is_zero d ≡ false
    → quotient_and_remainder cost operands ≡ new_pair_of_numbers (cost + DIVISION_BYTE_COST * (length x + length y)) (quotient n d) (remainder n d)
division_is cost operands x y n d read first second some =
    let costs = cost + DIVISION_BYTE_COST * (length x + length y) in
    read (λ a b. unless_zero (number b) (new_pair_of_numbers (cost + DIVISION_BYTE_COST * (length a + length b)) (quotient (number a) (number b)) (remainder (number a) (number b))))
    ∙ cond-false _ (Fails ZeroDivisor) (new_pair_of_numbers costs (quotient (number x) (number y)) (remainder (number x) (number y))) (ap is_zero (sym second) ∙ some)
    ∙ ap₂ (λ a b. new_pair_of_numbers costs (quotient a b) (remainder a b)) (sym first) (sym second)

-- two new nodes and their pair
paired : (old t u new : List Tree) (a b : Tree) (first second pair : ℕ) → Adds old t first a → Adds t u second b → Adds u new pair (Pair (tree_at u first) (tree_at u second)) → tree_at new pair ≡ Pair a b
paired old t u new a b first second pair adds_first adds_second adds_pair =
    adds_pair.stands ∙ ap₂ Pair (stays t u first adds_second.grows adds_first.known ∙ adds_first.stands) adds_second.stands

pub grows_either : {E : Type 0} (u new : List Tree) (tree : Tree) (result : Result Node E) → IfOk result (λ node. Adds u new node.0 tree) → OnErr result (new ≡ u) → Grows u new
grows_either u new tree (Ok node) adds same = adds.grows
grows_either u new tree (Err e) adds same = rw same (grows_same u)

pub paired_either : {E : Type 0} (old t u new : List Tree) (a b : Tree) (first second : ℕ) (result : Result Node E) → Adds old t first a → Adds t u second b
    → IfOk result (λ node. Adds u new node.0 (Pair (tree_at u first) (tree_at u second))) → IfOk result (λ node. tree_at new node.0 ≡ Pair a b)
paired_either old t u new a b first second (Ok node) adds_first adds_second adds = paired old t u new a b first second node.0 adds_first adds_second adds
paired_either old t u new a b first second (Err e) adds_first adds_second adds = tt
