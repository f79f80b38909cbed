-- How the parts of a body's answer come together.
use Rattle.std.proofs.Common.{◌≡◌, ℕ, ◌+◌, ◌≤◌, ℤ, Bool, true, false, cond, Some, None, Result, Ok, Err, List, length, FitsSigned, sym, ap, ◌∙◌, refl, arith}
use Rattle.std.specs.Int.{w128}
use Rattle.std.specs.Result.{IsErrAnd, IfOk, IfErr}
use Rattle.std.proofs.lemmas.Result.{err_from_is_err_and}
use Rattle.std.proofs.lemmas.Bool.{cond-true}
use Rattle.clvm_spec.specs.declared.fuel.Fuel.{Fuel}
use Rattle.clvm_spec.specs.Tree.{Tree, Atom}
use Rattle.clvm_spec.specs.Outcomes.{Applied, Gives, WithinFuel, Enough, Lacks}
use Rattle.clvm_spec.specs.Numbers.{shortest_atom}
use Rattle.clvm_spec.specs.Arithmetic.{fits_128, if_fits}
use Rattle.clvm_spec.specs.Operators.{or_wide, new_number, written}
use Rattle.clvm_spec.specs.OperatorTable.{applied, unless_lacking, within}
use Rattle.clvm_tree.specs.Nodes.{tree_at, IsKnown, Grows}
use Rattle.clvm_tree.specs.Operators.{IsWithin, IsOpFault}
use Rattle.clvm_tree.specs.declared.Node.{Node}
use Rattle.clvm_tree.specs.declared.operators.Answer.{Answer}
use Rattle.clvm_tree.specs.declared.operators.OpFault.{OpFault}
use Rattle.clvm_tree.specs.declared.operators.OpFault.TheVariants as fault
use Rattle.clvm_tree.proofs.OperatorLaws.{answers_law}
use Rattle.clvm_tree.proofs.NodeLaws.{grows_same}
use Rattle.clvm_tree.proofs.HeldNumbers.{is_held}
use Rattle.clvm_tree.specs.Operators.{KeepsNodes}
use Rattle.clvm_ops.specs.Answering.{Answers, Yields, IsGiven, IsCharged}
use Rattle.clvm_ops.specs.declared.application.Application.{Application}
use Rattle.clvm_ops.specs.declared.give.Charge.{Charge}

-- what is said of an error that `?` hands on
pub handed : {T E : Type 0} (Q : E → Type 0) (e : E) (result : Result T E) → IsErrAnd result (λ y. y ≡ e) → Q e → IfErr result Q
handed Q e result is q = let r = err_from_is_err_and result is in rw (r.1, r.2) q

-- within what is left, where that isn't asked yet
abbrev again : Fuel → WithinFuel → WithinFuel
again left (Enough applied) = within left applied
again left (Lacks which) = Lacks which

-- a fault stays what it is within what is left
pub still_faulty : (trees : List Tree) (left : Fuel) (applied : Applied) (f : OpFault) → IsOpFault trees (Enough applied) f → IsOpFault trees (within left applied) f
still_faulty trees left applied (fault.Operand place) e = ap (again left) e
still_faulty trees left applied fault.Count e = ap (again left) e
still_faulty trees left applied (fault.Raised node) e = record { known = e.known; raised = ap (again left) e.raised }
still_faulty trees left applied fault.ZeroDivisor e = ap (again left) e
still_faulty trees left applied fault.Shift e = ap (again left) e
still_faulty trees left applied fault.NoOperator e = ap (again left) e
still_faulty trees left applied fault.Wide e = ap (again left) e
still_faulty trees left applied (fault.Spent which) e = ap (again left) e
still_faulty trees left applied fault.OutOfMemory e = e

keeps_same : (trees : List Tree) (operands : ℕ) (f : OpFault) → KeepsNodes trees trees operands f
keeps_same trees operands (fault.Operand place) = refl
keeps_same trees operands fault.Count = refl
keeps_same trees operands (fault.Raised node) = omega arith
keeps_same trees operands fault.ZeroDivisor = refl
keeps_same trees operands fault.Shift = refl
keeps_same trees operands fault.NoOperator = refl
keeps_same trees operands fault.Wide = refl
keeps_same trees operands (fault.Spent which) = refl
keeps_same trees operands fault.OutOfMemory = tt

refused : (trees : List Tree) (it : Application) (applied : Applied) (f : OpFault) → IsOpFault trees (within it.left applied) f → Yields trees trees it applied (Err f)
refused trees it applied f is = record { grows = grows_same trees; few = omega arith; keeps = keeps_same trees (length it.operands.now) f; is = is }

pub refused_at_once : (trees : List Tree) (it : Application) (applied : Applied) (f : OpFault) → IsOpFault trees (Enough applied) f → Yields trees trees it applied (Err f)
refused_at_once trees it applied f is = refused trees it applied f (still_faulty trees it.left applied f is)

-- a fault that is handed on, where no node was added
pub spent : (trees : List Tree) (it : Application) (applied : Applied) (f : OpFault) (result : Result Answer OpFault) → IsErrAnd result (λ e. e ≡ f) → IsOpFault trees (within it.left applied) f → Yields trees trees it applied result
spent trees it applied f result handed is =
    let e = err_from_is_err_and result handed in
    rw (e.1, e.2) (refused trees it applied f is)

pub faulty : (trees : List Tree) (it : Application) (applied : Applied) (f : OpFault) (result : Result Answer OpFault) → IsErrAnd result (λ e. e ≡ f) → IsOpFault trees (Enough applied) f → Yields trees trees it applied result
faulty trees it applied f result handed is = spent trees it applied f result handed (still_faulty trees it.left applied f is)

pub fault_same : (trees : List Tree) (applied other : Applied) (f : OpFault) → applied ≡ other → IsOpFault trees (Enough other) f → IsOpFault trees (Enough applied) f
fault_same trees applied other f e is = rw e is

-- the answer of what is the same
pub answers_same : (old new : List Tree) (it : Application) (applied other : Applied) (result : Result Answer OpFault) → other ≡ applied → Yields old new it applied result → Yields old new it other result
answers_same old new it applied other result e answers = rw e answers

-- a new value that was charged
pub given_new : (old new : List Tree) (left : Fuel) (applied : Applied) (value : Tree) (cost pairs bytes : ℕ) (charge : Charge) (node : Node) (answer : Answer) → applied ≡ Gives value cost pairs bytes
    → IsCharged left cost pairs bytes charge → Grows old new → length new ≤ length old + pairs + bytes → IsKnown new node.0 → tree_at new node.0 ≡ value
    → answer ≡ record { value = node; cost = charge.cost; pairs = charge.pairs; bytes = charge.bytes } → IsGiven old new left applied answer
given_new old new left applied value cost pairs bytes charge node answer e charged grows few known stands is =
    let whole = ap (within left) e ∙ ap (λ l. unless_lacking l (Gives value cost pairs bytes)) charged.enough in
    let same : Gives value cost pairs bytes ≡ Gives (tree_at new node.0) charge.cost charge.pairs charge.bytes =
    ap (λ v. Gives v cost pairs bytes) (sym stands) ∙ ap (λ n. Gives (tree_at new node.0) n pairs bytes) (sym charged.cost_is)
    ∙ ap (λ n. Gives (tree_at new node.0) charge.cost n bytes) (sym charged.pairs_is) ∙ ap (λ n. Gives (tree_at new node.0) charge.cost charge.pairs n) (sym charged.bytes_is) in
    rw is (record {
      grows = grows;
      few = omega (arith, charged.pairs_is, charged.bytes_is);
      is = record { known = known; gives = whole ∙ ap Enough same };
    })

-- ---- numbers

pub new_number_held : (cost : ℕ) (n : ℤ) → FitsSigned w128 n → new_number cost n ≡ written cost (shortest_atom n)
new_number_held cost n h = ap (λ held. or_wide held (λ n. written cost (shortest_atom n))) (is_held n h)

-- It's asked once whether 128 bits hold a number.
asked_again : (fits : Bool) (n : ℤ) (go : ℤ → ℤ → Applied) → fits ≡ fits_128 n → or_wide (cond fits (Some n) None) (λ m. or_wide (if_fits m) (go m)) ≡ or_wide (cond fits (Some n) None) (go n)
asked_again true n go e = ap (λ held. or_wide held (go n)) (cond-true _ _ _ (sym e))
asked_again false n go e = refl

pub asked_once : (n : ℤ) (go : ℤ → ℤ → Applied) → or_wide (if_fits n) (λ m. or_wide (if_fits m) (go m)) ≡ or_wide (if_fits n) (go n)
asked_once n go = asked_again (fits_128 n) n go refl

-- what is given is within what is left
pub answer_within : (old new : List Tree) (operands : ℕ) (left : Fuel) (code : List ℕ) (trees : List Tree) (result : Result Answer OpFault) → Answers old new operands left (applied code trees) result
    → IfOk result (IsWithin left)
answer_within old new operands left code trees (Ok answer) is = answers_law new (Atom code) trees left answer is.is
answer_within old new operands left code trees (Err f) is = tt
