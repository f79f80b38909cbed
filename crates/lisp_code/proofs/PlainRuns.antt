-- The costed evaluation says nothing other than the plain one.
use Rattle.std.proofs.Common.{ℕ, zero, suc, Bool, true, false, cond, ltb, List, [], ◌∷◌, length, Option, Some, None, subst}
use Rattle.clvm_spec.specs.declared.fuel.Fuel.{Fuel}
use Rattle.clvm_spec.specs.declared.fuel.Which.{Which}
use Rattle.clvm_spec.specs.Tree.{Tree, Atom, Pair}
use Rattle.clvm_spec.specs.ProperList.{elements}
use Rattle.clvm_spec.specs.Path.{PathValue, Reached, Astray, path_value, path_cost}
use Rattle.clvm_spec.specs.Outcomes as run
use Rattle.clvm_spec.specs.Outcomes.{Outcome, Applied, Gives, Fails, TooWide, Enough}
use Rattle.clvm_spec.specs.OperatorTable.{applied, unless_lacking, within}
use Rattle.clvm_spec.specs.Evaluation.{if_done, charge, is_byte, at_path, Evaluator, goes_on, in_form, apply_values, values_of, is_too_deep, deeper, operator_form, evaluated_by, evaluated_within, evaluation}
use Rattle.clvm_spec.specs.Spending.{lack}
use Rattle.lisp_spec.specs.Meaning.{Meaning, Value, Failed, Wide, if_value, run_meaning, operator_meaning}
use Rattle.lisp_code.proofs.Refining.{Refines, out, same}
use Rattle.lisp_code.proofs.Plain.{Runs, path_meaning, plain_run, plain_apply, plain_values, plain_form, plain_by, plain}
use Rattle.lisp_code.proofs.Refined.{settled}

-- A run says at most this.
AtMost : (Fuel → Outcome) → Meaning → Type 0
AtMost run m = (fuel : Fuel) → Refines (run_meaning (run fuel)) m

either_outcome : (b : Bool) (x y : Outcome) (m : Meaning) → Refines (run_meaning x) m → Refines (run_meaning y) m → Refines (run_meaning (cond b x y)) m
either_outcome true x y m p q = p
either_outcome false x y m p q = q

most_charge : (cost : ℕ) (go : Fuel → Outcome) (m : Meaning) → AtMost go m → AtMost (λ fuel. charge cost fuel go) m
unfolding AtMost
most_charge cost go m p fuel = either_outcome (ltb fuel.cost cost) _ _ m (out m) (p _)

most_deeper : (operands : List Tree) (depth : ℕ) (go : Fuel → Outcome) (m : Meaning) → AtMost go m → AtMost (λ fuel. deeper operands depth fuel go) m
unfolding AtMost
most_deeper operands depth go m p fuel = either_outcome (is_too_deep (length operands) depth fuel.depth) _ _ m (out m) (p fuel)

most_then : (o : Outcome) (m : Meaning) (go : Tree → Fuel → Outcome) (go' : Tree → Meaning) → Refines (run_meaning o) m → ((v : Tree) → AtMost (go v) (go' v)) → Refines (run_meaning (if_done o go)) (if_value m go')
unfolding AtMost
most_then (run.Done v left) m go go' r p = subst (λ m. Refines (run_meaning (go v left)) (if_value m go')) (settled (Value v) m r (λ e. cc)) (p v left)
most_then (run.Failed why form) m go go' r p = subst (λ m. Refines Failed (if_value m go')) (settled Failed m r (λ e. cc)) (same Failed)
most_then (run.Spent which) m go go' r p = out _
most_then run.Wide m go go' r p = subst (λ m. Refines Wide (if_value m go')) (settled Wide m r (λ e. cc)) (same Wide)

most_values : (value : Tree → Fuel → Outcome) (value' : Tree → Meaning) → ((operand : Tree) → AtMost (value operand) (value' operand)) →
    (operands : List Tree) (go : List Tree → Fuel → Outcome) (go' : List Tree → Meaning) → ((values : List Tree) → AtMost (go values) (go' values)) →
    AtMost (λ fuel. values_of value operands fuel go) (plain_values value' operands go')
unfolding AtMost
most_values value value' p [] go go' q = q []
most_values value value' p (operand ∷ operands) go go' q =
    most_values value value' p operands (λ values fuel. if_done (value operand fuel) (λ v last. go (v ∷ values) last)) (λ values. if_value (value' operand) (λ v. go' (v ∷ values)))
    (λ values fuel. most_then (value operand fuel) (value' operand) (λ v. go (v ∷ values)) (λ v. go' (v ∷ values)) (p operand fuel) (λ v. q (v ∷ values)))

unless_lacking_says : (form : Tree) (a : Applied) (m : Meaning) (fuel : Fuel) (l : Option Which) → Refines (run_meaning (in_form form fuel (Enough a))) m → Refines (run_meaning (in_form form fuel (unless_lacking l a))) m
unless_lacking_says form a m fuel None r = r
unless_lacking_says form a m fuel (Some which) r = out m

most_operator : (form : Tree) (a : Applied) → AtMost (λ fuel. in_form form fuel (within fuel a)) (operator_meaning a)
unfolding AtMost
most_operator form (Gives value cost pairs bytes) fuel =
    unless_lacking_says form (Gives value cost pairs bytes) (Value value) fuel (lack (record { cost = cost; pairs = pairs; bytes = bytes }) fuel) (same (Value value))
most_operator form (Fails why) fuel = same Failed
most_operator form TooWide fuel = same Wide

most_path : (path : List ℕ) (found : PathValue) → AtMost (at_path path found) (path_meaning found)
unfolding AtMost
most_path path (Reached value steps) = most_charge (path_cost path steps) (run.Done value) (Value value) (λ fuel. same (Value value))
most_path path Astray = λ fuel. same Failed

most_choice : (b : Bool) (x y : Fuel → Outcome) (m m' : Meaning) → AtMost x m → AtMost y m' → AtMost (λ fuel. cond b (x fuel) (y fuel)) (cond b m m')
unfolding AtMost
most_choice true x y m m' p q = p
most_choice false x y m m' p q = q

module _ (evaluate : Evaluator) (runs : Runs) (most : (program env : Tree) (depth : ℕ) → AtMost (evaluate program env depth) (runs program env)) where
  most_goes_on : (form : Tree) (depth : ℕ) (values : List Tree) → AtMost (goes_on evaluate form depth values) (plain_run runs values)
  unfolding AtMost
  most_goes_on form depth [] fuel = same Failed
  most_goes_on form depth (program ∷ []) fuel = same Failed
  most_goes_on form depth (program ∷ env ∷ []) fuel = most_charge 90 (evaluate program env depth) (runs program env) (most program env depth) fuel
  most_goes_on form depth (program ∷ env ∷ c ∷ more) fuel = same Failed

  most_apply : (code : List ℕ) (form : Tree) (depth : ℕ) (values : List Tree) → AtMost (apply_values evaluate code form depth values) (plain_apply runs code values)
  most_apply code form depth values = most_choice (is_byte 2 code) _ _ _ _ (most_goes_on form depth values) (most_operator form (applied code values))

  most_form : (code : List ℕ) (form env : Tree) (depth : ℕ) (operands : Option (List Tree)) → AtMost (operator_form evaluate code form env depth operands) (plain_form runs code env operands)
  unfolding AtMost
  most_form code form env depth None fuel = same Failed
  most_form code form env depth (Some operands) fuel =
      most_charge 1 _ _ (most_deeper operands depth _ _ (most_values (λ operand. evaluate operand env (suc depth)) (λ operand. runs operand env) (λ operand. most operand env (suc depth)) operands _ _ (most_apply code form depth))) fuel

  most_by : (program env : Tree) (depth : ℕ) → AtMost (evaluated_by evaluate program env depth) (plain_by runs program env)
  unfolding AtMost
  most_by (Atom path) env depth fuel = most_path path (path_value path env) fuel
  most_by (Pair (Pair a b) rest) env depth fuel = same Failed
  most_by (Pair (Atom code) rest) env depth fuel =
      most_choice (is_byte 1 code) (λ fuel. charge 20 fuel (run.Done rest)) _ (Value rest) _ (most_charge 20 (run.Done rest) (Value rest) (λ fuel. same (Value rest))) (most_form code (Pair (Atom code) rest) env depth (elements rest)) fuel

most_within : (n : ℕ) (program env : Tree) (depth : ℕ) → AtMost (evaluated_within n program env depth) (plain n program env)
unfolding AtMost
most_within zero program env depth fuel = out _
most_within (suc n) program env depth fuel = most_by (evaluated_within n) (plain n) (most_within n) program env depth fuel

pub plain_covers_runs : (program env : Tree) (depth : ℕ) (fuel : Fuel) → Refines (run_meaning (evaluation program env depth fuel)) (plain (suc fuel.cost) program env)
unfolding AtMost evaluation
plain_covers_runs program env depth fuel = most_within (suc fuel.cost) program env depth fuel
