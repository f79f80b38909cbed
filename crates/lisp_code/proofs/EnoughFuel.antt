-- Enough fuel lets a run end as the plain evaluation does.
use Rattle.std.proofs.Common.{◌≡◌, ℕ, zero, suc, ◌+◌, ◌-◌, ◌<◌, ◌≤◌, Bool, true, false, cond, ltb, nat_lt, nat_le, List, [], ◌∷◌, length, Option, Some, None, refl, sym, subst, arith}
use Rattle.std.proofs.lemmas.Bool.{and_right, cond-false, le-ltb}
use Rattle.std.proofs.lemmas.Bool.Decides.{nat_tests}
use Rattle.clvm_spec.specs.declared.fuel.Fuel.{Fuel}
use Rattle.clvm_spec.specs.Tree.{Tree, Atom, Pair}
use Rattle.clvm_spec.specs.ProperList.{elements}
use Rattle.clvm_spec.specs.Path.{PathValue, Reached, Astray, path_value, path_cost}
use Rattle.clvm_spec.specs.Outcomes as run
use Rattle.clvm_spec.specs.Outcomes.{Outcome, Applied, Gives, Fails, TooWide, NoStep, NotAList, WrongCount, NoOperator}
use Rattle.clvm_spec.specs.OperatorTable.{applied, unless_lacking, within}
use Rattle.clvm_spec.specs.Evaluation.{if_done, charge, is_byte, at_path, Evaluator, goes_on, in_form, apply_values, values_of, is_too_deep, deeper, operator_form, evaluated_by, evaluation}
use Rattle.clvm_spec.specs.Spending.{Spending, fuel_less}
use Rattle.clvm_spec.specs.FuelLaws.{IsAtLeast}
use Rattle.clvm_spec.proofs.SpendingLaws.{Covers, covered}
use Rattle.clvm_spec.proofs.Steps.{one_step_law}
use Rattle.lisp_spec.specs.Meaning.{Meaning, Value, Failed, Wide, Out, if_value, operator_meaning}
use Rattle.lisp_code.proofs.Plain.{Runs, path_meaning, plain_run, plain_apply, plain_values, plain_form, plain_by, plain}
use Rattle.lisp_code.proofs.Enough.{Reaches, value, failed, wide, out, Enough, FuelIsEnough}

abbrev spends : ℕ → ℕ → ℕ → Spending
spends cost pairs bytes = record { cost = cost; pairs = pairs; bytes = bytes }

abbrev both : Spending → Spending → Spending
both a b = spends (a.cost + b.cost) (a.pairs + b.pairs) (a.bytes + b.bytes)

enough_out : (run : ℕ → Fuel → Outcome) → Enough Out run
enough_out run = record { need = spends 0 0 0; deep = 0; holds = λ depth fuel s d. out (run depth fuel) }

enough_done : (v : Tree) → Enough (Value v) (λ depth. run.Done v)
enough_done v = record { need = spends 0 0 0; deep = 0; holds = λ depth fuel s d. value v fuel (record { cost = omega arith; pairs = omega arith; bytes = omega arith; depth = omega arith }) }

enough_failed : (why : run.Why) (form : Tree) → Enough Failed (λ depth fuel. run.Failed why form)
enough_failed why form = record { need = spends 0 0 0; deep = 0; holds = λ depth fuel s d. failed why form }

enough_same : (m : Meaning) (x y : ℕ → Fuel → Outcome) → ((depth : ℕ) (fuel : Fuel) → x depth fuel ≡ y depth fuel) → Enough m x → Enough m y
enough_same m x y same e = record { need = e.need; deep = e.deep; holds = λ depth fuel s d. subst (Reaches e.need fuel m) (same depth fuel) (e.holds depth fuel s d) }

enough_deeper : (m : Meaning) (x : ℕ → Fuel → Outcome) → Enough m x → Enough m (λ depth. x (suc depth))
enough_deeper m x e = record { need = e.need; deep = suc e.deep; holds = λ depth fuel s d. e.holds (suc depth) fuel s (omega arith) }

-- what is left after one part, and then after another
reaches_later : (a b : Spending) (fuel left : Fuel) (m : Meaning) (o : Outcome) → IsAtLeast left (fuel_less a fuel) → Reaches b left m o → Reaches (both a b) fuel m o
reaches_later a b fuel left m o h (value v last k) =
    let hc = h.cost in let hp = h.pairs in let hb = h.bytes in let hd = h.depth in let kc = k.cost in let kp = k.pairs in let kb = k.bytes in let kd = k.depth in
    value v last (record { cost = omega arith; pairs = omega arith; bytes = omega arith; depth = omega arith })
reaches_later a b fuel left m o h (failed why form) = failed why form
reaches_later a b fuel left m o h wide = wide
reaches_later a b fuel left m o h (out o') = out o'

enough_charge : (cost : ℕ) (m : Meaning) (go : ℕ → Fuel → Outcome) → Enough m go → Enough m (λ depth fuel. charge cost fuel (go depth))
enough_charge cost m go e = record {
  need = both (spends cost 0 0) e.need;
  deep = e.deep;
  holds = λ depth fuel s d.
      let c = s.cost in let p = s.pairs in let b = s.bytes in
      let left : Fuel = record fuel { cost = fuel.cost - cost } in
      subst (Reaches (both (spends cost 0 0) e.need) fuel m) (sym (cond-false (ltb fuel.cost cost) _ _ (le-ltb fuel.cost cost (omega arith))))
      (reaches_later (spends cost 0 0) e.need fuel left m (go depth left) (record { cost = omega arith; pairs = omega arith; bytes = omega arith; depth = omega arith })
      (e.holds depth left (record { cost = omega arith; pairs = omega arith; bytes = omega arith }) d));
}

below_limit : (count depth limit : ℕ) → depth < limit → is_too_deep count depth limit ≡ false
below_limit count depth limit h = and_right (nat_lt 0 count) (nat_le limit depth) (grind (arith, nat_tests))

enough_when_deeper : (operands : List Tree) (m : Meaning) (go : ℕ → Fuel → Outcome) → Enough m go → Enough m (λ depth fuel. deeper operands depth fuel (go depth))
enough_when_deeper operands m go e = record {
  need = e.need;
  deep = suc e.deep;
  holds = λ depth fuel s d.
      subst (Reaches e.need fuel m) (sym (cond-false (is_too_deep (length operands) depth fuel.depth) _ _ (below_limit (length operands) depth fuel.depth (omega arith))))
      (e.holds depth fuel s (omega arith));
}

-- one after another
reaches_then : (a b : Spending) (deep : ℕ) (depth : ℕ) (fuel : Fuel) (v : Tree) (o : Outcome) (go : Tree → Fuel → Outcome) (m : Meaning) →
    ((left : Fuel) → Covers left b → depth + deep ≤ left.depth → Reaches b left m (go v left)) →
    Covers fuel (both a b) → depth + deep ≤ fuel.depth → (w : Meaning) → w ≡ Value v → Reaches a fuel w o → Reaches (both a b) fuel m (if_done o go)
reaches_then a b deep depth fuel v o go m next s d w e (value u left h) =
    let same : u ≡ v = cc in
    let c = s.cost in let p = s.pairs in let y = s.bytes in let hc = h.cost in let hp = h.pairs in let hb = h.bytes in let hd = h.depth in
    reaches_later a b fuel left m (go u left) h (subst (λ u. Reaches b left m (go u left)) (sym same)
    (next left (record { cost = omega arith; pairs = omega arith; bytes = omega arith }) (omega arith)))
reaches_then a b deep depth fuel v o go m next s d w e (failed why form) = cc
reaches_then a b deep depth fuel v o go m next s d w e wide = cc
reaches_then a b deep depth fuel v o go m next s d w e (out o') = cc

reaches_failed : (need : Spending) (fuel : Fuel) (w : Meaning) (o : Outcome) (go : Tree → Fuel → Outcome) → w ≡ Failed → Reaches need fuel w o → Reaches need fuel Failed (if_done o go)
reaches_failed need fuel w o go e (value u left h) = cc
reaches_failed need fuel w o go e (failed why form) = failed why form
reaches_failed need fuel w o go e wide = cc
reaches_failed need fuel w o go e (out o') = cc

reaches_wide : (need : Spending) (fuel : Fuel) (w : Meaning) (o : Outcome) (go : Tree → Fuel → Outcome) → w ≡ Wide → Reaches need fuel w o → Reaches need fuel Wide (if_done o go)
reaches_wide need fuel w o go e (value u left h) = cc
reaches_wide need fuel w o go e (failed why form) = cc
reaches_wide need fuel w o go e wide = wide
reaches_wide need fuel w o go e (out o') = cc

enough_then : (m : Meaning) (x : ℕ → Fuel → Outcome) (go' : Tree → Meaning) (go : Tree → ℕ → Fuel → Outcome) → Enough m x → ((v : Tree) → Enough (go' v) (go v)) →
    Enough (if_value m go') (λ depth fuel. if_done (x depth fuel) (λ v. go v depth))
enough_then (Value v) x go' go e then_e = let k = then_e v in record {
  need = both e.need k.need;
  deep = e.deep + k.deep;
  holds = λ depth fuel s d.
      let c = s.cost in let p = s.pairs in let b = s.bytes in
      reaches_then e.need k.need k.deep depth fuel v (x depth fuel) (λ v. go v depth) (go' v) (k.holds depth) s (omega arith) (Value v) refl
      (e.holds depth fuel (record { cost = omega arith; pairs = omega arith; bytes = omega arith }) (omega arith));
}
enough_then Failed x go' go e then_e = record { need = e.need; deep = e.deep; holds = λ depth fuel s d. reaches_failed e.need fuel Failed (x depth fuel) (λ v. go v depth) refl (e.holds depth fuel s d) }
enough_then Wide x go' go e then_e = record { need = e.need; deep = e.deep; holds = λ depth fuel s d. reaches_wide e.need fuel Wide (x depth fuel) (λ v. go v depth) refl (e.holds depth fuel s d) }
enough_then Out x go' go e then_e = enough_out _

enough_values : (x : Tree → ℕ → Fuel → Outcome) (x' : Tree → Meaning) → ((operand : Tree) → Enough (x' operand) (x operand)) →
    (operands : List Tree) (go : List Tree → ℕ → Fuel → Outcome) (go' : List Tree → Meaning) → ((values : List Tree) → Enough (go' values) (go values)) →
    Enough (plain_values x' operands go') (λ depth fuel. values_of (λ operand. x operand depth) operands fuel (λ values. go values depth))
enough_values x x' p [] go go' q = q []
enough_values x x' p (operand ∷ operands) go go' q =
    enough_values x x' p operands (λ values depth fuel. if_done (x operand depth fuel) (λ v last. go (v ∷ values) depth last)) (λ values. if_value (x' operand) (λ v. go' (v ∷ values)))
    (λ values. enough_then (x' operand) (x operand) (λ v. go' (v ∷ values)) (λ v. go (v ∷ values)) (p operand) (λ v. q (v ∷ values)))

enough_operator : (form : Tree) (a : Applied) → Enough (operator_meaning a) (λ depth fuel. in_form form fuel (within fuel a))
enough_operator form (Gives v cost pairs bytes) = record {
  need = spends cost pairs bytes;
  deep = 0;
  holds = λ depth fuel s d.
      subst (λ l. Reaches (spends cost pairs bytes) fuel (Value v) (in_form form fuel (unless_lacking l (Gives v cost pairs bytes)))) (sym (covered fuel (spends cost pairs bytes) s))
      (value v _ (record { cost = omega arith; pairs = omega arith; bytes = omega arith; depth = omega arith }));
}
enough_operator form (Fails why) = enough_failed why form
enough_operator form TooWide = record { need = spends 0 0 0; deep = 0; holds = λ depth fuel s d. wide }

enough_path : (path : List ℕ) (found : PathValue) → Enough (path_meaning found) (λ depth. at_path path found)
enough_path path (Reached v steps) = enough_charge (path_cost path steps) (Value v) (λ depth. run.Done v) (enough_done v)
enough_path path Astray = enough_failed NoStep (Atom path)

enough_choice : (b : Bool) (m m' : Meaning) (x y : ℕ → Fuel → Outcome) → Enough m x → Enough m' y → Enough (cond b m m') (λ depth fuel. cond b (x depth fuel) (y depth fuel))
enough_choice true m m' x y p q = p
enough_choice false m m' x y p q = q

module _ (runs : Runs) (evaluate : Evaluator) (enough : (program env : Tree) → Enough (runs program env) (evaluate program env)) where
  enough_goes_on : (form : Tree) (values : List Tree) → Enough (plain_run runs values) (λ depth. goes_on evaluate form depth values)
  enough_goes_on form [] = enough_failed WrongCount form
  enough_goes_on form (program ∷ []) = enough_failed WrongCount form
  enough_goes_on form (program ∷ env ∷ []) = enough_charge 90 (runs program env) (evaluate program env) (enough program env)
  enough_goes_on form (program ∷ env ∷ c ∷ more) = enough_failed WrongCount form

  enough_apply : (code : List ℕ) (form : Tree) (values : List Tree) → Enough (plain_apply runs code values) (λ depth. apply_values evaluate code form depth values)
  enough_apply code form values = enough_choice (is_byte 2 code) _ _ _ _ (enough_goes_on form values) (enough_operator form (applied code values))

  enough_form : (code : List ℕ) (form env : Tree) (operands : Option (List Tree)) → Enough (plain_form runs code env operands) (λ depth. operator_form evaluate code form env depth operands)
  enough_form code form env None = enough_failed NotAList form
  enough_form code form env (Some operands) =
      enough_charge 1 _ _ (enough_when_deeper operands _ _
      (enough_values (λ operand depth. evaluate operand env (suc depth)) (λ operand. runs operand env) (λ operand. enough_deeper (runs operand env) (evaluate operand env) (enough operand env)) operands
      (λ values depth. apply_values evaluate code form depth values) (plain_apply runs code) (enough_apply code form)))

  enough_by : (program env : Tree) → Enough (plain_by runs program env) (evaluated_by evaluate program env)
  enough_by (Atom path) env = enough_path path (path_value path env)
  enough_by (Pair (Pair a b) rest) env = enough_failed NoOperator (Pair (Pair a b) rest)
  enough_by (Pair (Atom code) rest) env =
      enough_choice (is_byte 1 code) (Value rest) _ _ _ (enough_charge 20 (Value rest) (λ depth. run.Done rest) (enough_done rest)) (enough_form code (Pair (Atom code) rest) env (elements rest))

pub fuel_is_enough : FuelIsEnough
fuel_is_enough zero program env = enough_out _
fuel_is_enough (suc n) program env =
    enough_same (plain (suc n) program env) (evaluated_by evaluation program env) (evaluation program env) (λ depth fuel. sym (one_step_law program env depth fuel)) (enough_by (plain n) evaluation (fuel_is_enough n) program env)
