-- What a run makes of its fuel, along the definition of evaluation: the laws on fuel but the bound on steps.
use Rattle.std.proofs.Common.{◌≡◌, ℕ, zero, suc, ◌+◌, ◌-◌, ◌<◌, ◌≤◌, Bool, true, false, cond, ltb, nat_lt, nat_le, ⊎_elim, List, [], ◌∷◌, length, Option, Some, None, refl, sym, ap, ◌∙◌, subst, arith}
use Rattle.std.proofs.lemmas.Bool.{and_cases, and_left, and_right, ltb-false, le-ltb, cond-false, cond_both}
use Rattle.std.proofs.lemmas.Bool.Decides.{nat_tests}
use Rattle.clvm_spec.specs.declared.fuel.Fuel.{Fuel}
use Rattle.clvm_spec.specs.declared.fuel.Which.{Which}
use Rattle.clvm_spec.specs.declared.fuel.Which.TheVariants.{Cost, Depth}
use Rattle.clvm_spec.specs.Tree.{Tree, Atom, Pair, nil}
use Rattle.clvm_spec.specs.ProperList.{elements}
use Rattle.clvm_spec.specs.Path.{PathValue, Reached, Astray, path_value, path_cost}
use Rattle.clvm_spec.specs.Outcomes.{Why, NoOperator, WrongCount, NotAList, NoStep, Applied, Gives, Fails, TooWide, Enough, Outcome, Done, Failed, Spent, Wide}
use Rattle.clvm_spec.specs.declared.op_codes.TheConstants.{QUOTE}
use Rattle.clvm_spec.specs.declared.costs.TheConstants.{QUOTE_COST, APPLY_COST}
use Rattle.clvm_spec.specs.OperatorTable.{applied, unless_lacking, within}
use Rattle.clvm_spec.specs.Evaluation.{if_done, charge, is_byte, at_path, Evaluator, goes_on, in_form, apply_values, values_of, is_too_deep, deeper, operator_form, evaluated_by, evaluated_within}
use Rattle.clvm_spec.specs.Spending.{Spending, lack, fuel_less}
use Rattle.clvm_spec.specs.FuelLaws.{IsAtLeast}
use Rattle.clvm_spec.proofs.SpendingLaws.{Covers, covers, covered}

-- an outcome with this fuel, and what it is with other fuel
pub data Kept (run : Fuel → Outcome) (fuel : Fuel) : Outcome → Type 0 where
  done : (value : Tree) (spending : Spending) → Covers fuel spending → ((other : Fuel) → Covers other spending → fuel.depth ≤ other.depth → run other ≡ Done value (fuel_less spending other)) → Kept run fuel (Done value (fuel_less spending fuel))
  failed : (why : Why) (form : Tree) → ((more : Fuel) → IsAtLeast more fuel → run more ≡ Failed why form) → Kept run fuel (Failed why form)
  spent : (which : Which) → Kept run fuel (Spent which)
  wide : ((more : Fuel) → IsAtLeast more fuel → run more ≡ Wide) → Kept run fuel Wide

abbrev pub IsSteady : (Fuel → Outcome) → Type 0
IsSteady run = (fuel : Fuel) → Kept run fuel (run fuel)

-- ---- uses

abbrev no_spending : Spending
no_spending = record { cost = 0; pairs = 0; bytes = 0 }

abbrev both : Spending → Spending → Spending
both a b = record { cost = a.cost + b.cost; pairs = a.pairs + b.pairs; bytes = a.bytes + b.bytes }

same_fuel : (a b : Fuel) → a.cost ≡ b.cost → a.pairs ≡ b.pairs → a.bytes ≡ b.bytes → a.depth ≡ b.depth → a ≡ b
same_fuel a b c p y d i = record { cost = c i; pairs = p i; bytes = y i; depth = d i }

fuel_less-both : (a b : Spending) (fuel : Fuel) → fuel_less b (fuel_less a fuel) ≡ fuel_less (both a b) fuel
fuel_less-both a b fuel = same_fuel _ _ (omega arith) (omega arith) (omega arith) refl

fuel_less-no_spending : (fuel : Fuel) → fuel_less no_spending fuel ≡ fuel
fuel_less-no_spending fuel = same_fuel _ _ (omega arith) (omega arith) (omega arith) refl

covers_both : (a b : Spending) (fuel : Fuel) → Covers fuel a → Covers (fuel_less a fuel) b → Covers fuel (both a b)
covers_both a b fuel h k = let hc = h.cost in let kc = k.cost in let hp = h.pairs in let kp = k.pairs in let hb = h.bytes in let kb = k.bytes in
    record { cost = omega arith; pairs = omega arith; bytes = omega arith }

covers_first : (a b : Spending) (fuel : Fuel) → Covers fuel (both a b) → Covers fuel a
covers_first a b fuel h = let c = h.cost in let p = h.pairs in let y = h.bytes in record { cost = omega arith; pairs = omega arith; bytes = omega arith }

covers_second : (a b : Spending) (fuel : Fuel) → Covers fuel (both a b) → Covers (fuel_less a fuel) b
covers_second a b fuel h = let c = h.cost in let p = h.pairs in let y = h.bytes in record { cost = omega arith; pairs = omega arith; bytes = omega arith }

covers_more : (spending : Spending) (fuel more : Fuel) → Covers fuel spending → IsAtLeast more fuel → Covers more spending
covers_more spending fuel more h m = record { cost = omega arith; pairs = omega arith; bytes = omega arith }

at_least_less : (spending : Spending) (fuel more : Fuel) → IsAtLeast more fuel → IsAtLeast (fuel_less spending more) (fuel_less spending fuel)
at_least_less spending fuel more m = record { cost = omega arith; pairs = omega arith; bytes = omega arith; depth = m.depth }

-- ---- one after another

module _ (run : Fuel → Outcome) (go : Tree → Fuel → Outcome) where
  abbrev then_run : Fuel → Outcome
  then_run fuel = if_done (run fuel) go

  second : (fuel : Fuel) (value : Tree) (spending : Spending) → Covers fuel spending → ((other : Fuel) → Covers other spending → fuel.depth ≤ other.depth → run other ≡ Done value (fuel_less spending other)) → (o : Outcome) → Kept (go value) (fuel_less spending fuel) o → Kept then_run fuel o
  second fuel value spending h all o (done w later h2 all2) =
      subst (λ (l : Fuel). Kept then_run fuel (Done w l)) (sym (fuel_less-both spending later fuel))
      (done w (both spending later) (covers_both spending later fuel h h2)
      (λ other s d. ap (λ o. if_done o go) (all other (covers_first spending later other s) d) ∙ all2 (fuel_less spending other) (covers_second spending later other s) d ∙ ap (λ l. Done w l) (fuel_less-both spending later other)))
  second fuel value spending h all o (failed why form k) =
      failed why form (λ more m. ap (λ o. if_done o go) (all more (covers_more spending fuel more h m) m.depth) ∙ k (fuel_less spending more) (at_least_less spending fuel more m))
  second fuel value spending h all o (spent which) = spent which
  second fuel value spending h all o (wide k) =
      wide (λ more m. ap (λ o. if_done o go) (all more (covers_more spending fuel more h m) m.depth) ∙ k (fuel_less spending more) (at_least_less spending fuel more m))

  first_then : ((value : Tree) → IsSteady (go value)) → (fuel : Fuel) (o : Outcome) → Kept run fuel o → Kept then_run fuel (if_done o go)
  first_then steady fuel o (done value spending h all) = second fuel value spending h all (go value (fuel_less spending fuel)) (steady value (fuel_less spending fuel))
  first_then steady fuel o (failed why form k) = failed why form (λ more m. ap (λ o. if_done o go) (k more m))
  first_then steady fuel o (spent which) = spent which
  first_then steady fuel o (wide k) = wide (λ more m. ap (λ o. if_done o go) (k more m))

  pub steady_then : IsSteady run → ((value : Tree) → IsSteady (go value)) → IsSteady then_run
  steady_then p q fuel = first_then q fuel (run fuel) (p fuel)

-- ---- the steps that look at fuel

pays : ℕ → Fuel → Outcome
pays cost fuel = cond (ltb fuel.cost cost) (Spent Cost) (Done nil (record fuel { cost = fuel.cost - cost }))

may_go_deeper : (count depth : ℕ) → Fuel → Outcome
may_go_deeper count depth fuel = cond (is_too_deep count depth fuel.depth) (Spent Depth) (Done nil fuel)

paid_is : (cost : ℕ) (fuel : Fuel) → record fuel { cost = fuel.cost - cost } ≡ fuel_less (record { cost = cost; pairs = 0; bytes = 0 }) fuel
paid_is cost fuel = same_fuel _ _ refl (omega arith) (omega arith) refl

steady_pays : (cost : ℕ) → IsSteady (pays cost)
unfolding pays
steady_pays cost fuel =
    cond_both (ltb fuel.cost cost) (Spent Cost) (Done nil (record fuel { cost = fuel.cost - cost })) (λ o. Kept (pays cost) fuel o)
    (λ e. spent Cost)
    (λ e. subst (λ (l : Fuel). Kept (pays cost) fuel (Done nil l)) (sym (paid_is cost fuel))
    (done nil (record { cost = cost; pairs = 0; bytes = 0 })
    (let h = ltb-false fuel.cost cost e in record { cost = h; pairs = omega arith; bytes = omega arith })
    (λ other s d. cond-false (ltb other.cost cost) _ _ (le-ltb other.cost cost s.cost) ∙ ap (λ l. Done nil l) (paid_is cost other))))

above_limit : (depth limit more : ℕ) → limit ≤ more → nat_le limit depth ≡ false → nat_le more depth ≡ false
above_limit depth limit more h e = let below : depth < limit = grind (arith, nat_tests) in grind (arith, nat_tests)

-- A higher limit isn't met before a lower one.
deep_no_more : (count depth limit more : ℕ) → limit ≤ more → is_too_deep count depth limit ≡ false → is_too_deep count depth more ≡ false
deep_no_more count depth limit more h e =
    ⊎_elim (λ (none : nat_lt 0 count ≡ false). and_left (nat_lt 0 count) (nat_le more depth) none)
    (λ (below : nat_le limit depth ≡ false). and_right (nat_lt 0 count) (nat_le more depth) (above_limit depth limit more h below))
    (and_cases (nat_lt 0 count) (nat_le limit depth) e)

steady_may_go_deeper : (count depth : ℕ) → IsSteady (may_go_deeper count depth)
unfolding may_go_deeper
steady_may_go_deeper count depth fuel =
    cond_both (is_too_deep count depth fuel.depth) (Spent Depth) (Done nil fuel) (λ o. Kept (may_go_deeper count depth) fuel o)
    (λ e. spent Depth)
    (λ e. subst (λ (l : Fuel). Kept (may_go_deeper count depth) fuel (Done nil l)) (fuel_less-no_spending fuel)
    (done nil no_spending (record { cost = omega arith; pairs = omega arith; bytes = omega arith })
    (λ other s d. cond-false (is_too_deep count depth other.depth) _ _ (deep_no_more count depth fuel.depth other.depth d e) ∙ ap (λ l. Done nil l) (sym (fuel_less-no_spending other)))))

same_steady : (run other : Fuel → Outcome) → ((fuel : Fuel) → run fuel ≡ other fuel) → IsSteady run → IsSteady other
same_steady run other same p = let e : run ≡ other = λ i fuel. same fuel i in subst IsSteady e p

if_done-cond : (b : Bool) (x y : Outcome) (go : Tree → Fuel → Outcome) → if_done (cond b x y) go ≡ cond b (if_done x go) (if_done y go)
if_done-cond true x y go = refl
if_done-cond false x y go = refl

steady_charge : (cost : ℕ) (go : Fuel → Outcome) → IsSteady go → IsSteady (λ fuel. charge cost fuel go)
unfolding pays
steady_charge cost go p =
    same_steady _ _ (λ fuel. if_done-cond (ltb fuel.cost cost) _ _ (λ v. go))
    (steady_then (pays cost) (λ v. go) (steady_pays cost) (λ v. p))

steady_deeper : (operands : List Tree) (depth : ℕ) (go : Fuel → Outcome) → IsSteady go → IsSteady (λ fuel. deeper operands depth fuel go)
unfolding may_go_deeper
steady_deeper operands depth go p =
    same_steady _ _ (λ fuel. if_done-cond (is_too_deep (length operands) depth fuel.depth) _ _ (λ v. go))
    (steady_then (may_go_deeper (length operands) depth) (λ v. go) (steady_may_go_deeper (length operands) depth) (λ v. p))

-- ---- what takes no account of fuel

steady_done : (value : Tree) → IsSteady (Done value)
steady_done value fuel =
    subst (λ (l : Fuel). Kept (Done value) fuel (Done value l)) (fuel_less-no_spending fuel)
    (done value no_spending (record { cost = omega arith; pairs = omega arith; bytes = omega arith }) (λ other s d. ap (λ l. Done value l) (sym (fuel_less-no_spending other))))

steady_failed : (why : Why) (form : Tree) → IsSteady (λ fuel. Failed why form)
steady_failed why form fuel = failed why form (λ more m. refl)

-- ---- an operator

in_form-value : (form : Tree) (value : Tree) (cost pairs bytes : ℕ) → Fuel → Outcome
in_form-value form value cost pairs bytes fuel = in_form form fuel (within fuel (Gives value cost pairs bytes))

enough : (form value : Tree) (cost pairs bytes : ℕ) (fuel : Fuel) → Covers fuel (record { cost = cost; pairs = pairs; bytes = bytes }) → in_form-value form value cost pairs bytes fuel ≡ Done value (fuel_less (record { cost = cost; pairs = pairs; bytes = bytes }) fuel)
unfolding in_form-value
enough form value cost pairs bytes fuel s =
    ap (λ l. in_form form fuel (unless_lacking l (Gives value cost pairs bytes))) (covered fuel (record { cost = cost; pairs = pairs; bytes = bytes }) s)

of_lack : (run : Fuel → Outcome) (form value : Tree) (cost pairs bytes : ℕ) (fuel : Fuel) (l : Option Which) → (l ≡ None → Kept run fuel (in_form form fuel (Enough (Gives value cost pairs bytes)))) → Kept run fuel (in_form form fuel (unless_lacking l (Gives value cost pairs bytes)))
of_lack run form value cost pairs bytes fuel None h = h refl
of_lack run form value cost pairs bytes fuel (Some which) h = spent which

steady_value : (form value : Tree) (cost pairs bytes : ℕ) → IsSteady (in_form-value form value cost pairs bytes)
unfolding in_form-value
steady_value form value cost pairs bytes fuel =
    let spending : Spending = record { cost = cost; pairs = pairs; bytes = bytes } in
    of_lack (in_form-value form value cost pairs bytes) form value cost pairs bytes fuel (lack spending fuel)
    (λ e. done value spending (covers fuel spending e) (λ other s d. enough form value cost pairs bytes other s))

steady_operator : (form : Tree) (a : Applied) → IsSteady (λ fuel. in_form form fuel (within fuel a))
unfolding in_form-value
steady_operator form (Gives value cost pairs bytes) = steady_value form value cost pairs bytes
steady_operator form (Fails why) = steady_failed why form
steady_operator form TooWide = λ fuel. wide (λ more m. refl)

-- ---- evaluation

either : (b : Bool) (x y : Fuel → Outcome) → IsSteady x → IsSteady y → IsSteady (λ fuel. cond b (x fuel) (y fuel))
either true x y p q = p
either false x y p q = q

steady_values : (value : Tree → Fuel → Outcome) → ((operand : Tree) → IsSteady (value operand)) → (operands : List Tree) (go : List Tree → Fuel → Outcome) → ((values : List Tree) → IsSteady (go values)) → IsSteady (λ fuel. values_of value operands fuel go)
steady_values value p [] go q = q []
steady_values value p (operand ∷ operands) go q =
    steady_values value p operands (λ values fuel. if_done (value operand fuel) (λ v last. go (v ∷ values) last))
    (λ values. steady_then (value operand) (λ v. go (v ∷ values)) (p operand) (λ v. q (v ∷ values)))

steady_path : (path : List ℕ) (found : PathValue) → IsSteady (at_path path found)
steady_path path (Reached value steps) = steady_charge (path_cost path steps) (Done value) (steady_done value)
steady_path path Astray = steady_failed NoStep (Atom path)

module _ (evaluate : Evaluator) (steady : (program env : Tree) (depth : ℕ) → IsSteady (evaluate program env depth)) where
  steady_goes_on : (form : Tree) (depth : ℕ) (values : List Tree) → IsSteady (goes_on evaluate form depth values)
  steady_goes_on form depth [] = steady_failed WrongCount form
  steady_goes_on form depth (program ∷ []) = steady_failed WrongCount form
  steady_goes_on form depth (program ∷ env ∷ []) = steady_charge APPLY_COST (evaluate program env depth) (steady program env depth)
  steady_goes_on form depth (program ∷ env ∷ c ∷ more) = steady_failed WrongCount form

  steady_apply : (code : List ℕ) (form : Tree) (depth : ℕ) (values : List Tree) → IsSteady (apply_values evaluate code form depth values)
  steady_apply code form depth values =
      either (is_byte 2 code) (goes_on evaluate form depth values) (λ fuel. in_form form fuel (within fuel (applied code values)))
      (steady_goes_on form depth values) (steady_operator form (applied code values))

  steady_form : (code : List ℕ) (form env : Tree) (depth : ℕ) (operands : Option (List Tree)) → IsSteady (operator_form evaluate code form env depth operands)
  steady_form code form env depth None = steady_failed NotAList form
  steady_form code form env depth (Some operands) =
      steady_charge 1 _ (steady_deeper operands depth _ (steady_values (λ operand. evaluate operand env (suc depth)) (λ operand. steady operand env (suc depth)) operands
      (apply_values evaluate code form depth) (steady_apply code form depth)))

  pub steady_by : (program env : Tree) (depth : ℕ) → IsSteady (evaluated_by evaluate program env depth)
  steady_by (Atom path) env depth = steady_path path (path_value path env)
  steady_by (Pair (Pair a b) rest) env depth = steady_failed NoOperator (Pair (Pair a b) rest)
  steady_by (Pair (Atom code) rest) env depth =
      either (is_byte QUOTE code) (λ fuel. charge QUOTE_COST fuel (Done rest)) (operator_form evaluate code (Pair (Atom code) rest) env depth (elements rest))
      (steady_charge QUOTE_COST (Done rest) (steady_done rest)) (steady_form code (Pair (Atom code) rest) env depth (elements rest))

pub steady_within : (steps : ℕ) (program env : Tree) (depth : ℕ) → IsSteady (evaluated_within steps program env depth)
steady_within zero program env depth = λ fuel. spent Cost
steady_within (suc steps) program env depth = steady_by (evaluated_within steps) (steady_within steps) program env depth
