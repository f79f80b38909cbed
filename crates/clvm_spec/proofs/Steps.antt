-- The laws on fuel: how many steps an evaluation takes, and what it keeps with other fuel.
use Rattle.std.proofs.Common.{◌≡◌, ℕ, zero, suc, ◌+◌, ◌-◌, ◌<◌, ◌≤◌, Bool, true, false, cond, ltb, List, [], ◌∷◌, length, Option, Some, None, refl, sym, ap, ◌∙◌, subst, arith}
use Rattle.std.proofs.lemmas.Bool.{ltb-false}
use Rattle.clvm_spec.specs.declared.fuel.Fuel.{Fuel}
use Rattle.clvm_spec.specs.declared.fuel.Which.TheVariants.{Depth}
use Rattle.clvm_spec.specs.Tree.{Tree, Atom, Pair}
use Rattle.clvm_spec.specs.ProperList.{elements}
use Rattle.clvm_spec.specs.Outcomes.{Why, Outcome, Done, Failed, Spent, Wide}
use Rattle.clvm_spec.specs.declared.costs.TheConstants.{APPLY_COST}
use Rattle.clvm_spec.specs.Evaluation.{if_done, charge, is_byte, Evaluator, goes_on, apply_values, values_of, is_too_deep, deeper, operator_form, evaluated_by, evaluated_within, evaluation}
use Rattle.clvm_spec.specs.Spending.{Spending, fuel_less}
use Rattle.clvm_spec.specs.FuelLaws.{IsAtLeast, DoneRunUsesTheSame, MoreFuelKeepsFailures, MoreFuelKeepsWide, StepsAreWithinTheCost, EvaluationIsItsStep}
use Rattle.clvm_spec.proofs.SpendingLaws.{Covers, covers, covered}
use Rattle.clvm_spec.proofs.Steady.{Kept, done, failed, spent, wide, IsSteady, steady_within}

-- ---- steps

-- the same with each fuel of less than this cost
Same : ℕ → (Fuel → Outcome) → (Fuel → Outcome) → Type 0
Same cost x y = (fuel : Fuel) → fuel.cost < cost → x fuel ≡ y fuel

cost_falls : (run : Fuel → Outcome) (fuel : Fuel) (o : Outcome) → Kept run fuel o → (value : Tree) (left : Fuel) → o ≡ Done value left → left.cost ≤ fuel.cost
cost_falls run fuel o (done v spending h all) value left e =
    let same : fuel_less spending fuel ≡ left = cc in
    let cost : fuel.cost - spending.cost ≡ left.cost = ap (λ (l : Fuel). l.cost) same in omega arith
cost_falls run fuel o (failed why form k) value left e = cc
cost_falls run fuel o (spent which) value left e = cc
cost_falls run fuel o (wide k) value left e = cc

if_done_same : (o : Outcome) (go go' : Tree → Fuel → Outcome) → ((value : Tree) (left : Fuel) → o ≡ Done value left → go value left ≡ go' value left) → if_done o go ≡ if_done o go'
if_done_same (Done value left) go go' h = h value left refl
if_done_same (Failed why form) go go' h = refl
if_done_same (Spent which) go go' h = refl
if_done_same Wide go go' h = refl

cond_same : (b : Bool) (s x y : Outcome) → (b ≡ false → x ≡ y) → cond b s x ≡ cond b s y
cond_same true s x y h = refl
cond_same false s x y h = h refl

both_same : (b : Bool) (x y x' y' : Outcome) → x ≡ x' → y ≡ y' → cond b x y ≡ cond b x' y'
both_same b x y x' y' e f = λ i. cond b (e i) (f i)

same_charge : (cost c : ℕ) (x y : Fuel → Outcome) → 0 < cost → Same c x y → (fuel : Fuel) → fuel.cost < suc c → charge cost fuel x ≡ charge cost fuel y
unfolding Same
same_charge cost c x y above same fuel h =
    cond_same (ltb fuel.cost cost) _ _ _ (λ e. let k = ltb-false fuel.cost cost e in same (record fuel { cost = fuel.cost - cost }) (omega arith))

same_deeper : (operands : List Tree) (depth : ℕ) (x y : Fuel → Outcome) (fuel : Fuel) → x fuel ≡ y fuel → deeper operands depth fuel x ≡ deeper operands depth fuel y
same_deeper operands depth x y fuel e = ap (λ o. cond (is_too_deep (length operands) depth fuel.depth) (Spent Depth) o) e

same_values : (c : ℕ) (value value' : Tree → Fuel → Outcome) → ((operand : Tree) → IsSteady (value operand)) → ((operand : Tree) (fuel : Fuel) → fuel.cost < c → value operand fuel ≡ value' operand fuel) →
    (operands : List Tree) (go go' : List Tree → Fuel → Outcome) → ((values : List Tree) (fuel : Fuel) → fuel.cost < c → go values fuel ≡ go' values fuel) →
    (fuel : Fuel) → fuel.cost < c → values_of value operands fuel go ≡ values_of value' operands fuel go'
same_values c value value' steady same [] go go' goes fuel h = goes [] fuel h
same_values c value value' steady same (operand ∷ operands) go go' goes fuel h =
    same_values c value value' steady same operands
    (λ values after. if_done (value operand after) (λ v last. go (v ∷ values) last))
    (λ values after. if_done (value' operand after) (λ v last. go' (v ∷ values) last))
    (λ values after k.
    if_done_same (value operand after) _ _ (λ v last e. let falls = cost_falls (value operand) after (value operand after) (steady operand after) v last e in goes (v ∷ values) last (omega arith))
    ∙ ap (λ o. if_done o (λ v last. go' (v ∷ values) last)) (same operand after k))
    fuel h

module _ (c : ℕ) (evaluate evaluate' : Evaluator) (steady : (program env : Tree) (depth : ℕ) → IsSteady (evaluate program env depth)) (same : (program env : Tree) (depth : ℕ) (fuel : Fuel) → fuel.cost < c → evaluate program env depth fuel ≡ evaluate' program env depth fuel) where
  same_goes_on : (form : Tree) (depth : ℕ) (values : List Tree) (fuel : Fuel) → fuel.cost < c → goes_on evaluate form depth values fuel ≡ goes_on evaluate' form depth values fuel
  unfolding Same
  same_goes_on form depth [] fuel h = refl
  same_goes_on form depth (program ∷ []) fuel h = refl
  same_goes_on form depth (program ∷ env ∷ []) fuel h = same_charge APPLY_COST c _ _ (omega arith) (same program env depth) fuel (omega arith)
  same_goes_on form depth (program ∷ env ∷ d ∷ more) fuel h = refl

  same_apply : (code : List ℕ) (form : Tree) (depth : ℕ) (values : List Tree) (fuel : Fuel) → fuel.cost < c → apply_values evaluate code form depth values fuel ≡ apply_values evaluate' code form depth values fuel
  same_apply code form depth values fuel h = both_same (is_byte 2 code) _ _ _ _ (same_goes_on form depth values fuel h) refl

  same_form : (code : List ℕ) (form env : Tree) (depth : ℕ) (operands : Option (List Tree)) (fuel : Fuel) → fuel.cost < suc c → operator_form evaluate code form env depth operands fuel ≡ operator_form evaluate' code form env depth operands fuel
  unfolding Same
  same_form code form env depth None fuel h = refl
  same_form code form env depth (Some operands) fuel h =
      let with_values = λ (paid : Fuel). values_of (λ operand. evaluate operand env (suc depth)) operands paid (apply_values evaluate code form depth) in
      let with_values' = λ (paid : Fuel). values_of (λ operand. evaluate' operand env (suc depth)) operands paid (apply_values evaluate' code form depth) in
      same_charge 1 c (λ paid. deeper operands depth paid with_values) (λ paid. deeper operands depth paid with_values') (omega arith)
      (λ paid k. same_deeper operands depth with_values with_values' paid
      (same_values c (λ operand. evaluate operand env (suc depth)) (λ operand. evaluate' operand env (suc depth)) (λ operand. steady operand env (suc depth)) (λ operand. same operand env (suc depth)) operands
      (apply_values evaluate code form depth) (apply_values evaluate' code form depth) (same_apply code form depth) paid k)) fuel h

  same_by : (program env : Tree) (depth : ℕ) (fuel : Fuel) → fuel.cost < suc c → evaluated_by evaluate program env depth fuel ≡ evaluated_by evaluate' program env depth fuel
  same_by (Atom path) env depth fuel h = refl
  same_by (Pair (Pair a b) rest) env depth fuel h = refl
  same_by (Pair (Atom code) rest) env depth fuel h = both_same (is_byte 1 code) _ _ _ _ refl (same_form code (Pair (Atom code) rest) env depth (elements rest) fuel h)

same_within : (c n m : ℕ) → c ≤ n → c ≤ m → (program env : Tree) (depth : ℕ) (fuel : Fuel) → fuel.cost < c → evaluated_within n program env depth fuel ≡ evaluated_within m program env depth fuel
same_within zero n m h k program env depth fuel below = absurd (omega arith)
same_within (suc c) zero m h k program env depth fuel below = absurd (omega arith)
same_within (suc c) (suc n) zero h k program env depth fuel below = absurd (omega arith)
same_within (suc c) (suc n) (suc m) h k program env depth fuel below =
    same_by c (evaluated_within n) (evaluated_within m) (steady_within n) (same_within c n m (omega arith) (omega arith)) program env depth fuel below

pub steps_law : StepsAreWithinTheCost
unfolding evaluation
steps_law steps program env depth left h = same_within (suc left.cost) steps (suc left.cost) (omega arith) (omega arith) program env depth left (omega arith)

pub one_step_law : EvaluationIsItsStep
unfolding evaluation
one_step_law program env depth left =
    same_by left.cost (evaluated_within left.cost) evaluation (steady_within left.cost) (steps_law left.cost) program env depth left (omega arith)

-- ---- other fuel

kept_failed : (run : Fuel → Outcome) (fuel : Fuel) (o : Outcome) → Kept run fuel o → (why : Why) (form : Tree) → o ≡ Failed why form → (more : Fuel) → IsAtLeast more fuel → run more ≡ Failed why form
kept_failed run fuel o (done v spending h all) why form e more m = cc
kept_failed run fuel o (failed why' form' k) why form e more m = k more m ∙ e
kept_failed run fuel o (spent which) why form e more m = cc
kept_failed run fuel o (wide k) why form e more m = cc

kept_wide : (run : Fuel → Outcome) (fuel : Fuel) (o : Outcome) → Kept run fuel o → o ≡ Wide → (more : Fuel) → IsAtLeast more fuel → run more ≡ Wide
kept_wide run fuel o (done v spending h all) e more m = cc
kept_wide run fuel o (failed why' form' k) e more m = cc
kept_wide run fuel o (spent which) e more m = cc
kept_wide run fuel o (wide k) e more m = k more m

module _ (program env : Tree) (depth : ℕ) where
  enough_steps : (n : ℕ) (fuel : Fuel) → fuel.cost < n → Kept (evaluated_within n program env depth) fuel (evaluation program env depth fuel)
  enough_steps n fuel h = subst (Kept (evaluated_within n program env depth) fuel) (steps_law n program env depth fuel h) (steady_within n program env depth fuel)

pub failures_law : MoreFuelKeepsFailures
unfolding evaluation
failures_law program env depth fuel more why form m e =
    kept_failed _ fuel _ (enough_steps program env depth (suc more.cost) fuel (omega arith)) why form e more m

pub wide_law : MoreFuelKeepsWide
unfolding evaluation
wide_law program env depth fuel more m e =
    kept_wide _ fuel _ (enough_steps program env depth (suc more.cost) fuel (omega arith)) e more m

-- what lies between two
abbrev between : Fuel → Fuel → Spending
between fuel left = record { cost = fuel.cost - left.cost; pairs = fuel.pairs - left.pairs; bytes = fuel.bytes - left.bytes }

abbrev Leaves : (Fuel → Outcome) → Fuel → Tree → Fuel → Type 0
Leaves run fuel value left = Covers fuel (between fuel left) × (left ≡ fuel_less (between fuel left) fuel)
    × ((other : Fuel) → Covers other (between fuel left) → fuel.depth ≤ other.depth → run other ≡ Done value (fuel_less (between fuel left) other))

between-fuel_less : (fuel : Fuel) (spending : Spending) → Covers fuel spending → spending ≡ between fuel (fuel_less spending fuel)
between-fuel_less fuel spending h =
    let c : spending.cost ≡ fuel.cost - (fuel.cost - spending.cost) = let k = h.cost in omega arith in
    let p : spending.pairs ≡ fuel.pairs - (fuel.pairs - spending.pairs) = let k = h.pairs in omega arith in
    let b : spending.bytes ≡ fuel.bytes - (fuel.bytes - spending.bytes) = let k = h.bytes in omega arith in
    λ i. record { cost = c i; pairs = p i; bytes = b i }

leaves_itself : (run : Fuel → Outcome) (fuel : Fuel) (value : Tree) (spending : Spending) → Covers fuel spending → ((other : Fuel) → Covers other spending → fuel.depth ≤ other.depth → run other ≡ Done value (fuel_less spending other)) → Leaves run fuel value (fuel_less spending fuel)
leaves_itself run fuel value spending h all =
    let P = λ (s : Spending). Covers fuel s × (fuel_less spending fuel ≡ fuel_less s fuel) × ((other : Fuel) → Covers other s → fuel.depth ≤ other.depth → run other ≡ Done value (fuel_less s other)) in
    subst P (between-fuel_less fuel spending h) (h, refl, all)

kept_done : (run : Fuel → Outcome) (fuel : Fuel) (o : Outcome) → Kept run fuel o → (value : Tree) (left : Fuel) → o ≡ Done value left → Leaves run fuel value left
kept_done run fuel o (done v spending h all) value left e =
    let same : fuel_less spending fuel ≡ left = cc in
    let v_is : v ≡ value = cc in
    subst (λ (l : Fuel). Leaves run fuel value l) same
    (subst (λ (w : Tree). Leaves run fuel w (fuel_less spending fuel)) v_is (leaves_itself run fuel v spending h all))
kept_done run fuel o (failed why form k) value left e = cc
kept_done run fuel o (spent which) value left e = cc
kept_done run fuel o (wide k) value left e = cc

pub done_law : DoneRunUsesTheSame
done_law program env depth fuel left value e =
    let within_some : (n : ℕ) → fuel.cost < n → Leaves (evaluated_within n program env depth) fuel value left = λ n h. kept_done _ fuel _ (enough_steps program env depth n fuel h) value left e in
    let here = within_some (suc fuel.cost) (omega arith) in (
      between fuel left,
      covered fuel (between fuel left) here.0,
      here.1,
      λ other s d.
          let n = suc (fuel.cost + other.cost) in
          sym (steps_law n program env depth other (omega arith)) ∙ (within_some n (omega arith)).2 other (covers other (between fuel left) s) d,
    )
