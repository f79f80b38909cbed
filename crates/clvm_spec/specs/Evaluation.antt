-- The costed evaluation of a program in an environment. Source: CLVM reference; the costs, the four counts of fuel, and
-- which fault comes first, are this project's own.
use Rattle.std.specs.Prelude.{ℕ, zero, suc, ◌-◌, ◌==◌, Bool, false, ◌&&◌, List, [], ◌∷◌, length, Option, Some, None, nat_lt, nat_le, if◌then◌else◌}
use Rattle.clvm_spec.specs.declared.fuel.Fuel.{Fuel}
use Rattle.clvm_spec.specs.declared.fuel.Which.TheVariants.{Cost, Depth}
use Rattle.clvm_spec.specs.declared.limits.TheConstants.{MOST_PAIRS, MOST_BYTES, MOST_DEPTH}
use Rattle.clvm_spec.specs.declared.costs.TheConstants.{FORM_COST, QUOTE_COST, APPLY_COST}
use Rattle.clvm_spec.specs.Tree.{Tree, Atom, Pair}
use Rattle.clvm_spec.specs.ProperList.{elements}
use Rattle.clvm_spec.specs.Path.{PathValue, Reached, Astray, path_value, path_cost}
use Rattle.clvm_spec.specs.Outcomes.{NoStep, NotAList, WrongCount, NoOperator, Gives, Fails, TooWide, WithinFuel, Enough, Lacks, Outcome, Done, Failed, Spent, Wide}
use Rattle.clvm_spec.specs.OperatorTable.{quote_code, apply_code, operator_outcome}
use Rattle.clvm_spec.specs.Operators.{of_two}
use Rattle.clvm_spec.specs.Spending.{exceeds, fuel_less, paid}

-- goes on from where a part is done
abbrev pub if_done : Outcome → (Tree → Fuel → Outcome) → Outcome
if_done (Done value left) go = go value left
if_done (Failed why form) go = Failed why form
if_done (Spent which) go = Spent which
if_done Wide go = Wide

-- goes on from where a cost is paid
abbrev pub charge : ℕ → Fuel → (Fuel → Outcome) → Outcome
charge cost left go = if exceeds cost left.cost then Spent Cost else go (paid cost left)

abbrev pub is_byte : ℕ → List ℕ → Bool
is_byte code [] = false
is_byte code (b ∷ []) = b == code
is_byte code (b ∷ c ∷ more) = false

-- the atom of this one byte
abbrev pub is_code : ℕ → Tree → Bool
is_code code (Atom bytes) = is_byte code bytes
is_code code (Pair first rest) = false

-- An atom is a path. A step's failure comes before its lack of cost.
abbrev pub at_path : List ℕ → PathValue → Fuel → Outcome
at_path path (Reached value steps) left = charge (path_cost path steps) left (Done value)
at_path path Astray left = Failed NoStep (Atom path)

-- A program, in its environment, at its depth.
abbrev pub Evaluator : Type 0
Evaluator = Tree → Tree → ℕ → Fuel → Outcome

-- `a`: once its two operands are evaluated, the first is the program and the second the environment, at the form's depth.
abbrev pub goes_on : Evaluator → Tree → ℕ → List Tree → Fuel → Outcome
goes_on evaluate form depth values left = of_two (Failed WrongCount form) values (λ program env. charge APPLY_COST left (evaluate program env depth))

-- A value takes its cost, pairs and bytes from what is left; a fault is the form's.
abbrev pub in_form : Tree → Fuel → WithinFuel → Outcome
in_form form left (Enough (Gives value cost pairs bytes)) = Done value (fuel_less (record { cost = cost; pairs = pairs; bytes = bytes }) left)
in_form form left (Enough (Fails why)) = Failed why form
in_form form left (Enough TooWide) = Wide
in_form form left (Lacks which) = Spent which

abbrev pub apply_values : Evaluator → List ℕ → Tree → ℕ → List Tree → Fuel → Outcome
apply_values evaluate code form depth values left =
    if is_byte apply_code code then goes_on evaluate form depth values left else in_form form left (operator_outcome code values left)

-- the operands' values, from the last to the first
abbrev pub values_of : (Tree → Fuel → Outcome) → List Tree → Fuel → (List Tree → Fuel → Outcome) → Outcome
values_of value [] left go = go [] left
values_of value (operand ∷ operands) left go =
    values_of value operands left (λ values after. if_done (value operand after) (λ v last. go (v ∷ values) last))

-- Operands stand one deeper than their form, so a form that has some can't be at the limit.
abbrev pub is_too_deep : (count depth limit : ℕ) → Bool
is_too_deep count depth limit = nat_lt 0 count && nat_le limit depth

abbrev pub deeper : List Tree → ℕ → Fuel → (Fuel → Outcome) → Outcome
deeper operands depth left go = if is_too_deep (length operands) depth left.depth then Spent Depth else go left

-- An operator form: its rest is a list ended by nil, it has a cost, and its operands are evaluated before the operator.
abbrev pub operator_form : Evaluator → List ℕ → Tree → Tree → ℕ → Option (List Tree) → Fuel → Outcome
operator_form evaluate code form env depth None left = Failed NotAList form
operator_form evaluate code form env depth (Some operands) left =
    charge FORM_COST left (λ after. deeper operands depth after (λ after.
    values_of (λ operand. evaluate operand env (suc depth)) operands after (apply_values evaluate code form depth)))

-- A pair whose first is the code of `q` has its rest as its value.
abbrev pub atom_form : Evaluator → List ℕ → Tree → Tree → ℕ → Fuel → Outcome
atom_form evaluate code rest env depth left =
    if is_byte quote_code code then charge QUOTE_COST left (Done rest) else operator_form evaluate code (Pair (Atom code) rest) env depth (elements rest) left

-- one step of evaluation: a path, a form with a pair as its head, or one with an atom
abbrev pub evaluated_by : Evaluator → Evaluator
evaluated_by evaluate (Atom path) env depth left = at_path path (path_value path env) left
evaluated_by evaluate (Pair (Pair a b) rest) env depth left = Failed NoOperator (Pair (Pair a b) rest)
evaluated_by evaluate (Pair (Atom code) rest) env depth left = atom_form evaluate code rest env depth left

-- Each step costs at least 1, so no evaluation nests steps deeper than its cost, and the first number only
-- bounds the recursion.
abbrev pub evaluated_within : ℕ → Evaluator
evaluated_within zero program env depth left = Spent Cost
evaluated_within (suc steps) program env depth left = evaluated_by (evaluated_within steps) program env depth left

unfoldable pub evaluation : Evaluator
evaluation program env depth left = evaluated_within (suc left.cost) program env depth left

-- a run: evaluation at depth 0
abbrev pub run_outcome : Tree → Tree → Fuel → Outcome
run_outcome program env fuel = evaluation program env 0 fuel

-- what a done run has cost
abbrev pub run_cost : Fuel → Fuel → ℕ
run_cost fuel left = fuel.cost - left.cost

-- the fuel of every run, but its cost
abbrev pub most_pairs : ℕ
most_pairs = MOST_PAIRS

abbrev pub most_bytes : ℕ
most_bytes = MOST_BYTES

abbrev pub most_depth : ℕ
most_depth = MOST_DEPTH

abbrev pub fuel_of : ℕ → Fuel
fuel_of cost = record { cost = cost; pairs = most_pairs; bytes = most_bytes; depth = most_depth }
