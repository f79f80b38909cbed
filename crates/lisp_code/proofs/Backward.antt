-- What code gives, its source means.
use Rattle.std.proofs.Common.{◌≡◌, ℕ, zero, suc, ◌+◌, ◌==◌, ◌≤◌, Bool, true, false, cond, List, [], ◌∷◌, ◌++◌, Option, Some, None, Ok, Err, refl, sym, ap, ◌∙◌, subst, arith}
use Rattle.std.proofs.lemmas.Bool.{eqb-true}
use Rattle.clvm_spec.specs.declared.fuel.Fuel.{Fuel}
use Rattle.clvm_spec.specs.Spending.{Spending}
use Rattle.clvm_spec.specs.Tree.{Tree, Atom, Pair, nil, list_tree}
use Rattle.clvm_spec.specs.Outcomes.{Outcome}
use Rattle.clvm_spec.specs.OperatorTable.{applied}
use Rattle.clvm_spec.specs.Evaluation.{evaluation, run_outcome}
use Rattle.clvm_spec.proofs.SpendingLaws.{Covers}
use Rattle.lisp_spec.specs.Modules as modules
use Rattle.lisp_spec.specs.Modules.{Module, Definition, definition_named, constant_named}
use Rattle.lisp_spec.specs.ModuleFaults.{Judged}
use Rattle.lisp_spec.specs.Parameters.{Side, ToFirst, ToRest, tree_at}
use Rattle.lisp_spec.specs.Expressions.{Expression, Literal, Name, Choice, Listing, Operation, FunctionCall, InlineCall, Filled, Operands, NoMore, Operand, Template, Plain, Both, Unquoted, Scope}
use Rattle.lisp_spec.specs.Scopes.{body_of, module_scope}
use Rattle.lisp_spec.specs.Environments.{step_code, Environment, Binding, inline_environment}
use Rattle.lisp_spec.specs.Meaning.{Meaning, Value, Failed, Wide, Out, Means, if_value, operator_meaning, run_meaning, all_counts, run_values, operate, constant_meaning, name_meaning, body_meaning, function_call, inline_call, chosen, expression_meaning, operands_meaning, template_meaning, meaning_within}
use Rattle.lisp_spec.proofs.MeaningProofs.{refines_operate, refines_expression, refines_operands, refines_template, larger_within}
use Rattle.lisp_spec.proofs.Soundness.{IsSound, AreSound, IsSoundTemplate, is_sound}
use Rattle.lisp_code.proofs.Refining.{Refines, out, same, Covered, Rises}
use Rattle.lisp_code.proofs.Enough.{Reaches, value, failed, wide, Enough}
use Rattle.lisp_code.proofs.Enough as reaches
use Rattle.lisp_code.proofs.Plain.{plain_run, plain_apply, plain_values, plain, found_meaning}
use Rattle.lisp_code.specs.Names.{Names}
use Rattle.lisp_code.specs.Pieces.{operator_code, path_code, failing, pair_code}
use Rattle.lisp_code.specs.Codes.{Code, Path, Other, Piece, Chooses, operates, parts_of, fails, pair_of, list_of, step_of, operation_of, choice_of, call_of}
use Rattle.lisp_code.specs.Codes as codes
use Rattle.lisp_code.specs.Frames.{Frame, path_from, function_path, constant_tree, call_code, tree_of, piece_tree, trees_of}
use Rattle.lisp_code.specs.Code.{constant_code, Codes, name_code, body_code, inline_code, expression_code, operand_codes, template_code}
use Rattle.lisp_code.proofs.Corresponding.{Corresponds, SameName, to_tree, to_no_step, no_path, expression, nothing, world, path_found, path_longer, function_value}
use Rattle.lisp_code.proofs.Fitting.{Fits, PieceFits, AllFit}
use Rattle.lisp_code.proofs.Refined.{refines_equal, refines_trans, covered_then, covered_same, covered_from, covered_by, rises_then, rises_same}
use Rattle.lisp_code.proofs.EnoughFuel.{fuel_is_enough}
use Rattle.lisp_code.proofs.PlainForms.{plain_operator, plain_path, plain_failing, plain_pair, picked, if_of, if_says, constant_is, constant_says, constant_choice, found_step, pair_operates}
use Rattle.lisp_code.proofs.Lookups.{inline_corresponds, same_name}
use Rattle.lisp_code.proofs.Forward.{natural, list_value, called}

-- what calls go on with, by the count
abbrev pub further_of : Module → ℕ → Means
further_of source zero = λ e env. Out
further_of source (suc n) = meaning_within source n

pub meaning_is : (source : Module) (n : ℕ) (e : Expression) (env : Environment Tree) → meaning_within source n e env ≡ expression_meaning source n (further_of source n) e env
meaning_is source zero e env = refl
meaning_is source (suc n) e env = refl

pub rises_further : (source : Module) (n m : ℕ) → n ≤ m → (e : Expression) (env : Environment Tree) → Refines (further_of source n e env) (further_of source m e env)
rises_further source zero m le e env = out _
rises_further source (suc n) zero le e env = absurd (omega arith)
rises_further source (suc n) (suc m) le e env = larger_within source n m (omega arith) e env

pub further_covered : (source : Module) (x : Meaning) (e : Expression) (env : Environment Tree) → Covered x (λ n. meaning_within source n e env) → Covered x (λ n. further_of source n e env)
further_covered source x e env c = (suc c.0, c.1)

-- ---- runs

reached : (need : Spending) (fuel : Fuel) (m : Meaning) (o : Outcome) → Reaches need fuel m o → Refines m (run_meaning o)
reached need fuel m o (value v left h) = same (Value v)
reached need fuel m o (failed why form) = same Failed
reached need fuel m o wide = same Wide
reached need fuel m o (reaches.out o') = out _

run_covered : (m : ℕ) (program env : Tree) → Covered (plain m program env) (λ n. run_meaning (run_outcome program env (all_counts n)))
run_covered m program env =
    let it = fuel_is_enough m program env in
    let n = it.need.cost + it.need.pairs + it.need.bytes + it.deep in
    let enough : Covers (all_counts n) it.need = record { cost = omega arith; pairs = omega arith; bytes = omega arith } in
    (n, reached it.need (all_counts n) (plain m program env) (evaluation program env 0 (all_counts n)) (it.holds 0 (all_counts n) enough (omega arith)))

values_run : (m : ℕ) (values : List Tree) → Covered (plain_run (plain m) values) (λ n. run_values n values)
values_run m [] = (0, same Failed)
values_run m (program ∷ []) = (0, same Failed)
values_run m (program ∷ env ∷ []) = run_covered m program env
values_run m (a ∷ b ∷ c ∷ more) = (0, same Failed)

either_covered : (b : Bool) (x y : Meaning) (f g : ℕ → Meaning) → Covered x f → Covered y g → Covered (cond b x y) (λ n. cond b (f n) (g n))
either_covered true x y f g p q = p
either_covered false x y f g p q = q

operate_covered : (m code : ℕ) (values : List Tree) → Covered (plain_apply (plain m) (code ∷ []) values) (λ n. operate n code values)
operate_covered m code values = either_covered (code == 2) _ _ _ _ (values_run m values) (0, same (operator_meaning (applied (code ∷ []) values)))

-- ---- what pieces of code say at most

path_refines : (m : ℕ) (path : List Side) (env : Tree) → Refines (plain m (path_code path) env) (found_meaning (tree_at path env))
path_refines zero path env = out _
path_refines (suc m) path env = refines_equal _ _ (plain_path m path env)

pub failing_refines : (m : ℕ) (env : Tree) → Refines (plain m failing env) Failed
failing_refines zero env = out _
failing_refines (suc m) env = refines_equal _ _ (plain_failing m env)

-- what a body means
abbrev pub body_says : Module → (Module → ℕ → Means) → Definition → Environment Tree → ℕ → Meaning
body_says source means f env n = body_meaning (means source n) (body_of source f.params f.body) env

module _ (source : Module) (frame : Frame) (table : Tree) (most : ℕ) (P : List ℕ → Type 0)
    (calls : (name : List ℕ) → P name → (argument list : Tree) (y : ℕ → Meaning) → Rises y → ((m : ℕ) → m ≤ most → Covered (plain m list (world frame table argument)) y) → (m : ℕ) → m ≤ most →
    Covered (plain m (call_code (function_path frame name) list) (world frame table argument)) (λ n. if_value (y n) (function_value source (further_of source n) (definition_named name source.functions))))
    (codes_further : Codes)
    (goes : (m : ℕ) → m ≤ most → (e : Expression) (scope : Scope) → IsSound scope e → (env : Environment Tree) (names : Names) (argument : Tree) → Corresponds argument env names → Fits P (codes_further e names) →
    Covered (plain m (tree_of frame (codes_further e names)) (world frame table argument)) (λ n. further_of source n e env)) where
  abbrev says : Expression → Environment Tree → ℕ → Meaning
  says e env n = expression_meaning source n (further_of source n) e env

  abbrev operands_say : Operands → Environment Tree → (ℕ → List Tree → Meaning) → ℕ → Meaning
  operands_say operands env go n = operands_meaning source n (further_of source n) operands env (go n)

  abbrev template_says : Template → Environment Tree → ℕ → Meaning
  template_says t env n = template_meaning source n (further_of source n) t env

  abbrev list_says_by : Operands → Environment Tree → ℕ → Meaning
  list_says_by operands env n = list_value source n (further_of source n) operands env

  says_rises : (e : Expression) (env : Environment Tree) → Rises (says e env)
  says_rises e env a b le = refines_expression source a b le (further_of source a) (further_of source b) (rises_further source a b le) e env

  list_rises : (operands : Operands) (env : Environment Tree) → Rises (list_says_by operands env)
  list_rises operands env a b le = refines_operands source a b le (further_of source a) (further_of source b) (rises_further source a b le) operands env _ _ (λ values. same (Value (list_tree values)))

  template_rises : (t : Template) (env : Environment Tree) → Rises (template_says t env)
  template_rises t env a b le = refines_template source a b le (further_of source a) (further_of source b) (rises_further source a b le) t env

  operate_rises : (code : ℕ) (values : List Tree) → Rises (λ n. operate n code values)
  operate_rises code values a b le = refines_operate a b le code values

  module _ (argument : Tree) (scope : Scope) where
    abbrev here : Tree
    here = world frame table argument

    -- ---- pieces of code, as trees

    ThereTree : (ℕ → Meaning) → Tree → Type 0
    ThereTree y code = (m : ℕ) → m ≤ most → Covered (plain m code here) y

    TreesThere : Operands → Environment Tree → List Tree → Type 0
    TreesThere operands env codes = (m : ℕ) → m ≤ most → (go : List Tree → Meaning) (go' : ℕ → List Tree → Meaning) → ((values : List Tree) → Rises (λ n. go' n values)) → ((values : List Tree) → Covered (go values) (λ n. go' n values)) →
        Covered (plain_values (λ code. plain m code here) codes go) (operands_say operands env go')

    operator_there : (operands : Operands) (env : Environment Tree) (codes : List Tree) (code : ℕ) → (code == 1) ≡ false → TreesThere operands env codes → ThereTree (operands_say operands env (λ n. operate n code)) (operator_code code codes)
    unfolding ThereTree TreesThere
    operator_there operands env codes code one p zero le = (0, out _)
    operator_there operands env codes code one p (suc m) le =
        covered_from _ _ _ (refines_equal _ _ (plain_operator m code codes here one))
        (p m (omega arith) (plain_apply (plain m) (code ∷ [])) (λ n. operate n code) (operate_rises code) (operate_covered m code))

    two_there : (a b : ℕ → Meaning) → Rises a → Rises b → (ca cb : Tree) → ThereTree a ca → ThereTree b cb → ThereTree (λ n. if_value (b n) (λ y. if_value (a n) (λ x. Value (Pair x y)))) (pair_code ca cb)
    unfolding ThereTree
    two_there a b ra rb ca cb p q zero le = (0, out _)
    two_there a b ra rb ca cb p q (suc m) le =
        covered_from _ _ _ (refines_equal _ _ (plain_pair m ca cb here))
        (covered_then (plain m cb here) b (λ y. if_value (plain m ca here) (λ x. Value (Pair x y))) (λ n y. if_value (a n) (λ x. Value (Pair x y)))
        rb (λ y. rises_then a (λ n x. Value (Pair x y)) ra (λ x. rises_same (Value (Pair x y)))) (q m (omega arith))
        (λ y. covered_then (plain m ca here) a (λ x. Value (Pair x y)) (λ n x. Value (Pair x y)) ra (λ x. rises_same (Value (Pair x y))) (p m (omega arith)) (λ x. (0, same (Value (Pair x y))))))

    abbrev chosen_says : Tree → (a b : Expression) → Environment Tree → ℕ → Meaning
    chosen_says v a b env n = chosen v (expression_meaning source n (further_of source n) a) (expression_meaning source n (further_of source n) b) env

    chosen_rises : (v : Tree) (a b : Expression) (env : Environment Tree) → Rises (chosen_says v a b env)
    chosen_rises (Atom []) a b env = says_rises b env
    chosen_rises (Atom (x ∷ bytes)) a b env = says_rises a env
    chosen_rises (Pair first rest) a b env = says_rises a env

    chosen_there : (v : Tree) (a b : Expression) (env : Environment Tree) (ca cb : Tree) → ThereTree (says a env) ca → ThereTree (says b env) cb → ThereTree (chosen_says v a b env) (picked v ca cb)
    chosen_there (Atom []) a b env ca cb p q = q
    chosen_there (Atom (x ∷ bytes)) a b env ca cb p q = p
    chosen_there (Pair first rest) a b env ca cb p q = p

    abbrev choice_says : (t a b : Expression) → Environment Tree → ℕ → Meaning
    choice_says t a b env n = if_value (says t env n) (λ v. chosen_says v a b env n)

    if_there : (t a b : Expression) (env : Environment Tree) (ct ca cb : Tree) → ThereTree (says t env) ct → ThereTree (says a env) ca → ThereTree (says b env) cb → ThereTree (choice_says t a b env) (if_of ct ca cb)
    unfolding ThereTree
    if_there t a b env ct ca cb p q r zero le = (0, out _)
    if_there t a b env ct ca cb p q r (suc m) le =
        covered_from _ _ _ (if_says m ct ca cb here)
        (covered_then (plain m ct here) (says t env) (λ v. plain m (picked v ca cb) here) (λ n v. chosen_says v a b env n)
        (says_rises t env) (λ v. chosen_rises v a b env) (p m (omega arith)) (λ v. chosen_there v a b env ca cb q r m (omega arith)))

    -- ---- codes

    unfoldable pub There : (ℕ → Meaning) → Code → Type 0
    There y code = Fits P code → (m : ℕ) → m ≤ most → Covered (plain m (tree_of frame code) here) y

    tree_there : (y : ℕ → Meaning) (code : Code) → There y code → Fits P code → ThereTree y (tree_of frame code)
    unfolding There ThereTree
    tree_there y code h fit = h fit

    other_there : (y : ℕ → Meaning) (piece : Piece) → (PieceFits P piece → ThereTree y (piece_tree frame piece)) → There y (Other piece)
    unfolding There ThereTree
    other_there y piece h = h

    fails_there : There (λ n. Failed) fails
    unfolding There
    fails_there fit m le = (0, failing_refines m here)

    value_there : (tree : Tree) → There (λ n. Value tree) (codes.Constant tree)
    unfolding There
    value_there tree fit m le = (0, constant_says m tree here)

    -- What a constant stands for means the constant.
    value_of : (y : ℕ → Meaning) (tree : Tree) (m : ℕ) → suc m ≤ most → There y (codes.Constant tree) → Covered (Value tree) y
    unfolding There
    value_of y tree m le h = covered_same _ _ _ (sym (constant_is m tree here)) (h tt (suc m) le)

    two_constants_there : (a b : ℕ → Meaning) → Rises a → Rises b → (x y : Tree) → There a (codes.Constant x) → There b (codes.Constant y) → There (λ n. if_value (b n) (λ y. if_value (a n) (λ x. Value (Pair x y)))) (codes.Constant (Pair x y))
    unfolding There
    two_constants_there a b ra rb x y p q fit zero le = (0, out _)
    two_constants_there a b ra rb x y p q fit (suc m) le =
        covered_then (Value y) b (λ vb. if_value (Value x) (λ va. Value (Pair va vb))) (λ n vb. if_value (a n) (λ va. Value (Pair va vb)))
        rb (λ vb. rises_then a (λ n va. Value (Pair va vb)) ra (λ va. rises_same (Value (Pair va vb)))) (value_of b y m le q)
        (λ vb. covered_then (Value x) a (λ va. Value (Pair va vb)) (λ n va. Value (Pair va vb)) ra (λ va. rises_same (Value (Pair va vb))) (value_of a x m le p) (λ va. (0, same (Value (Pair va vb)))))

    both_there : (a b : ℕ → Meaning) → Rises a → Rises b → (ca cb : Code) → There a ca → There b cb → There (λ n. if_value (b n) (λ y. if_value (a n) (λ x. Value (Pair x y)))) (operates 4 (ca ∷ cb ∷ []))
    both_there a b ra rb ca cb p q = other_there _ _ (λ fit. two_there a b ra rb (tree_of frame ca) (tree_of frame cb) (tree_there a ca p fit.0) (tree_there b cb q fit.1.0))

    pair_there : (a b : ℕ → Meaning) → Rises a → Rises b → (ca cb : Code) → There a ca → There b cb → There (λ n. if_value (b n) (λ y. if_value (a n) (λ x. Value (Pair x y)))) (pair_of ca cb)
    pair_there a b ra rb (codes.Constant x) (codes.Constant y) p q = two_constants_there a b ra rb x y p q
    pair_there a b ra rb (codes.Constant x) (Path path) p q = both_there a b ra rb (codes.Constant x) (Path path) p q
    pair_there a b ra rb (codes.Constant x) (Other piece) p q = both_there a b ra rb (codes.Constant x) (Other piece) p q
    pair_there a b ra rb (Path path) cb p q = both_there a b ra rb (Path path) cb p q
    pair_there a b ra rb (Other piece) cb p q = both_there a b ra rb (Other piece) cb p q

    picked_value : (v : Tree) (a b : Expression) (env : Environment Tree) (x y : Tree) → Covered (Value x) (says a env) → Covered (Value y) (says b env) → Covered (Value (picked v x y)) (chosen_says v a b env)
    picked_value (Atom []) a b env x y p q = q
    picked_value (Atom (z ∷ bytes)) a b env x y p q = p
    picked_value (Pair first rest) a b env x y p q = p

    constants_there : (t a b : Expression) (env : Environment Tree) (ct x y : Tree) → ThereTree (says t env) ct → There (says a env) (codes.Constant x) → There (says b env) (codes.Constant y) →
        ThereTree (choice_says t a b env) (operator_code 3 (ct ∷ constant_tree x ∷ constant_tree y ∷ []))
    unfolding ThereTree
    constants_there t a b env ct x y p q r zero le = (0, out _)
    constants_there t a b env ct x y p q r (suc zero) le = (0, refines_trans _ _ _ (refines_equal _ _ (plain_operator 0 3 (ct ∷ constant_tree x ∷ constant_tree y ∷ []) here refl)) (out _))
    constants_there t a b env ct x y p q r (suc (suc m)) le =
        covered_from _ _ _ (refines_equal _ _ (constant_choice m ct x y here))
        (covered_then (plain (suc m) ct here) (says t env) (λ v. Value (picked v x y)) (λ n v. chosen_says v a b env n)
        (says_rises t env) (λ v. chosen_rises v a b env) (p (suc m) (omega arith)) (λ v. picked_value v a b env x y (value_of (says a env) x m (omega arith) q) (value_of (says b env) y m (omega arith) r)))

    either_there : (t a b : Expression) (env : Environment Tree) (ct ca cb : Code) → There (says t env) ct → There (says a env) ca → There (says b env) cb → There (choice_says t a b env) (Other (Chooses ct ca cb))
    either_there t a b env ct ca cb p q r =
        other_there _ _ (λ fit. if_there t a b env (tree_of frame ct) (tree_of frame ca) (tree_of frame cb) (tree_there _ ct p fit.0) (tree_there _ ca q fit.1) (tree_there _ cb r fit.2))

    choice_there : (t a b : Expression) (env : Environment Tree) (ct ca cb : Code) → There (says t env) ct → There (says a env) ca → There (says b env) cb → There (choice_says t a b env) (choice_of ct ca cb)
    choice_there t a b env ct (codes.Constant x) (codes.Constant y) p q r = other_there _ _ (λ fit. constants_there t a b env (tree_of frame ct) x y (tree_there _ ct p fit.0) q r)
    choice_there t a b env ct (codes.Constant x) (Path path) p q r = either_there t a b env ct (codes.Constant x) (Path path) p q r
    choice_there t a b env ct (codes.Constant x) (Other piece) p q r = either_there t a b env ct (codes.Constant x) (Other piece) p q r
    choice_there t a b env ct (Path path) cb p q r = either_there t a b env ct (Path path) cb p q r
    choice_there t a b env ct (Other piece) cb p q r = either_there t a b env ct (Other piece) cb p q r

    path_there : (path : List Side) (x : Meaning) → found_meaning (tree_at path argument) ≡ x → There (λ n. x) (Path path)
    unfolding There
    path_there path x e fit m le = (0, subst (Refines (plain m (path_code (path_from frame path)) here)) (ap found_meaning (path_found frame table argument path) ∙ e) (path_refines m (path_from frame path) here))

    constant_there : (found : Option modules.Constant) → There (λ n. constant_meaning found) (constant_code found)
    constant_there None = fails_there
    constant_there (Some constant) = value_there constant.value

    name_there : (name : List ℕ) (b : Binding Tree) (d : Binding (List Side)) → SameName argument b d → There (λ n. name_meaning source (further_of source n) name b) (name_code source codes_further name d)
    unfolding There
    name_there name b d (to_tree path tree e) = path_there path (Value tree) (ap found_meaning e)
    name_there name b d (to_no_step path e) = path_there path Failed (ap found_meaning e)
    name_there name b d no_path = fails_there
    name_there name b d (expression e scope there there' s c) = λ fit m le. goes m le e scope s there there' argument c fit
    name_there name b d nothing = constant_there (constant_named name source.constants)

    -- ---- operands

    -- Each operand has its code.
    AllThere : Operands → Environment Tree → List Code → Type 0
    AllThere NoMore env [] = Unit {0}
    AllThere NoMore env (code ∷ codes) = ⊥
    AllThere (Operand first more) env [] = ⊥
    AllThere (Operand first more) env (code ∷ codes) = There (says first env) code × AllThere more env codes

    none_there : (env : Environment Tree) → TreesThere NoMore env []
    unfolding TreesThere
    none_there env = λ m le go go' rises covers. covers []

    more_there : (first : Expression) (more : Operands) (env : Environment Tree) (code : Tree) (codes : List Tree) → ThereTree (says first env) code → TreesThere more env codes → TreesThere (Operand first more) env (code ∷ codes)
    unfolding ThereTree TreesThere
    more_there first more env code codes h p = λ m le go go' rises covers.
        p m le (λ values. if_value (plain m code here) (λ v. go (v ∷ values)))
        (λ n values. if_value (says first env n) (λ value. go' n (value ∷ values)))
        (λ values. rises_then (says first env) (λ n v. go' n (v ∷ values)) (says_rises first env) (λ v. rises (v ∷ values)))
        (λ values. covered_then (plain m code here) (says first env) (λ v. go (v ∷ values)) (λ n v. go' n (v ∷ values)) (says_rises first env) (λ v. rises (v ∷ values)) (h m le) (λ v. covers (v ∷ values)))

    trees_there : (operands : Operands) (env : Environment Tree) (codes : List Code) → AllThere operands env codes → AllFit P (parts_of codes) → TreesThere operands env (trees_of frame (parts_of codes))
    unfolding AllThere
    trees_there NoMore env [] h fit = none_there env
    trees_there NoMore env (code ∷ codes) h fit = elim h [ ]
    trees_there (Operand first more) env [] h fit = elim h [ ]
    trees_there (Operand first more) env (code ∷ codes) h fit =
        more_there first more env (tree_of frame code) (trees_of frame (parts_of codes)) (tree_there _ code h.0 fit.0) (trees_there more env codes h.1 fit.1)

    listed_there : (first : Expression) (more : Operands) (env : Environment Tree) (made : Code) → There (λ n. if_value (list_says_by more env n) (λ t. if_value (says first env n) (λ v. Value (Pair v t)))) made → There (list_says_by (Operand first more) env) made
    unfolding There
    listed_there first more env made h fit m le =
        covered_by _ _ _ (λ n. refines_equal _ _ (sym (natural source n (further_of source n) more env (λ values. Value (list_tree values)) (λ t. if_value (says first env n) (λ v. Value (Pair v t)))))) (h fit m le)

    list_there : (operands : Operands) (env : Environment Tree) (codes : List Code) → AllThere operands env codes → There (list_says_by operands env) (list_of codes)
    unfolding AllThere
    list_there NoMore env [] h = value_there nil
    list_there NoMore env (code ∷ codes) h = elim h [ ]
    list_there (Operand first more) env [] h = elim h [ ]
    list_there (Operand first more) env (code ∷ codes) h =
        listed_there first more env (list_of (code ∷ codes)) (pair_there (says first env) (list_says_by more env) (says_rises first env) (list_rises more env) code (list_of codes) h.0 (list_there more env codes h.1))

    operates_there : (operands : Operands) (env : Environment Tree) (codes : List Code) (code : ℕ) → (code == 1) ≡ false → AllThere operands env codes → There (operands_say operands env (λ n. operate n code)) (operates code codes)
    operates_there operands env codes code one h = other_there _ _ (λ fit. operator_there operands env (trees_of frame (parts_of codes)) code one (trees_there operands env codes h fit))

    longer_there : (side : Side) (first : Expression) (env : Environment Tree) (path : List Side) → There (says first env) (Path path) → There (λ n. if_value (says first env n) (λ v. operate n (step_code side) (v ∷ []))) (Path (path ++ side ∷ []))
    unfolding There
    longer_there side first env path h fit zero le = (0, out _)
    longer_there side first env path h fit (suc m) le =
        let from = path_from frame path in
        let found = found_meaning (tree_at from here) in
        covered_same (if_value found (λ v. operate 0 (step_code side) (v ∷ []))) (plain (suc m) (path_code (path_from frame (path ++ side ∷ []))) here) _
        (ap (λ p. plain (suc m) (path_code p) here) (path_longer frame path side) ∙ plain_path m (from ++ side ∷ []) here ∙ sym (found_step 0 side from here))
        (covered_then found (says first env) (λ v. operate 0 (step_code side) (v ∷ [])) (λ n v. operate n (step_code side) (v ∷ [])) (says_rises first env) (λ v. operate_rises (step_code side) (v ∷ []))
        (covered_same (plain (suc m) (path_code from) here) found (says first env) (sym (plain_path m from here)) (h fit (suc m) le)) (λ v. (0, same (operate 0 (step_code side) (v ∷ [])))))

    step_there : (side : Side) → (step_code side == 1) ≡ false → (first : Expression) (env : Environment Tree) (code : Code) → There (says first env) code →
        There (λ n. if_value (says first env n) (λ v. operate n (step_code side) (v ∷ []))) (step_of side code)
    unfolding AllThere
    step_there side one first env (Path path) h = longer_there side first env path h
    step_there side one first env (codes.Constant tree) h = operates_there (Operand first NoMore) env (codes.Constant tree ∷ []) (step_code side) one (h, tt)
    step_there side one first env (Other piece) h = operates_there (Operand first NoMore) env (Other piece ∷ []) (step_code side) one (h, tt)

    one_there : (code : ℕ) → (code == 1) ≡ false → (first : Expression) (env : Environment Tree) (c : Code) → There (says first env) c → (f r : Bool) → (code == 5) ≡ f → (code == 6) ≡ r →
        There (λ n. if_value (says first env n) (λ v. operate n code (v ∷ []))) (cond f (step_of ToFirst c) (cond r (step_of ToRest c) (operates code (c ∷ []))))
    unfolding AllThere
    one_there code one first env c h true r is isnt =
        subst (λ code. There (λ n. if_value (says first env n) (λ v. operate n code (v ∷ []))) (step_of ToFirst c)) (sym (eqb-true code 5 is)) (step_there ToFirst refl first env c h)
    one_there code one first env c h false true isnt is =
        subst (λ code. There (λ n. if_value (says first env n) (λ v. operate n code (v ∷ []))) (step_of ToRest c)) (sym (eqb-true code 6 is)) (step_there ToRest refl first env c h)
    one_there code one first env c h false false isnt neither = operates_there (Operand first NoMore) env (c ∷ []) code one (h, tt)

    pairs_there : (code : ℕ) → (code == 1) ≡ false → (first second : Expression) (env : Environment Tree) (c d : Code) → There (says first env) c → There (says second env) d →
        (is : Bool) → (code == 4) ≡ is → There (operands_say (Operand first (Operand second NoMore)) env (λ n. operate n code)) (cond is (pair_of c d) (operates code (c ∷ d ∷ [])))
    unfolding AllThere
    pairs_there code one first second env c d h k true is =
        subst (λ code. There (operands_say (Operand first (Operand second NoMore)) env (λ n. operate n code)) (pair_of c d)) (sym (eqb-true code 4 is))
        (subst (λ go. There (operands_say (Operand first (Operand second NoMore)) env go) (pair_of c d)) (λ i n values. sym (pair_go n values) i)
        (pair_there (says first env) (says second env) (says_rises first env) (says_rises second env) c d h k))
      where
        made : ℕ → List Tree → Meaning
        made n (a ∷ b ∷ []) = Value (Pair a b)
        made n values = operate n 4 values

        pair_go : (n : ℕ) (values : List Tree) → operate n 4 values ≡ made n values
        pair_go n [] = refl
        pair_go n (a ∷ []) = refl
        pair_go n (a ∷ b ∷ []) = pair_operates n a b
        pair_go n (a ∷ b ∷ c ∷ more) = refl
    pairs_there code one first second env c d h k false is = operates_there (Operand first (Operand second NoMore)) env (c ∷ d ∷ []) code one (h, (k, tt))

    operation_there : (operands : Operands) (env : Environment Tree) (codes : List Code) (code : ℕ) → (code == 1) ≡ false → AllThere operands env codes → There (operands_say operands env (λ n. operate n code)) (operation_of code codes)
    unfolding AllThere
    operation_there NoMore env [] code one h = operates_there NoMore env [] code one h
    operation_there NoMore env (c ∷ codes) code one h = elim h [ ]
    operation_there (Operand first more) env [] code one h = elim h [ ]
    operation_there (Operand first NoMore) env (c ∷ []) code one h = one_there code one first env c h.0 (code == 5) (code == 6) refl refl
    operation_there (Operand first NoMore) env (c ∷ d ∷ codes) code one h = elim h.1 [ ]
    operation_there (Operand first (Operand second more)) env (c ∷ []) code one h = elim h.1 [ ]
    operation_there (Operand first (Operand second NoMore)) env (c ∷ d ∷ []) code one h = pairs_there code one first second env c d h.0 h.1.0 (code == 4) refl
    operation_there (Operand first (Operand second NoMore)) env (c ∷ d ∷ e ∷ codes) code one h = elim h.1.1 [ ]
    operation_there (Operand first (Operand second (Operand third more))) env (c ∷ d ∷ []) code one h = elim h.1.1 [ ]
    operation_there (Operand first (Operand second (Operand third more))) env (c ∷ d ∷ e ∷ codes) code one h = operates_there (Operand first (Operand second (Operand third more))) env (c ∷ d ∷ e ∷ codes) code one h

    -- ---- calls

    function_there : (name : List ℕ) (operands : Operands) (env : Environment Tree) (codes : List Code) → AllThere operands env codes →
        There (λ n. operands_meaning source n (further_of source n) operands env (function_call source (further_of source n) (definition_named name source.functions))) (call_of name codes)
    unfolding There
    function_there name operands env codes h fit m le =
        covered_by _ _ _ (λ n. refines_equal _ _ (sym (called source n (further_of source n) operands env (definition_named name source.functions))))
        (calls name fit.0 argument (tree_of frame (list_of codes)) (list_says_by operands env) (list_rises operands env) (λ m le. list_there operands env codes h fit.1 m le) m le)

    body_there : (f : Definition) (env : Environment Tree) (names : Names) → Corresponds argument env names → (read : Judged Expression) → body_of source f.params f.body ≡ read →
        There (λ n. body_meaning (further_of source n) read env) (body_code codes_further read names)
    unfolding There
    body_there f env names c (Ok e) is = λ fit m le. goes m le e (module_scope source f.params) (is_sound (module_scope source f.params) f.body e is) env names argument c fit
    body_there f env names c (Err first) is = fails_there

    inline_there : (operands : Operands) → AreSound scope operands → (env : Environment Tree) (names : Names) → Corresponds argument env names → (f : Option Definition) →
        There (λ n. inline_call source (further_of source n) operands env f) (inline_code source codes_further operands names f)
    inline_there operands s env names c None = fails_there
    inline_there operands s env names c (Some f) =
        body_there f (inline_environment f.params operands env) (inline_environment f.params operands names) (inline_corresponds argument scope f.params operands s env names c) (body_of source f.params f.body) refl

    mutual
      unfolding AllThere

      pub expression_there : (e : Expression) → IsSound scope e → (env : Environment Tree) (names : Names) → Corresponds argument env names → There (says e env) (expression_code source codes_further e names)
      expression_there (Literal tree) s env names c = value_there tree
      expression_there (Name name) s env names c = name_there name _ _ (same_name argument name env names c)
      expression_there (Choice condition second third) s env names c =
          choice_there condition second third env (expression_code source codes_further condition names) (expression_code source codes_further second names) (expression_code source codes_further third names)
          (expression_there condition s.0 env names c) (expression_there second s.1 env names c) (expression_there third s.2 env names c)
      expression_there (Listing operands) s env names c = list_there operands env (operand_codes source codes_further operands names) (operands_there operands s env names c)
      expression_there (Operation code operands) s env names c = operation_there operands env (operand_codes source codes_further operands names) code s.0 (operands_there operands s.1 env names c)
      expression_there (FunctionCall name operands) s env names c =
          function_there name operands env (operand_codes source codes_further operands names) (operands_there operands s.1 env names c)
      expression_there (InlineCall name operands) s env names c = inline_there operands s.1 env names c (definition_named name source.inlines)
      expression_there (Filled template) s env names c = template_there template s env names c

      operands_there : (operands : Operands) → AreSound scope operands → (env : Environment Tree) (names : Names) → Corresponds argument env names → AllThere operands env (operand_codes source codes_further operands names)
      operands_there NoMore s env names c = tt
      operands_there (Operand first more) s env names c = (expression_there first s.0 env names c, operands_there more s.1 env names c)

      template_there : (t : Template) → IsSoundTemplate scope t → (env : Environment Tree) (names : Names) → Corresponds argument env names → There (template_says t env) (template_code source codes_further t names)
      template_there (Plain tree) s env names c = value_there tree
      template_there (Both first rest) s env names c =
          pair_there (template_says first env) (template_says rest env) (template_rises first env) (template_rises rest env) (template_code source codes_further first names) (template_code source codes_further rest names) (template_there first s.0 env names c) (template_there rest s.1 env names c)
      template_there (Unquoted e) s env names c = expression_there e s env names c
