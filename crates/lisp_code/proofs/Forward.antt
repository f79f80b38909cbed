-- What a source means, its code gives.
use Rattle.std.proofs.Common.{◌≡◌, ℕ, suc, ◌==◌, Bool, true, false, cond, List, [], ◌∷◌, ◌++◌, Option, Some, None, Ok, Err, zero, refl, sym, ap, ◌∙◌, subst, arith}
use Rattle.std.proofs.lemmas.Bool.{eqb-true}
use Rattle.clvm_spec.specs.Tree.{Tree, Atom, Pair, nil, list_tree}
use Rattle.clvm_spec.specs.OperatorTable.{applied}
use Rattle.lisp_spec.specs.Modules as modules
use Rattle.lisp_spec.specs.Modules.{Module, Definition, definition_named, constant_named}
use Rattle.lisp_spec.specs.ModuleFaults.{Judged}
use Rattle.lisp_spec.specs.Parameters.{Side, ToFirst, ToRest, tree_at}
use Rattle.lisp_spec.specs.Expressions.{Expression, Literal, Name, Choice, Listing, Operation, FunctionCall, InlineCall, Filled, Operands, NoMore, Operand, Template, Plain, Both, Unquoted, Scope}
use Rattle.lisp_spec.specs.Scopes.{body_of, module_scope}
use Rattle.lisp_spec.specs.Environments.{step_code, Environment, Binding, function_environment, inline_environment}
use Rattle.lisp_spec.specs.Meaning.{Meaning, Value, Failed, Means, if_value, operator_meaning, all_counts, run_values, operate, constant_meaning, name_meaning, body_meaning, function_call, inline_call, chosen, expression_meaning, operands_meaning, template_meaning}
use Rattle.lisp_spec.proofs.Soundness.{IsSound, AreSound, IsSoundTemplate, is_sound}
use Rattle.lisp_code.proofs.Refining.{Refines, out, same, Covered, Rises}
use Rattle.lisp_code.proofs.Plain.{plain_run, plain_apply, plain_values, plain, found_meaning}
use Rattle.lisp_code.specs.Names.{Names}
use Rattle.lisp_code.specs.Pieces.{operator_code, path_code, failing, pair_code}
use Rattle.lisp_code.specs.Codes.{Code, Path, Other, Piece, Chooses, operates, parts_of, pair_of, list_of, step_of, operation_of, choice_of, call_of}
use Rattle.lisp_code.specs.Codes as codes
use Rattle.lisp_code.specs.Frames.{Frame, path_from, function_path, constant_tree, call_code, tree_of, piece_tree, trees_of}
use Rattle.lisp_code.specs.Code.{constant_code, Codes, name_code, body_code, inline_code, expression_code, operand_codes, template_code}
use Rattle.lisp_code.proofs.Corresponding.{Corresponds, SameName, to_tree, to_no_step, no_path, expression, nothing, world, path_found, path_longer, function_value}
use Rattle.lisp_code.proofs.Fitting.{Fits, PieceFits, AllFit}
use Rattle.lisp_code.proofs.Refined.{refines_equal, refines_then, refines_trans, covered_then, covered_same, covered_suc, covered_third, covered_at_suc, covered_by, rises_then, rises_same, if_value_if_value}
use Rattle.lisp_code.proofs.PlainRuns.{plain_covers_runs}
use Rattle.lisp_code.proofs.PlainForms.{plain_rises, plain_apply_refine, plain_operator, plain_path, plain_failing, plain_pair, picked, if_of, if_gives, constant_is, constant_says, constant_choice, found_step, pair_operates}
use Rattle.lisp_code.proofs.Lookups.{inline_corresponds, same_name}

-- Operands are evaluated before what is done with their values.
pub natural : (source : Module) (n : ℕ) (further : Means) (operands : Operands) (env : Environment Tree) (h : List Tree → Meaning) (g : Tree → Meaning) →
    operands_meaning source n further operands env (λ values. if_value (h values) g) ≡ if_value (operands_meaning source n further operands env h) g
natural source n further NoMore env h g = refl
natural source n further (Operand first more) env h g =
    (λ i. operands_meaning source n further more env (λ values. sym (if_value_if_value (expression_meaning source n further first env) (λ v. h (v ∷ values)) g) i))
    ∙ natural source n further more env (λ values. if_value (expression_meaning source n further first env) (λ v. h (v ∷ values))) g

-- the list of the values
abbrev pub list_value : (source : Module) (n : ℕ) (further : Means) (operands : Operands) (env : Environment Tree) → Meaning
list_value source n further operands env = operands_meaning source n further operands env (λ values. Value (list_tree values))

-- A path's atom at each count.
covered_path : (path : List Side) (env : Tree) (x : Meaning) → x ≡ found_meaning (tree_at path env) → Covered x (λ m. plain m (path_code path) env)
covered_path path env x e = (1, refines_equal _ _ (e ∙ sym (plain_path 0 path env)))

pub covered_failing : (env : Tree) → Covered Failed (λ m. plain m failing env)
covered_failing env = (1, refines_equal _ _ (sym (plain_failing 0 env)))

-- What a function is called with is the list of the operands' values.
pub called : (source : Module) (n : ℕ) (further : Means) (operands : Operands) (env : Environment Tree) (f : Option Definition) →
    operands_meaning source n further operands env (function_call source further f) ≡ if_value (list_value source n further operands env) (function_value source further f)
called source n further operands env None = natural source n further operands env (λ values. Value (list_tree values)) (λ t. Failed)
called source n further operands env (Some f) =
    natural source n further operands env (λ values. Value (list_tree values)) (λ t. body_meaning further (body_of source f.params f.body) (function_environment f.params t))

module _ (source : Module) (n : ℕ) (further : Means) (codes_further : Codes) (frame : Frame) (table : Tree) (P : List ℕ → Type 0)
    (goes : (e : Expression) (scope : Scope) → IsSound scope e → (env : Environment Tree) (names : Names) (argument : Tree) → Corresponds argument env names → Fits P (codes_further e names) →
    Covered (further e env) (λ m. plain m (tree_of frame (codes_further e names)) (world frame table argument)))
    (calls : (name : List ℕ) → P name → (argument list : Tree) (x : Meaning) → Covered x (λ m. plain m list (world frame table argument)) →
    Covered (if_value x (function_value source further (definition_named name source.functions))) (λ m. plain m (call_code (function_path frame name) list) (world frame table argument))) where
  covered_run : (values : List Tree) → Covered (run_values n values) (λ m. plain_run (plain m) values)
  covered_run [] = (0, same Failed)
  covered_run (program ∷ []) = (0, same Failed)
  covered_run (program ∷ env ∷ []) = (suc n, plain_covers_runs program env 0 (all_counts n))
  covered_run (a ∷ b ∷ c ∷ more) = (0, same Failed)

  covered_cond : (b : Bool) (x y : Meaning) (f g : ℕ → Meaning) → Covered x f → Covered y g → Covered (cond b x y) (λ m. cond b (f m) (g m))
  covered_cond true x y f g p q = p
  covered_cond false x y f g p q = q

  covered_operate : (code : ℕ) (values : List Tree) → Covered (operate n code values) (λ m. plain_apply (plain m) (code ∷ []) values)
  covered_operate code values = covered_cond (code == 2) _ _ _ _ (covered_run values) (0, same (operator_meaning (applied (code ∷ []) values)))

  module _ (argument : Tree) (scope : Scope) where
    abbrev here : Tree
    here = world frame table argument

    -- ---- pieces of code, as trees

    HereTree : Meaning → Tree → Type 0
    HereTree x code = Covered x (λ m. plain m code here)

    TreesHere : Operands → Environment Tree → List Tree → Type 0
    TreesHere operands env codes = (go : List Tree → Meaning) (go' : ℕ → List Tree → Meaning) → ((values : List Tree) → Rises (λ m. go' m values)) → ((values : List Tree) → Covered (go values) (λ m. go' m values)) →
        Covered (operands_meaning source n further operands env go) (λ m. plain_values (λ code. plain m code here) codes (go' m))

    operator_here : (operands : Operands) (env : Environment Tree) (codes : List Tree) (code : ℕ) → (code == 1) ≡ false → TreesHere operands env codes → HereTree (operands_meaning source n further operands env (operate n code)) (operator_code code codes)
    unfolding HereTree TreesHere
    operator_here operands env codes code one p =
        covered_suc _ (λ m. plain m (operator_code code codes) here)
        (covered_by _ _ _ (λ m. refines_equal _ _ (sym (plain_operator m code codes here one)))
        (p (operate n code) (λ m. plain_apply (plain m) (code ∷ []))
        (λ values a b le. plain_apply_refine (plain a) (plain b) (λ program env. plain_rises program env a b le) (code ∷ []) values)
        (covered_operate code)))

    two_here : (a b : Meaning) (ca cb : Tree) → HereTree a ca → HereTree b cb → HereTree (if_value b (λ b. if_value a (λ a. Value (Pair a b)))) (pair_code ca cb)
    unfolding HereTree
    two_here a b ca cb p q =
        covered_suc _ (λ m. plain m (pair_code ca cb) here)
        (covered_by _ _ _ (λ m. refines_equal _ _ (sym (plain_pair m ca cb here)))
        (covered_then b (λ m. plain m cb here) _ (λ m b. if_value (plain m ca here) (λ a. Value (Pair a b)))
        (plain_rises cb here) (λ b. rises_then (λ m. plain m ca here) (λ m a. Value (Pair a b)) (plain_rises ca here) (λ a. rises_same (Value (Pair a b)))) q
        (λ b. covered_then a (λ m. plain m ca here) (λ a. Value (Pair a b)) (λ m a. Value (Pair a b)) (plain_rises ca here) (λ a. rises_same (Value (Pair a b))) p (λ a. (0, same (Value (Pair a b)))))))

    chosen_here : (v : Tree) (a b : Environment Tree → Meaning) (env : Environment Tree) (ca cb : Tree) → HereTree (a env) ca → HereTree (b env) cb → HereTree (chosen v a b env) (picked v ca cb)
    chosen_here (Atom []) a b env ca cb p q = q
    chosen_here (Atom (x ∷ bytes)) a b env ca cb p q = p
    chosen_here (Pair first rest) a b env ca cb p q = p

    if_here : (t : Meaning) (a b : Environment Tree → Meaning) (env : Environment Tree) (ct ca cb : Tree) → HereTree t ct → HereTree (a env) ca → HereTree (b env) cb → HereTree (if_value t (λ v. chosen v a b env)) (if_of ct ca cb)
    unfolding HereTree
    if_here t a b env ct ca cb p q r =
        covered_third _ (λ m. plain m (if_of ct ca cb) here)
        (covered_by _ _ _ (λ m. refines_equal _ _ (if_gives m ct ca cb here))
        (covered_then t (λ m. plain (suc m) ct here) _ (λ m v. plain (suc (suc m)) (picked v ca cb) here)
        (λ x y le. plain_rises ct here (suc x) (suc y) (omega arith))
        (λ v x y le. plain_rises (picked v ca cb) here (suc (suc x)) (suc (suc y)) (omega arith))
        (covered_at_suc _ (λ m. plain m ct here) (plain_rises ct here) p)
        (λ v. covered_at_suc _ (λ m. plain (suc m) (picked v ca cb) here) (λ x y le. plain_rises (picked v ca cb) here (suc x) (suc y) (omega arith)) (covered_at_suc _ (λ m. plain m (picked v ca cb) here) (plain_rises (picked v ca cb) here) (chosen_here v a b env ca cb q r)))))

    -- ---- codes

    unfoldable pub Here : Meaning → Code → Type 0
    Here x code = Fits P code → Covered x (λ m. plain m (tree_of frame code) here)

    tree_here : (x : Meaning) (code : Code) → Here x code → Fits P code → HereTree x (tree_of frame code)
    unfolding Here HereTree
    tree_here x code h fit = h fit

    other_here : (x : Meaning) (piece : Piece) → (PieceFits P piece → HereTree x (piece_tree frame piece)) → Here x (Other piece)
    unfolding Here HereTree
    other_here x piece h = h

    -- A constant's meaning is the constant.
    value_of : (x : Meaning) (tree : Tree) → Here x (codes.Constant tree) → Refines x (Value tree)
    unfolding Here
    value_of x tree h = let c = h tt in refines_trans _ _ _ c.1 (constant_says c.0 tree here)

    value_here : (x : Meaning) (tree : Tree) → Refines x (Value tree) → Here x (codes.Constant tree)
    unfolding Here
    value_here x tree r = λ fit. (1, refines_trans _ _ _ r (refines_equal _ _ (sym (constant_is 0 tree here))))

    both_here : (a b : Meaning) (ca cb : Code) → Here a ca → Here b cb → Here (if_value b (λ b. if_value a (λ a. Value (Pair a b)))) (operates 4 (ca ∷ cb ∷ []))
    both_here a b ca cb p q = other_here _ _ (λ fit. two_here a b (tree_of frame ca) (tree_of frame cb) (tree_here a ca p fit.0) (tree_here b cb q fit.1.0))

    pair_here : (a b : Meaning) (ca cb : Code) → Here a ca → Here b cb → Here (if_value b (λ b. if_value a (λ a. Value (Pair a b)))) (pair_of ca cb)
    pair_here a b (codes.Constant x) (codes.Constant y) p q =
        value_here _ (Pair x y) (refines_then b (Value y) _ (λ vb. if_value (Value x) (λ va. Value (Pair va vb))) (value_of b y q)
        (λ vb. refines_then a (Value x) _ (λ va. Value (Pair va vb)) (value_of a x p) (λ va. same (Value (Pair va vb)))))
    pair_here a b (codes.Constant x) (Path path) p q = both_here a b (codes.Constant x) (Path path) p q
    pair_here a b (codes.Constant x) (Other piece) p q = both_here a b (codes.Constant x) (Other piece) p q
    pair_here a b (Path path) cb p q = both_here a b (Path path) cb p q
    pair_here a b (Other piece) cb p q = both_here a b (Other piece) cb p q

    chosen_value : (v : Tree) (a b : Environment Tree → Meaning) (env : Environment Tree) (x y : Tree) → Refines (a env) (Value x) → Refines (b env) (Value y) → Refines (chosen v a b env) (Value (picked v x y))
    chosen_value (Atom []) a b env x y p q = q
    chosen_value (Atom (z ∷ bytes)) a b env x y p q = p
    chosen_value (Pair first rest) a b env x y p q = p

    constants_here : (t : Meaning) (a b : Environment Tree → Meaning) (env : Environment Tree) (ct : Tree) (x y : Tree) → HereTree t ct → Refines (a env) (Value x) → Refines (b env) (Value y) →
        HereTree (if_value t (λ v. chosen v a b env)) (operator_code 3 (ct ∷ constant_tree x ∷ constant_tree y ∷ []))
    unfolding HereTree
    constants_here t a b env ct x y p q r =
        let code = operator_code 3 (ct ∷ constant_tree x ∷ constant_tree y ∷ []) in
        covered_suc _ (λ m. plain m code here) (covered_suc _ (λ m. plain (suc m) code here)
        (covered_by _ _ _ (λ m. refines_equal _ _ (sym (constant_choice m ct x y here)))
        (covered_then t (λ m. plain (suc m) ct here) (λ v. chosen v a b env) (λ m v. Value (picked v x y))
        (λ i j le. plain_rises ct here (suc i) (suc j) (omega arith)) (λ v. rises_same (Value (picked v x y)))
        (covered_at_suc _ (λ m. plain m ct here) (plain_rises ct here) p) (λ v. (0, chosen_value v a b env x y q r)))))

    either_here : (t : Meaning) (a b : Environment Tree → Meaning) (env : Environment Tree) (ct ca cb : Code) → Here t ct → Here (a env) ca → Here (b env) cb → Here (if_value t (λ v. chosen v a b env)) (Other (Chooses ct ca cb))
    either_here t a b env ct ca cb p q r =
        other_here _ _ (λ fit. if_here t a b env (tree_of frame ct) (tree_of frame ca) (tree_of frame cb) (tree_here t ct p fit.0) (tree_here _ ca q fit.1) (tree_here _ cb r fit.2))

    choice_here : (t : Meaning) (a b : Environment Tree → Meaning) (env : Environment Tree) (ct ca cb : Code) → Here t ct → Here (a env) ca → Here (b env) cb → Here (if_value t (λ v. chosen v a b env)) (choice_of ct ca cb)
    choice_here t a b env ct (codes.Constant x) (codes.Constant y) p q r =
        other_here _ _ (λ fit. constants_here t a b env (tree_of frame ct) x y (tree_here t ct p fit.0) (value_of (a env) x q) (value_of (b env) y r))
    choice_here t a b env ct (codes.Constant x) (Path path) p q r = either_here t a b env ct (codes.Constant x) (Path path) p q r
    choice_here t a b env ct (codes.Constant x) (Other piece) p q r = either_here t a b env ct (codes.Constant x) (Other piece) p q r
    choice_here t a b env ct (Path path) cb p q r = either_here t a b env ct (Path path) cb p q r
    choice_here t a b env ct (Other piece) cb p q r = either_here t a b env ct (Other piece) cb p q r

    constant_here : (found : Option modules.Constant) → Here (constant_meaning found) (constant_code found)
    unfolding Here
    constant_here None = λ fit. covered_failing here
    constant_here (Some constant) = λ fit. (1, refines_equal _ _ (sym (constant_is 0 constant.value here)))

    name_here : (name : List ℕ) (b : Binding Tree) (d : Binding (List Side)) → SameName argument b d → Here (name_meaning source further name b) (name_code source codes_further name d)
    unfolding Here
    name_here name b d (to_tree path tree e) = λ fit. covered_path (path_from frame path) here (Value tree) (sym (ap found_meaning (path_found frame table argument path ∙ e)))
    name_here name b d (to_no_step path e) = λ fit. covered_path (path_from frame path) here Failed (sym (ap found_meaning (path_found frame table argument path ∙ e)))
    name_here name b d no_path = λ fit. covered_failing here
    name_here name b d (expression e scope there there' s c) = goes e scope s there there' argument c
    name_here name b d nothing = constant_here (constant_named name source.constants)

    -- ---- operands

    -- Each operand has its code.
    AllHere : Operands → Environment Tree → List Code → Type 0
    AllHere NoMore env [] = Unit {0}
    AllHere NoMore env (code ∷ codes) = ⊥
    AllHere (Operand first more) env [] = ⊥
    AllHere (Operand first more) env (code ∷ codes) = Here (expression_meaning source n further first env) code × AllHere more env codes

    none_here : (env : Environment Tree) → TreesHere NoMore env []
    unfolding TreesHere
    none_here env = λ go go' rises covers. covers []

    more_here : (first : Expression) (more : Operands) (env : Environment Tree) (code : Tree) (codes : List Tree) → HereTree (expression_meaning source n further first env) code → TreesHere more env codes → TreesHere (Operand first more) env (code ∷ codes)
    unfolding HereTree TreesHere
    more_here first more env code codes h p = λ go go' rises covers.
        p (λ values. if_value (expression_meaning source n further first env) (λ value. go (value ∷ values)))
        (λ m values. if_value (plain m code here) (λ v. go' m (v ∷ values)))
        (λ values. rises_then (λ m. plain m code here) (λ m v. go' m (v ∷ values)) (plain_rises _ _) (λ v. rises (v ∷ values)))
        (λ values. covered_then (expression_meaning source n further first env) (λ m. plain m code here) (λ v. go (v ∷ values)) (λ m v. go' m (v ∷ values)) (plain_rises _ _) (λ v. rises (v ∷ values)) h (λ v. covers (v ∷ values)))

    trees_here : (operands : Operands) (env : Environment Tree) (codes : List Code) → AllHere operands env codes → AllFit P (parts_of codes) → TreesHere operands env (trees_of frame (parts_of codes))
    unfolding AllHere
    trees_here NoMore env [] h fit = none_here env
    trees_here NoMore env (code ∷ codes) h fit = elim h [ ]
    trees_here (Operand first more) env [] h fit = elim h [ ]
    trees_here (Operand first more) env (code ∷ codes) h fit =
        more_here first more env (tree_of frame code) (trees_of frame (parts_of codes)) (tree_here _ code h.0 fit.0) (trees_here more env codes h.1 fit.1)

    list_here : (operands : Operands) (env : Environment Tree) (codes : List Code) → AllHere operands env codes → Here (list_value source n further operands env) (list_of codes)
    unfolding AllHere Here
    list_here NoMore env [] h = λ fit. (1, same (Value nil))
    list_here NoMore env (code ∷ codes) h = elim h [ ]
    list_here (Operand first more) env [] h = elim h [ ]
    list_here (Operand first more) env (code ∷ codes) h = λ fit.
        covered_same _ _ _ (natural source n further more env (λ values. Value (list_tree values)) (λ t. if_value (expression_meaning source n further first env) (λ v. Value (Pair v t))))
        (pair_here (expression_meaning source n further first env) (list_value source n further more env) code (list_of codes) h.0 (list_here more env codes h.1) fit)

    operates_here : (operands : Operands) (env : Environment Tree) (codes : List Code) (code : ℕ) → (code == 1) ≡ false → AllHere operands env codes → Here (operands_meaning source n further operands env (operate n code)) (operates code codes)
    operates_here operands env codes code one h = other_here _ _ (λ fit. operator_here operands env (trees_of frame (parts_of codes)) code one (trees_here operands env codes h fit))

    step_here : (side : Side) → (step_code side == 1) ≡ false → (first : Expression) (env : Environment Tree) (code : Code) → Here (expression_meaning source n further first env) code →
        Here (if_value (expression_meaning source n further first env) (λ v. operate n (step_code side) (v ∷ []))) (step_of side code)
    unfolding Here AllHere
    step_here side one first env (Path path) h = λ fit.
        let c = h fit in
        let from = path_from frame path in
        let found = found_meaning (tree_at from here) in
        let is : Refines (expression_meaning source n further first env) found = refines_trans _ _ _ c.1 (path_says_most c.0 from) in (
          1,
          refines_trans _ _ _ (refines_then _ found _ _ is (λ v. same (operate n (step_code side) (v ∷ []))))
              (refines_equal _ _ (found_step n side from here ∙ sym (plain_path 0 (from ++ side ∷ []) here) ∙ ap (λ p. plain 1 (path_code p) here) (sym (path_longer frame path side)))),
        )
      where
        path_says_most : (m : ℕ) (path : List Side) → Refines (plain m (path_code path) here) (found_meaning (tree_at path here))
        path_says_most zero path = out _
        path_says_most (suc m) path = refines_equal _ _ (plain_path m path here)
    step_here side one first env (codes.Constant tree) h = operates_here (Operand first NoMore) env (codes.Constant tree ∷ []) (step_code side) one (h, tt)
    step_here side one first env (Other piece) h = operates_here (Operand first NoMore) env (Other piece ∷ []) (step_code side) one (h, tt)

    one_here : (code : ℕ) → (code == 1) ≡ false → (first : Expression) (env : Environment Tree) (c : Code) → Here (expression_meaning source n further first env) c → (f r : Bool) → (code == 5) ≡ f → (code == 6) ≡ r →
        Here (if_value (expression_meaning source n further first env) (λ v. operate n code (v ∷ []))) (cond f (step_of ToFirst c) (cond r (step_of ToRest c) (operates code (c ∷ []))))
    unfolding AllHere
    one_here code one first env c h true r is isnt =
        subst (λ code. Here (if_value (expression_meaning source n further first env) (λ v. operate n code (v ∷ []))) (step_of ToFirst c)) (sym (eqb-true code 5 is)) (step_here ToFirst refl first env c h)
    one_here code one first env c h false true isnt is =
        subst (λ code. Here (if_value (expression_meaning source n further first env) (λ v. operate n code (v ∷ []))) (step_of ToRest c)) (sym (eqb-true code 6 is)) (step_here ToRest refl first env c h)
    one_here code one first env c h false false isnt neither = operates_here (Operand first NoMore) env (c ∷ []) code one (h, tt)

    pairs_here : (code : ℕ) → (code == 1) ≡ false → (first second : Expression) (env : Environment Tree) (c d : Code) → Here (expression_meaning source n further first env) c → Here (expression_meaning source n further second env) d →
        (is : Bool) → (code == 4) ≡ is → Here (operands_meaning source n further (Operand first (Operand second NoMore)) env (operate n code)) (cond is (pair_of c d) (operates code (c ∷ d ∷ [])))
    unfolding AllHere
    pairs_here code one first second env c d h k true is =
        subst (λ code. Here (operands_meaning source n further (Operand first (Operand second NoMore)) env (operate n code)) (pair_of c d)) (sym (eqb-true code 4 is))
        (subst (λ go. Here (operands_meaning source n further (Operand first (Operand second NoMore)) env go) (pair_of c d)) (λ i values. sym (pair_go values) i)
        (pair_here (expression_meaning source n further first env) (expression_meaning source n further second env) c d h k))
      where
        made : List Tree → Meaning
        made (a ∷ b ∷ []) = Value (Pair a b)
        made values = operate n 4 values

        pair_go : (values : List Tree) → operate n 4 values ≡ made values
        pair_go [] = refl
        pair_go (a ∷ []) = refl
        pair_go (a ∷ b ∷ []) = pair_operates n a b
        pair_go (a ∷ b ∷ c ∷ more) = refl
    pairs_here code one first second env c d h k false is = operates_here (Operand first (Operand second NoMore)) env (c ∷ d ∷ []) code one (h, (k, tt))

    operation_here : (operands : Operands) (env : Environment Tree) (codes : List Code) (code : ℕ) → (code == 1) ≡ false → AllHere operands env codes → Here (operands_meaning source n further operands env (operate n code)) (operation_of code codes)
    unfolding AllHere
    operation_here NoMore env [] code one h = operates_here NoMore env [] code one h
    operation_here NoMore env (c ∷ codes) code one h = elim h [ ]
    operation_here (Operand first more) env [] code one h = elim h [ ]
    operation_here (Operand first NoMore) env (c ∷ []) code one h = one_here code one first env c h.0 (code == 5) (code == 6) refl refl
    operation_here (Operand first NoMore) env (c ∷ d ∷ codes) code one h = elim h.1 [ ]
    operation_here (Operand first (Operand second more)) env (c ∷ []) code one h = elim h.1 [ ]
    operation_here (Operand first (Operand second NoMore)) env (c ∷ d ∷ []) code one h = pairs_here code one first second env c d h.0 h.1.0 (code == 4) refl
    operation_here (Operand first (Operand second NoMore)) env (c ∷ d ∷ e ∷ codes) code one h = elim h.1.1 [ ]
    operation_here (Operand first (Operand second (Operand third more))) env (c ∷ d ∷ []) code one h = elim h.1.1 [ ]
    operation_here (Operand first (Operand second (Operand third more))) env (c ∷ d ∷ e ∷ codes) code one h = operates_here (Operand first (Operand second (Operand third more))) env (c ∷ d ∷ e ∷ codes) code one h

    -- ---- calls

    function_here : (name : List ℕ) (operands : Operands) (env : Environment Tree) (codes : List Code) → AllHere operands env codes →
        Here (operands_meaning source n further operands env (function_call source further (definition_named name source.functions))) (call_of name codes)
    unfolding Here
    function_here name operands env codes h = λ fit.
        covered_same _ _ _ (called source n further operands env (definition_named name source.functions))
        (calls name fit.0 argument (tree_of frame (list_of codes)) (list_value source n further operands env) (list_here operands env codes h fit.1))

    body_here : (f : Definition) (env : Environment Tree) (names : Names) → Corresponds argument env names → (read : Judged Expression) → body_of source f.params f.body ≡ read → Here (body_meaning further read env) (body_code codes_further read names)
    unfolding Here
    body_here f env names c (Ok e) is = goes e (module_scope source f.params) (is_sound (module_scope source f.params) f.body e is) env names argument c
    body_here f env names c (Err first) is = λ fit. covered_failing here

    inline_here : (operands : Operands) → AreSound scope operands → (env : Environment Tree) (names : Names) → Corresponds argument env names → (f : Option Definition) →
        Here (inline_call source further operands env f) (inline_code source codes_further operands names f)
    unfolding Here
    inline_here operands s env names c None = λ fit. covered_failing here
    inline_here operands s env names c (Some f) =
        body_here f (inline_environment f.params operands env) (inline_environment f.params operands names) (inline_corresponds argument scope f.params operands s env names c) (body_of source f.params f.body) refl

    mutual
      unfolding AllHere

      pub expression_here : (e : Expression) → IsSound scope e → (env : Environment Tree) (names : Names) → Corresponds argument env names → Here (expression_meaning source n further e env) (expression_code source codes_further e names)
      expression_here (Literal tree) s env names c = value_here (Value tree) tree (same (Value tree))
      expression_here (Name name) s env names c = name_here name _ _ (same_name argument name env names c)
      expression_here (Choice condition second third) s env names c =
          choice_here (expression_meaning source n further condition env) (expression_meaning source n further second) (expression_meaning source n further third) env
          (expression_code source codes_further condition names) (expression_code source codes_further second names) (expression_code source codes_further third names)
          (expression_here condition s.0 env names c) (expression_here second s.1 env names c) (expression_here third s.2 env names c)
      expression_here (Listing operands) s env names c = list_here operands env (operand_codes source codes_further operands names) (operands_here operands s env names c)
      expression_here (Operation code operands) s env names c = operation_here operands env (operand_codes source codes_further operands names) code s.0 (operands_here operands s.1 env names c)
      expression_here (FunctionCall name operands) s env names c =
          function_here name operands env (operand_codes source codes_further operands names) (operands_here operands s.1 env names c)
      expression_here (InlineCall name operands) s env names c = inline_here operands s.1 env names c (definition_named name source.inlines)
      expression_here (Filled template) s env names c = template_here template s env names c

      operands_here : (operands : Operands) → AreSound scope operands → (env : Environment Tree) (names : Names) → Corresponds argument env names → AllHere operands env (operand_codes source codes_further operands names)
      operands_here NoMore s env names c = tt
      operands_here (Operand first more) s env names c = (expression_here first s.0 env names c, operands_here more s.1 env names c)

      template_here : (t : Template) → IsSoundTemplate scope t → (env : Environment Tree) (names : Names) → Corresponds argument env names → Here (template_meaning source n further t env) (template_code source codes_further t names)
      template_here (Plain tree) s env names c = value_here (Value tree) tree (same (Value tree))
      template_here (Both first rest) s env names c =
          pair_here (template_meaning source n further first env) (template_meaning source n further rest env) (template_code source codes_further first names) (template_code source codes_further rest names) (template_here first s.0 env names c) (template_here rest s.1 env names c)
      template_here (Unquoted e) s env names c = expression_here e s env names c
