-- The code of a module agrees with it.
use Rattle.std.proofs.Common.{◌≡◌, Ok, Err, ℕ, zero, suc, ◌+◌, ◌<◌, ◌≤◌, inl, inr, true, false, List, [], ◌∷◌, length, Option, Some, None, option_map, refl, sym, ap, ◌∙◌, subst, true≢false, arith}
use Rattle.std.specs.List.{AllByRecursion}
use Rattle.clvm_spec.specs.declared.fuel.Fuel.{Fuel}
use Rattle.clvm_spec.specs.Spending.{Spending}
use Rattle.clvm_spec.specs.Tree.{Tree, Pair}
use Rattle.clvm_spec.specs.Outcomes as run
use Rattle.clvm_spec.specs.Outcomes.{Why, Outcome}
use Rattle.clvm_spec.specs.Evaluation.{evaluation, run_outcome}
use Rattle.lisp_spec.specs.Forms.{Form}
use Rattle.lisp_spec.specs.Modules.{Module, Definition, definition_named}
use Rattle.lisp_spec.specs.Parameters.{Side, ToFirst, tree_at}
use Rattle.clvm_spec.specs.Currying.{quote_of}
use Rattle.lisp_spec.specs.Expressions.{Expression, Scope}
use Rattle.lisp_spec.specs.Scopes.{body_of, module_scope}
use Rattle.lisp_spec.specs.ModuleFaults.{Judged, is_among}
use Rattle.lisp_spec.specs.Environments.{Environment, function_environment}
use Rattle.lisp_spec.specs.Meaning.{Meaning, Means, Value, Failed, Wide, Out, if_value, run_meaning, body_meaning, expression_meaning, meaning_within, meaning, module_meaning}
use Rattle.lisp_spec.proofs.Soundness.{IsSound, is_sound}
use Rattle.lisp_spec.specs.Agreement.{HasValue, IsWide, IsFailing, RunsTo, RunsWide, RunsAstray, Agrees, FailsAlike}
use Rattle.lisp_code.proofs.Refining.{Refines, out, same, Covered, Rises}
use Rattle.lisp_code.proofs.Enough.{Reaches, value, failed, wide, Enough}
use Rattle.lisp_code.proofs.Enough as reaches
use Rattle.lisp_code.proofs.Plain.{plain}
use Rattle.lisp_code.specs.Names.{Names, function_names}
use Rattle.lisp_code.specs.Pieces.{operator_code, path_code, pair_code}
use Rattle.lisp_code.specs.Codes.{Code, functions_called}
use Rattle.lisp_code.specs.Frames.{Function, Frame, Bare, Wrapped, places_of, frame_of, function_path, call_code, tree_of, framed}
use Rattle.lisp_code.specs.Code.{body_code, function_of}
use Rattle.lisp_code.proofs.Depths.{loops, code_within, own_code, coded, reached_at, frame_at, table_of, module_code, IsSettled}
use Rattle.lisp_code.proofs.Corresponding.{Corresponds, world, function_value}
use Rattle.lisp_code.proofs.Fitting.{Fits, fits}
use Rattle.lisp_code.proofs.Calling.{unknown_gives, known_gives, unknown_says, known_says}
use Rattle.lisp_code.proofs.Reaching.{named, has_name, NamesIn, AreClosed, Reach, reaches, reached_has, coded_named, coded_has, coded_none}
use Rattle.lisp_code.proofs.Placing.{each_place, has_each, stands}
use Rattle.lisp_code.proofs.Placing.{no_path_in}
use Rattle.lisp_spec.proofs.CycleProofs.{is_same, cases}
use Rattle.lisp_spec.proofs.MeaningProofs.{refines_body}
use Rattle.lisp_code.proofs.Refined.{refines_equal, refines_trans, settled, covered_from, covered_by}
use Rattle.lisp_code.proofs.PlainRuns.{plain_covers_runs}
use Rattle.lisp_code.proofs.EnoughFuel.{fuel_is_enough}
use Rattle.lisp_code.proofs.PlainForms.{plain_rises, plain_operator, plain_path, plain_pair, looping_says_nothing, value_then, quote_says, path_says}
use Rattle.lisp_code.proofs.Lookups.{function_corresponds}
use Rattle.lisp_code.proofs.Forward.{covered_failing, Here, expression_here}
use Rattle.lisp_code.proofs.Backward.{further_of, meaning_is, further_covered, failing_refines, rises_further, There, expression_there}

-- ---- where functions are found

module _ (source : Module) (depth : ℕ) where
  abbrev pub frame : Frame
  frame = frame_at source depth

  abbrev pub here_table : Tree
  here_table = table_of frame

  abbrev pub runs_on : Tree → Tree
  runs_on argument = world frame here_table argument

  abbrev fs : List Function
  fs = coded source depth

  abbrev there : List Function
  there = reached_at source depth

  abbrev code_of : Definition → Code
  code_of f = (function_of source (code_within source depth) f).code

  reach : Reach (functions_called (own_code source depth)) fs there
  reach = reaches (length fs) (functions_called (own_code source depth)) fs (omega arith)

  -- Whoever has this name is reached.
  abbrev IsThere : List ℕ → Type 0
  IsThere name = has_name name fs ≡ true → has_name name there ≡ true

  abbrev AtPlace : List ℕ → Option Definition → Type 0
  AtPlace name None = function_path frame name ≡ None
  AtPlace name (Some f) =
      (path : List Side) × (function_path frame name ≡ Some (ToFirst ∷ path)) × (tree_at path here_table ≡ Some (tree_of frame (code_of f)))
      × ((t : Tree) → runs_on t ≡ Pair here_table t) × ((called : List ℕ) → is_among called (functions_called (code_of f)) ≡ true → IsThere called)

  abbrev pub IsPlaced : List ℕ → Type 0
  IsPlaced name = AtPlace name (definition_named name source.functions)

  abbrev Calling : Function → Type 0
  Calling g = (named g.name fs ≡ Some g) × NamesIn fs there (functions_called g.code)

  all_calling : (all : List Function) → AllByRecursion (λ g. named g.name fs ≡ Some g) all → AreClosed fs there all → AllByRecursion Calling all
  all_calling [] h k = tt
  all_calling (g ∷ all) h k = ((h.0, k.0), all_calling all h.1 k.1)

  known_place : (all : List Function) → AllByRecursion Calling all → (name : List ℕ) (f : Definition) → named name fs ≡ Some (function_of source (code_within source depth) f) → has_name name all ≡ true →
      (path : List Side) × (function_path (frame_of all) name ≡ Some (ToFirst ∷ path)) × (tree_at path (table_of (frame_of all)) ≡ Some (tree_of (frame_of all) (code_of f)))
      × ((t : Tree) → world (frame_of all) (table_of (frame_of all)) t ≡ Pair (table_of (frame_of all)) t) × ((called : List ℕ) → is_among called (functions_called (code_of f)) ≡ true → IsThere called)
  known_place [] h name f e has = absurd cc
  known_place (g ∷ all) h name f e has =
      let s = stands (Wrapped (places_of g all)) Calling name (places_of g all) (each_place Calling g all h) (has_each name g all ∙ has) in
      let found : Some s.f ≡ Some (function_of source (code_within source depth) f) = sym s.holds.0 ∙ ap (λ n. named n fs) (is_same s.f.name name s.is_named) ∙ e in
      let same : s.f ≡ function_of source (code_within source depth) f = cc in (
        s.path,
        ap (option_map (λ path. ToFirst ∷ path)) s.is_path,
        s.leads ∙ ap (λ h. Some (tree_of (Wrapped (places_of g all)) h.code)) same,
        (λ t. refl),
        λ called c. s.holds.1 called (subst (λ h. is_among called (functions_called h.code) ≡ true) (sym same) c),
      )

  no_place : (all : List Function) (name : List ℕ) → has_name name all ≡ false → function_path (frame_of all) name ≡ None
  no_place [] name e = refl
  no_place (g ∷ all) name e = ap (option_map (λ path. ToFirst ∷ path)) (no_path_in name (places_of g all) (has_each name g all ∙ e))

  at_place : (name : List ℕ) → IsThere name → (found : Option Definition) → definition_named name source.functions ≡ found → AtPlace name found
  at_place name is None e = no_place there name (elim (cases (has_name name there)) [
    | inl t ↦ absurd (true≢false (sym (reached_has fs there reach.are_named name t) ∙ coded_none source (code_within source depth) name source.functions e))
    | inr n ↦ n
  ])
  at_place name is (Some f) e =
      known_place there (all_calling there reach.are_named reach.closed) name f (coded_named source (code_within source depth) name source.functions f e) (is (coded_has source (code_within source depth) name source.functions f e))

  own_fits : Fits IsPlaced (own_code source depth)
  own_fits = fits IsPlaced (own_code source depth) (λ name c. at_place name (reach.named_there name c) (definition_named name source.functions) refl)

  function_fits : (f : Definition) → ((called : List ℕ) → is_among called (functions_called (code_of f)) ≡ true → IsThere called) → Fits IsPlaced (code_of f)
  function_fits f h = fits IsPlaced (code_of f) (λ name c. at_place name (h name c) (definition_named name source.functions) refl)

-- ---- all that a source means is given

module _ (source : Module) (depth : ℕ) where
  abbrev pub P : List ℕ → Type 0
  P = IsPlaced source depth

  abbrev pub code_tree : Code → Tree
  code_tree code = tree_of (frame source depth) code

  abbrev pub world_of : Tree → Tree
  world_of argument = runs_on source depth argument

  abbrev pub table : Tree
  table = here_table source depth

  abbrev pub Given : ℕ → ℕ → Type 0
  Given n b = (e : Expression) (scope : Scope) → IsSound scope e → (env : Environment Tree) (names : Names) (argument : Tree) → Corresponds argument env names → Fits P (code_within source b e names) →
      Covered (meaning_within source n e env) (λ m. plain m (code_tree (code_within source b e names)) (world_of argument))

  body_given : (n b : ℕ) → Given n b → (params body : Form) (argument : Tree) (read : Judged Expression) → body_of source params body ≡ read → Fits P (body_code (code_within source b) read (function_names params)) →
      Covered (body_meaning (meaning_within source n) read (function_environment params argument)) (λ m. plain m (code_tree (body_code (code_within source b) read (function_names params))) (world_of argument))
  body_given n b given params body argument (Ok e) is fit =
      given e (module_scope source params) (is_sound (module_scope source params) body e is) (function_environment params argument) (function_names params) argument (function_corresponds argument params) fit
  body_given n b given params body argument (Err first) is fit = covered_failing (world_of argument)

  -- A count that doesn't suffice covers all but what fails at once.
  no_body : (params body : Form) (argument : Tree) (read : Judged Expression) →
      Covered (body_meaning (λ e env. Out) read (function_environment params argument)) (λ m. plain m (code_tree (body_code (code_within source depth) read (function_names params))) (world_of argument))
  no_body params body argument (Ok e) = (0, out _)
  no_body params body argument (Err first) = covered_failing (world_of argument)

  abbrev Bodies : Means → Type 0
  Bodies further = (f : Definition) → Fits P (code_of source depth f) → (t : Tree) → Covered (body_meaning further (body_of source f.params f.body) (function_environment f.params t)) (λ m. plain m (code_tree (code_of source depth f)) (world_of t))

  called_by : (further : Means) → Bodies further → (name : List ℕ) (found : Option Definition) → AtPlace source depth name found → (argument list : Tree) (x : Meaning) → Covered x (λ m. plain m list (world_of argument)) →
      Covered (if_value x (function_value source further found)) (λ m. plain m (call_code (function_path (frame source depth) name) list) (world_of argument))
  called_by further bodies name None at argument list x c =
      subst (λ path. Covered (if_value x (λ t. Failed)) (λ m. plain m (call_code path list) (world_of argument))) (sym at) (unknown_gives list (world_of argument) x c)
  called_by further bodies name (Some f) at argument list x c =
      let world_is = at.3 in
      let go = function_value source further (Some f) in
      let goes : (t : Tree) → Covered (go t) (λ m. plain m (code_tree (code_of source depth f)) (Pair table t)) =
      λ t. subst (λ w. Covered (go t) (λ m. plain m (code_tree (code_of source depth f)) w)) (world_is t) (bodies f (function_fits source depth f at.4) t) in
      subst (λ path. Covered (if_value x go) (λ m. plain m (call_code path list) (world_of argument))) (sym at.1)
      (subst (λ w. Covered (if_value x go) (λ m. plain m (call_code (Some (ToFirst ∷ at.0)) list) w)) (sym (world_is argument))
      (known_gives table argument list (code_tree (code_of source depth f)) at.0 at.2 x go goes (subst (λ w. Covered x (λ m. plain m list w)) (world_is argument) c)))

  abbrev Called : Means → Type 0
  Called further = (name : List ℕ) → P name → (argument list : Tree) (x : Meaning) → Covered x (λ m. plain m list (world_of argument)) →
      Covered (if_value x (function_value source further (definition_named name source.functions))) (λ m. plain m (call_code (function_path (frame source depth) name) list) (world_of argument))

  no_calls : Called (λ e env. Out)
  no_calls name at = called_by (λ e env. Out) (λ f fit t. no_body f.params f.body t (body_of source f.params f.body)) name (definition_named name source.functions) at

  all_calls : (n : ℕ) → Given n depth → Called (meaning_within source n)
  all_calls n given name at =
      called_by (meaning_within source n) (λ f fit t. body_given n depth given f.params f.body t (body_of source f.params f.body) refl fit) name (definition_named name source.functions) at

  pub given : (n b : ℕ) → n ≤ b → n ≤ depth → Given n b
  unfolding Here
  given zero zero h k e scope s env names argument c =
      expression_here source zero (λ e env. Out) (λ e names. loops) (frame source depth) table P (λ e scope s env names argument c fit. (0, out _)) no_calls argument scope e s env names c
  given zero (suc b) h k e scope s env names argument c =
      expression_here source zero (λ e env. Out) (code_within source b) (frame source depth) table P (λ e scope s env names argument c fit. (0, out _)) no_calls argument scope e s env names c
  given (suc n) zero h k e scope s env names argument c = absurd (omega arith)
  given (suc n) (suc b) h k e scope s env names argument c =
      expression_here source (suc n) (meaning_within source n) (code_within source b) (frame source depth) table P (given n b (omega arith) (omega arith)) (all_calls n (given n depth (omega arith) (omega arith))) argument scope e s env names c

  -- ---- all that code gives is meant

  abbrev pub Meant : ℕ → ℕ → Type 0
  Meant most b = (m : ℕ) → m ≤ most → (e : Expression) (scope : Scope) → IsSound scope e → (env : Environment Tree) (names : Names) (argument : Tree) → Corresponds argument env names → Fits P (code_within source b e names) →
      Covered (plain m (code_tree (code_within source b e names)) (world_of argument)) (λ n. meaning_within source n e env)

  body_meant : (most b : ℕ) → Meant most b → (m : ℕ) → m ≤ most → (params body : Form) (argument : Tree) (read : Judged Expression) → body_of source params body ≡ read → Fits P (body_code (code_within source b) read (function_names params)) →
      Covered (plain m (code_tree (body_code (code_within source b) read (function_names params))) (world_of argument)) (λ n. body_meaning (meaning_within source n) read (function_environment params argument))
  body_meant most b meant m le params body argument (Ok e) is fit =
      meant m le e (module_scope source params) (is_sound (module_scope source params) body e is) (function_environment params argument) (function_names params) argument (function_corresponds argument params) fit
  body_meant most b meant m le params body argument (Err first) is fit = (0, failing_refines m (world_of argument))

  abbrev value_says : Option Definition → ℕ → Tree → Meaning
  value_says found n t = function_value source (further_of source n) found t

  value_rises : (f : Definition) (t : Tree) → Rises (λ n. value_says (Some f) n t)
  value_rises f t a b le =
      refines_body source a b le (further_of source a) (further_of source b) (rises_further source a b le) (body_of source f.params f.body) (function_environment f.params t)

  abbrev BodiesMeant : ℕ → Type 0
  BodiesMeant most = (m : ℕ) → m < most → (f : Definition) → Fits P (code_of source depth f) → (t : Tree) → Covered (plain m (code_tree (code_of source depth f)) (world_of t)) (λ n. value_says (Some f) n t)

  called_says : (most : ℕ) → BodiesMeant most → (name : List ℕ) (found : Option Definition) → AtPlace source depth name found → (argument list : Tree) (y : ℕ → Meaning) → Rises y →
      ((m : ℕ) → m ≤ most → Covered (plain m list (world_of argument)) y) → (m : ℕ) → m ≤ most →
      Covered (plain m (call_code (function_path (frame source depth) name) list) (world_of argument)) (λ n. if_value (y n) (value_says found n))
  called_says most bodies name None at argument list y rises c m le =
      subst (λ path. Covered (plain m (call_code path list) (world_of argument)) (λ n. if_value (y n) (λ t. Failed))) (sym at) (unknown_says most list (world_of argument) y rises c m le)
  called_says most bodies name (Some f) at argument list y rises c m le =
      let world_is = at.3 in
      let code = code_tree (code_of source depth f) in
      let goes : (m : ℕ) → m < most → (t : Tree) → Covered (plain m code (Pair table t)) (λ n. value_says (Some f) n t) =
      λ m le t. subst (λ w. Covered (plain m code w) (λ n. value_says (Some f) n t)) (world_is t) (bodies m le f (function_fits source depth f at.4) t) in
      subst (λ path. Covered (plain m (call_code path list) (world_of argument)) (λ n. if_value (y n) (value_says (Some f) n))) (sym at.1)
      (subst (λ w. Covered (plain m (call_code (Some (ToFirst ∷ at.0)) list) w) (λ n. if_value (y n) (value_says (Some f) n))) (sym (world_is argument))
      (known_says most table argument list code at.0 at.2 y rises (value_says (Some f)) (value_rises f) goes
      (λ m le. subst (λ w. Covered (plain m list w) y) (world_is argument) (c m le)) m le))

  abbrev CallsMeant : ℕ → Type 0
  CallsMeant most = (name : List ℕ) → P name → (argument list : Tree) (y : ℕ → Meaning) → Rises y → ((m : ℕ) → m ≤ most → Covered (plain m list (world_of argument)) y) → (m : ℕ) → m ≤ most →
      Covered (plain m (call_code (function_path (frame source depth) name) list) (world_of argument)) (λ n. if_value (y n) (function_value source (further_of source n) (definition_named name source.functions)))

  by_expression : (x : Meaning) (e : Expression) (env : Environment Tree) → Covered x (λ n. expression_meaning source n (further_of source n) e env) → Covered x (λ n. meaning_within source n e env)
  by_expression x e env c = covered_by _ _ _ (λ n. refines_equal _ _ (sym (meaning_is source n e env))) c

  meant_by : (most : ℕ) → CallsMeant most → (b : ℕ) → Meant most b
  unfolding There
  meant_by most calls zero m le e scope s env names argument c fit =
      by_expression _ e env (expression_there source (frame source depth) table most P calls (λ e names. loops)
      (λ m le e scope s env names argument c fit. (0, refines_trans _ _ _ (refines_equal _ _ (looping_says_nothing m (world_of argument))) (out _))) argument scope e s env names c fit m le)
  meant_by most calls (suc b) m le e scope s env names argument c fit =
      by_expression _ e env (expression_there source (frame source depth) table most P calls (code_within source b)
      (λ m le e scope s env names argument c fit. further_covered source _ e env (meant_by most calls b m le e scope s env names argument c fit)) argument scope e s env names c fit m le)

  calls_meant : (most : ℕ) → CallsMeant most
  calls_meant zero name at = called_says zero (λ m h f fit t. absurd (omega arith)) name (definition_named name source.functions) at
  calls_meant (suc most) name at =
      called_says (suc most)
      (λ m h f fit t. further_body f t _ (body_meant most depth (meant_by most (calls_meant most) depth) m (omega arith) f.params f.body t (body_of source f.params f.body) refl fit))
      name (definition_named name source.functions) at
    where
      further_body : (f : Definition) (t : Tree) (x : Meaning) → Covered x (λ n. body_meaning (meaning_within source n) (body_of source f.params f.body) (function_environment f.params t)) → Covered x (λ n. value_says (Some f) n t)
      further_body f t x c = (suc c.0, c.1)

  pub all_meant : (m b : ℕ) → Meant m b
  all_meant m b = meant_by m (calls_meant m) b

-- ---- the module's code

module _ (table body : Tree) where
  abbrev wrapped : Tree
  wrapped = operator_code 2 (quote_of body ∷ pair_code (quote_of table) (path_code []) ∷ [])

  start_says : (m : ℕ) (argument : Tree) → Refines (plain m (pair_code (quote_of table) (path_code [])) argument) (Value (Pair table argument))
  start_says zero argument = out _
  start_says (suc m) argument =
      refines_trans _ _ _ (refines_equal _ _ (plain_pair m (quote_of table) (path_code []) argument))
      (value_then _ argument _ _ (path_says m [] argument argument refl) (value_then _ table _ _ (quote_says m table argument) (same (Value (Pair table argument)))))

  wrapped_says : (m : ℕ) (argument : Tree) → Refines (plain m wrapped argument) (plain m body (Pair table argument))
  wrapped_says zero argument = out _
  wrapped_says (suc m) argument =
      let start = pair_code (quote_of table) (path_code []) in
      let starts : Refines (plain m start argument) (Value (Pair table argument)) = start_says m argument in
      refines_trans _ _ _ (refines_equal _ _ (plain_operator m 2 (quote_of body ∷ start ∷ []) argument refl))
      (value_then _ (Pair table argument) _ _ starts (value_then _ body _ _ (quote_says m body argument) (plain_rises body (Pair table argument) m (suc m) (omega arith))))

  start_gives : (m : ℕ) (argument : Tree) → plain (suc (suc m)) (pair_code (quote_of table) (path_code [])) argument ≡ Value (Pair table argument)
  start_gives m argument =
      plain_pair (suc m) (quote_of table) (path_code []) argument ∙ ap (λ x. if_value x (λ b. Value (Pair table b))) (plain_path m [] argument)

  wrapped_gives : (m : ℕ) (argument : Tree) → plain (suc (suc m)) body (Pair table argument) ≡ plain (suc (suc (suc m))) wrapped argument
  wrapped_gives m argument =
      let start = pair_code (quote_of table) (path_code []) in
      sym (plain_operator (suc (suc m)) 2 (quote_of body ∷ start ∷ []) argument refl
      ∙ ap (λ x. if_value x (λ e. plain (suc (suc m)) body e)) (start_gives m argument))

framed_says : (body : Code) (frame : Frame) (m : ℕ) (argument : Tree) → Refines (plain m (framed body frame) argument) (plain m (tree_of frame body) (world frame (table_of frame) argument))
framed_says body Bare m argument = same _
framed_says body (Wrapped places) m argument = wrapped_says (table_of (Wrapped places)) (tree_of (Wrapped places) body) m argument

framed_gives : (body : Code) (frame : Frame) (found : Meaning) (m : ℕ) (argument : Tree) → plain (suc (suc m)) (tree_of frame body) (world frame (table_of frame) argument) ≡ found →
    (more : ℕ) × (plain more (framed body frame) argument ≡ found)
framed_gives body Bare found m argument e = (suc (suc m), e)
framed_gives body (Wrapped places) found m argument e = (suc (suc (suc m)), sym (wrapped_gives (table_of (Wrapped places)) (tree_of (Wrapped places) body) m argument) ∙ e)

-- ---- runs

reached_value : (need : Spending) (fuel : Fuel) (m : Meaning) (o : Outcome) (v : Tree) → m ≡ Value v → Reaches need fuel m o → (left : Fuel) × (o ≡ run.Done v left)
reached_value need fuel m o v e (value w left h) = (left, let same : w ≡ v = cc in ap (λ w. run.Done w left) same)
reached_value need fuel m o v e (failed why form) = cc
reached_value need fuel m o v e wide = cc
reached_value need fuel m o v e (reaches.out o') = cc

reached_wide : (need : Spending) (fuel : Fuel) (m : Meaning) (o : Outcome) → m ≡ Wide → Reaches need fuel m o → o ≡ run.Wide
reached_wide need fuel m o e (value w left h) = cc
reached_wide need fuel m o e (failed why form) = cc
reached_wide need fuel m o e wide = refl
reached_wide need fuel m o e (reaches.out o') = cc

reached_failure : (need : Spending) (fuel : Fuel) (m : Meaning) (o : Outcome) → m ≡ Failed → Reaches need fuel m o → (why : Why) × (form : Tree) × (o ≡ run.Failed why form)
reached_failure need fuel m o e (value w left h) = absurd cc
reached_failure need fuel m o e (failed why form) = (why, form, refl)
reached_failure need fuel m o e wide = absurd cc
reached_failure need fuel m o e (reaches.out o') = absurd cc

module _ (m : ℕ) (program argument : Tree) where
  abbrev enough : Enough (plain m program argument) (evaluation program argument)
  enough = fuel_is_enough m program argument

  abbrev ample : Fuel
  ample = record { cost = enough.need.cost; pairs = enough.need.pairs; bytes = enough.need.bytes; depth = enough.deep }

  ample_reaches : Reaches enough.need ample (plain m program argument) (evaluation program argument 0 ample)
  ample_reaches = enough.holds 0 ample (record { cost = omega arith; pairs = omega arith; bytes = omega arith }) (omega arith)

  pub runs_to : (v : Tree) → plain m program argument ≡ Value v → RunsTo program argument v
  runs_to v e = let r = reached_value enough.need ample (plain m program argument) (evaluation program argument 0 ample) v e ample_reaches in (ample, r.0, r.1)

  pub runs_wide : plain m program argument ≡ Wide → RunsWide program argument
  runs_wide e = (ample, reached_wide enough.need ample (plain m program argument) (evaluation program argument 0 ample) e ample_reaches)

  pub runs_astray : plain m program argument ≡ Failed → RunsAstray program argument
  runs_astray e = let r = reached_failure enough.need ample (plain m program argument) (evaluation program argument 0 ample) e ample_reaches in (ample, r.0, r.1, r.2)

-- ---- both ways

module _ (source : Module) (depth : ℕ) (is_settled : IsSettled source depth) (argument : Tree) where
  code_gives : (found : Meaning) → (found ≡ Out → ⊥) → (n : ℕ) → module_meaning source argument n ≡ found → (m : ℕ) × (plain m (module_code source depth) argument ≡ found)
  unfolding meaning module_code
  code_gives found not_out n e =
      let b = n + depth in
      let c = body_given source b n b (given source b n b (omega arith) (omega arith)) source.params source.body argument (body_of source source.params source.body) refl (own_fits source b) in
      let m = c.0 in
      let body = code_tree source b (own_code source b) in
      let here = world_of source b argument in
      let gives : Refines found (plain (suc (suc m)) body here) = refines_trans _ _ _ (subst (λ x. Refines x (plain m body here)) e c.1) (plain_rises body here m (suc (suc m)) (omega arith)) in
      let whole = framed_gives (own_code source b) (frame_at source b) found m argument (sym (settled found _ gives not_out)) in
      (whole.0, sym (ap (λ code. plain whole.0 code argument) (is_settled b (omega arith))) ∙ whole.1)

  source_means : (found : Meaning) → (found ≡ Out → ⊥) → (fuel : Fuel) → run_meaning (run_outcome (module_code source depth) argument fuel) ≡ found → (n : ℕ) × (module_meaning source argument n ≡ found)
  unfolding meaning module_code
  source_means found not_out fuel e =
      let code = module_code source depth in
      let m = suc fuel.cost in
      let says : Refines found (plain m code argument) = subst (λ x. Refines x (plain m code argument)) e (plain_covers_runs code argument 0 fuel) in
      let body_says : Refines found (plain m (code_tree source depth (own_code source depth)) (world_of source depth argument)) = refines_trans _ _ _ says (framed_says (own_code source depth) (frame_at source depth) m argument) in
      let c = covered_from _ _ _ body_says (body_meant source depth m depth (all_meant source depth m depth) m (omega arith) source.params source.body argument (body_of source source.params source.body) refl (own_fits source depth)) in
      (c.0, sym (settled found _ c.1 not_out))

  to_value : (v : Tree) → HasValue source argument v → RunsTo (module_code source depth) argument v
  to_value v h = let c = code_gives (Value v) (λ e. cc) h.0 h.1 in runs_to c.0 (module_code source depth) argument v c.1

  to_wide : IsWide source argument → RunsWide (module_code source depth) argument
  to_wide h = let c = code_gives Wide (λ e. cc) h.0 h.1 in runs_wide c.0 (module_code source depth) argument c.1

  from_value : (v : Tree) → RunsTo (module_code source depth) argument v → HasValue source argument v
  from_value v r = source_means (Value v) (λ e. cc) r.0 (ap run_meaning r.2)

  from_wide : RunsWide (module_code source depth) argument → IsWide source argument
  from_wide r = source_means Wide (λ e. cc) r.0 (ap run_meaning r.1)

  to_failure : IsFailing source argument → RunsAstray (module_code source depth) argument
  to_failure h = let c = code_gives Failed (λ e. cc) h.0 h.1 in runs_astray c.0 (module_code source depth) argument c.1

  from_failure : RunsAstray (module_code source depth) argument → IsFailing source argument
  from_failure r = source_means Failed (λ e. cc) r.0 (ap run_meaning r.3)

pub code_fails_alike : (source : Module) (depth : ℕ) → IsSettled source depth → FailsAlike source (module_code source depth)
code_fails_alike source depth is_settled argument = (to_failure source depth is_settled argument, from_failure source depth is_settled argument)

pub code_agrees : (source : Module) (depth : ℕ) → IsSettled source depth → Agrees source (module_code source depth)
code_agrees source depth is_settled = record {
  value = λ argument v. (to_value source depth is_settled argument v, from_value source depth is_settled argument v);
  wide = λ argument. (to_wide source depth is_settled argument, from_wide source depth is_settled argument);
}
