-- No code is longer than the bound of its module.
use Rattle.std.proofs.Common.{◌≡◌, ℕ, zero, suc, ◌+◌, ◌*◌, ◌/◌, ◌≤◌, Bool, true, false, cond, List, [], ◌∷◌, ◌++◌, length, map, find, sum_by, Option, Some, None, Ok, Err, option_map, bytes_eq, refl, sym, ap, ◌∙◌, subst, arith}
use Rattle.std.specs.List.{AllByRecursion}
use Rattle.std.proofs.lemmas.List.Sums.{sum_by-cons}
use Rattle.clvm_spec.specs.Tree.{Tree}
use Rattle.clvm_spec.specs.Currying.{quote_of}
use Rattle.lisp_spec.specs.Forms.{Form}
use Rattle.lisp_spec.specs.Modules as modules
use Rattle.lisp_spec.specs.Modules.{Module, Definition, definition_named, constant_named}
use Rattle.lisp_spec.specs.ModuleFaults.{Judged, is_among}
use Rattle.lisp_spec.specs.ModuleLaws.{IsBound, AreBound}
use Rattle.lisp_spec.specs.Parameters.{Side, ToFirst, ToRest, Parameter, parameters, path_of}
use Rattle.lisp_spec.specs.Expressions.{Expression, Literal, Name, Choice, Listing, Operation, FunctionCall, InlineCall, Filled, Operands, NoMore, Operand, Template, Plain, Both, Unquoted}
use Rattle.lisp_spec.specs.Scopes.{body_of}
use Rattle.lisp_spec.specs.Environments.{Binding, ToFound, ToNoStep, ToExpression, ToNothing, binding_of, all_bound, step_code, part_of, operand_at, standing, expressions_bound, inline_environment}
use Rattle.lisp_spec.specs.Weights.{tree_weight}
use Rattle.lisp_spec.specs.ExpressionWeights.{Standing, own, as_tree, constant_weight, name_weight, inline_weight, weighed, together, filled_weight, weight_at, body_weight, expression_weight, definition_weight, module_bound}
use Rattle.lisp_spec.specs.Cycles.{inlines_called, called_by_operands, called_by_template}
use Rattle.lisp_spec.specs.CycleLaws.{HasNoCycle, weight_of}
use Rattle.lisp_spec.proofs.NestingProofs.{Shallow, shallow, weight_is_its_step}
use Rattle.lisp_code.specs.Names.{Names, function_names}
use Rattle.lisp_code.specs.Pieces.{path_code, pair_code}
use Rattle.lisp_code.specs.Codes.{Code, functions_called, pair_of, list_of, operation_of, choice_of, call_of}
use Rattle.lisp_code.specs.Frames.{Function, Frame, Bare, Wrapped, path_from, constant_tree, tree_of, framed, frame_of}
use Rattle.lisp_code.specs.Code.{Codes, constant_code, name_code, body_code, inline_code, expression_code, operand_codes, template_code, function_of}
use Rattle.lisp_code.proofs.Depths.{loops, code_within, own_code, coded, reached_at, frame_at, table_of, module_code}
use Rattle.lisp_code.proofs.Reaching.{total, total_reached}
use Rattle.lisp_code.proofs.Settling.{among_front, among_behind, among_first, called_shallow}
use Rattle.lisp_code.proofs.Lengths.{size, size_tree, size_path, size_quote, size_failing, size_two, size_looping, code_size, spare_sizes, size_constant, size_pair_of, size_list_of, size_operation_of, size_choice_of, PathsAreWithin, size_call_of, size_own_path, entry_size, size_table, frame_paths}

-- what a body's code goes on with: code for one inline less, or none
abbrev pub further_code : Module → ℕ → Codes
further_code source zero = λ e names. loops
further_code source (suc b) = code_within source b

pub code_is : (source : Module) (b : ℕ) (e : Expression) (names : Names) → code_within source b e names ≡ expression_code source (further_code source b) e names
code_is source zero e names = refl
code_is source (suc b) e names = refl

module _ (source : Module) (frame : Frame) (k : ℕ) (room : PathsAreWithin frame (length source.functions)) (eighth : length source.functions / 8 ≤ k) where
  abbrev size_of : Code → ℕ
  size_of code = code_size frame code

  abbrev CodeFits : Expression → Names → ℕ → Type 0
  CodeFits e names w = (b : ℕ) → size_of (expression_code source (further_code source b) e names) + 8 ≤ (64 + k) * w

  abbrev FurtherFits : Expression → Names → ℕ → Type 0
  FurtherFits e names w = (b : ℕ) → size_of (further_code source b e names) + 8 ≤ (64 + k) * w

  some_weight : (s w : ℕ) → s + 8 ≤ (64 + k) * w → 64 ≤ (64 + k) * w
  some_weight s zero h = absurd (omega arith)
  some_weight s (suc w) h = omega arith

  further_fits : (e : Expression) (names : Names) (w : ℕ) → CodeFits e names w → FurtherFits e names w
  further_fits e names w fits zero = let h = some_weight _ w (fits 0) in let l = size_looping in omega arith
  further_fits e names w fits (suc b) = subst (λ code. size_of code + 8 ≤ (64 + k) * w) (sym (code_is source b e names)) (fits b)

  ExpressionFits : Option Expression → Names → ℕ → Type 0
  ExpressionFits None names w = 1 ≤ w
  ExpressionFits (Some e) names w = FurtherFits e names w

  -- ---- names

  BindingFits : Binding (List Side) → Option (List Side) → Standing → Type 0
  BindingFits (ToFound path) None standing = ⊥
  BindingFits (ToFound path) (Some p) standing = size (path_code (path_from frame path)) + 8 ≤ (64 + k) * standing p
  BindingFits ToNoStep None standing = ⊥
  BindingFits ToNoStep (Some p) standing = 1 ≤ standing p
  BindingFits (ToExpression e there) None standing = ⊥
  BindingFits (ToExpression e there) (Some p) standing = FurtherFits e there (standing p)
  BindingFits ToNothing None standing = Unit {0}
  BindingFits ToNothing (Some p) standing = ⊥

  abbrev NamesFit : Names → Form → Standing → Type 0
  NamesFit names params standing = (name : List ℕ) → BindingFits (binding_of name names) (path_of name params) standing

  abbrev found_path : List ℕ → List Parameter → Option (List Side)
  found_path name ps = option_map (λ p. p.path) (find (λ p. bytes_eq p.name name) ps)

  either_fits : (b : Bool) (d e : Binding (List Side)) (p : Parameter) (o : Option Parameter) (standing : Standing) → BindingFits d (Some p.path) standing → BindingFits e (option_map (λ p. p.path) o) standing →
      BindingFits (cond b d e) (option_map (λ p. p.path) (cond b (Some p) o)) standing
  either_fits true d e p o standing x y = x
  either_fits false d e p o standing x y = y

  own_fits : (name : List ℕ) (ps : List Parameter) → BindingFits (binding_of name (all_bound Some ps)) (found_path name ps) own
  unfolding BindingFits
  own_fits name [] = tt
  own_fits name (p ∷ ps) =
      either_fits (bytes_eq p.name name) (ToFound p.path) (binding_of name (all_bound Some ps)) p (find (λ p. bytes_eq p.name name) ps) own (let s = size_own_path frame p.path in omega arith) (own_fits name ps)

  standing_fits : (name other : List ℕ) (e : Option Expression) (there others : Names) (p : Parameter) (o : Option Parameter) (weight : Standing) → ExpressionFits e there (weight p.path) → BindingFits (binding_of name others) (option_map (λ p. p.path) o) weight →
      BindingFits (binding_of name (standing other e there others)) (option_map (λ p. p.path) (cond (bytes_eq other name) (Some p) o)) weight
  unfolding BindingFits ExpressionFits
  standing_fits name other None there others p o weight x y = either_fits (bytes_eq other name) ToNoStep (binding_of name others) p o weight x y
  standing_fits name other (Some e) there others p o weight x y = either_fits (bytes_eq other name) (ToExpression e there) (binding_of name others) p o weight x y

  inline_names_fit : (ps : List Parameter) (operands : Operands) (there : Names) (weight : Standing) → ((path : List Side) → ExpressionFits (operand_at path operands) there (weight path)) →
      (name : List ℕ) → BindingFits (binding_of name (expressions_bound ps operands there)) (found_path name ps) weight
  unfolding BindingFits
  inline_names_fit [] operands there weight fits name = tt
  inline_names_fit (p ∷ ps) operands there weight fits name =
      standing_fits name p.name (operand_at p.path operands) there (expressions_bound ps operands there) p (find (λ p. bytes_eq p.name name) ps) weight (fits p.path) (inline_names_fit ps operands there weight fits name)

  -- ---- expressions

  one_weight : (w : ℕ) → 1 ≤ w → 64 ≤ (64 + k) * w
  one_weight zero h = absurd (omega arith)
  one_weight (suc w) h = omega arith

  literal_fits : (tree : Tree) → size (constant_tree tree) + 8 ≤ (64 + k) * as_tree tree
  literal_fits tree = let q = size_constant tree in let t = size_tree tree in omega arith

  constant_fits : (found : Option modules.Constant) → size_of (constant_code found) + 8 ≤ (64 + k) * constant_weight found
  constant_fits None = let f = size_failing in omega arith
  constant_fits (Some constant) = literal_fits constant.value

  -- codes of operands, each with bytes to spare
  SparesFit : List Code → ℕ → Type 0
  SparesFit codes w = spare_sizes frame codes ≤ (64 + k) * w

  none_spare : SparesFit [] 0
  unfolding SparesFit
  none_spare = omega arith

  more_spares : (code : Code) (codes : List Code) (w v : ℕ) → size_of code + 8 ≤ (64 + k) * w → SparesFit codes v → SparesFit (code ∷ codes) (w + v)
  unfolding SparesFit
  more_spares code codes w v h s = omega arith

  list_fits : (codes : List Code) (w : ℕ) → SparesFit codes w → size_of (list_of codes) + 8 ≤ (64 + k) * (1 + w)
  unfolding SparesFit
  list_fits codes w s = let l = size_list_of frame codes in omega arith

  operator_fits : (code : ℕ) (codes : List Code) (w : ℕ) → SparesFit codes w → size_of (operation_of code codes) + 8 ≤ (64 + k) * (1 + w)
  unfolding SparesFit
  operator_fits code codes w s = let l = size_operation_of frame code codes in omega arith

  call_fits : (name : List ℕ) (codes : List Code) (w : ℕ) → SparesFit codes w → size_of (call_of name codes) + 8 ≤ (64 + k) * (1 + w)
  unfolding SparesFit
  call_fits name codes w s = let l = size_call_of frame (length source.functions) room name codes in omega arith

  choice_fits : (t a b : Code) (x y z : ℕ) → size_of t + 8 ≤ (64 + k) * x → size_of a + 8 ≤ (64 + k) * y → size_of b + 8 ≤ (64 + k) * z → size_of (choice_of t a b) + 8 ≤ (64 + k) * (1 + (x + (y + z)))
  choice_fits t a b x y z p q r = let i = size_choice_of frame t a b in omega arith

  tree_fits : (tree : Tree) → size (constant_tree tree) ≤ 16 + (64 + k) * tree_weight tree
  tree_fits tree = let q = size_constant tree in let t = size_tree tree in omega arith

  both_fit : (a b : Code) (x y : ℕ) → size_of a ≤ 16 + (64 + k) * x → size_of b ≤ 16 + (64 + k) * y → size_of (pair_of a b) ≤ 16 + (64 + k) * (1 + (x + y))
  both_fit a b x y p q = let z = size_pair_of frame a b in omega arith

  filled_fits : (s w : ℕ) → s ≤ 16 + (64 + k) * w → s + 8 ≤ (64 + k) * (1 + w)
  filled_fits s w h = omega arith

  unquoted_fits : (s w : ℕ) → s + 8 ≤ (64 + k) * w → s ≤ 16 + (64 + k) * w
  unquoted_fits s w h = omega arith

  abbrev by_body : Definition → Standing → ℕ
  by_body inline inner = body_weight (weight_of source inline.params inner) (body_of source inline.params inline.body)

  abbrev ShallowIn : ℕ → List (List ℕ) → Type 0
  ShallowIn depth called_names = (called : List ℕ) → is_among called called_names ≡ true → Shallow source depth called

  abbrev Lower : ℕ → Type 0
  Lower depth = (name : List ℕ) → Shallow source depth name → (inline : Definition) → definition_named name source.inlines ≡ Some inline → (e : Expression) → body_of source inline.params inline.body ≡ Ok e →
      (names : Names) (standing : Standing) → NamesFit names inline.params standing → FurtherFits e names (weight_of source inline.params standing e)

  module _ (depth : ℕ) (lower : Lower depth) (params : Form) (standing : Standing) (names : Names) (fits : NamesFit names params standing) where
    abbrev w : Expression → ℕ
    w e = weighed by_body source params standing e

    abbrev each : Operands → ℕ
    each operands = together by_body source params standing operands

    abbrev filled : Template → ℕ
    filled t = filled_weight by_body source params standing t

    abbrev at : Operands → Standing
    at operands path = weight_at by_body source params standing path operands

    front : (xs ys : List (List ℕ)) → ShallowIn depth (xs ++ ys) → ShallowIn depth xs
    front xs ys s called c = s called (among_front called xs ys c)

    behind : (xs ys : List (List ℕ)) → ShallowIn depth (xs ++ ys) → ShallowIn depth ys
    behind xs ys s called c = s called (among_behind called xs ys c)

    name_fits : (name : List ℕ) (d : Binding (List Side)) (o : Option (List Side)) → BindingFits d o standing → (b : ℕ) → size_of (name_code source (further_code source b) name d) + 8 ≤ (64 + k) * name_weight standing o (constant_named name source.constants)
    unfolding BindingFits
    name_fits name (ToFound path) None h b = absurd h
    name_fits name (ToFound path) (Some p) h b = h
    name_fits name ToNoStep None h b = absurd h
    name_fits name ToNoStep (Some p) h b = let f = size_failing in let o = one_weight (standing p) h in omega arith
    name_fits name (ToExpression e there) None h b = absurd h
    name_fits name (ToExpression e there) (Some p) h b = h b
    name_fits name ToNothing None h b = constant_fits (constant_named name source.constants)
    name_fits name ToNothing (Some p) h b = absurd h

    -- ---- operands of inlines

    abbrev AllFit : Operands → Type 0
    AllFit NoMore = Unit {0}
    AllFit (Operand first more) = CodeFits first names (w first) × AllFit more

    spares_fit : (operands : Operands) → AllFit operands → (b : ℕ) → SparesFit (operand_codes source (further_code source b) operands names) (each operands)
    spares_fit NoMore fit b = none_spare
    spares_fit (Operand first more) fit b = more_spares _ _ (w first) (each more) (fit.0 b) (spares_fit more fit.1 b)

    part_fits : (path : List Side) (e : Expression) (v : ℕ) → CodeFits e names v → CodeFits (part_of path e) names (length path + v)
    part_fits [] e v fits = let same : v ≡ 0 + v = omega arith in subst (CodeFits e names) same fits
    part_fits (side ∷ path) e v fits =
        let step = Operation (step_code side) (Operand e NoMore) in
        let same : length path + (1 + v) ≡ suc (length path) + v = omega arith in
        let stepped : CodeFits step names (1 + v) = λ b. let h = fits b in let s = size_operation_of frame (step_code side) (expression_code source (further_code source b) e names ∷ []) in omega arith in
        subst (CodeFits (part_of (side ∷ path) e) names) same (part_fits path step (1 + v) stepped)

    at_fits : (path : List Side) (operands : Operands) → AllFit operands → ExpressionFits (operand_at path operands) names (at operands path)
    unfolding ExpressionFits
    at_fits [] NoMore fit = further_fits (Listing NoMore) names 1 (λ b. list_fits [] 0 none_spare)
    at_fits [] (Operand first more) fit = further_fits (Listing (Operand first more)) names _ (λ b. list_fits _ (each (Operand first more)) (spares_fit (Operand first more) fit b))
    at_fits (side ∷ path) NoMore fit = omega arith
    at_fits (ToFirst ∷ path) (Operand first more) fit = further_fits (part_of path first) names _ (part_fits path first (w first) fit.0)
    at_fits (ToRest ∷ path) (Operand first more) fit = at_fits path more fit.1

    body_fits : (name : List ℕ) → Shallow source depth name → (f : Definition) → definition_named name source.inlines ≡ Some f → (inner : Names) (weight : Standing) → NamesFit inner f.params weight →
        (read : Judged Expression) → body_of source f.params f.body ≡ read → (b : ℕ) → size_of (body_code (further_code source b) read inner) + 8 ≤ (64 + k) * (1 + body_weight (weight_of source f.params weight) read)
    body_fits name s f is inner weight fit (Ok e) reads b = let h = lower name s f is e reads inner weight fit b in omega arith
    body_fits name s f is inner weight fit (Err first) reads b = let f = size_failing in omega arith

    inline_fits : (name : List ℕ) → Shallow source depth name → (operands : Operands) → AllFit operands → (f : Option Definition) → definition_named name source.inlines ≡ f → (b : ℕ) →
        size_of (inline_code source (further_code source b) operands names f) + 8 ≤ (64 + k) * inline_weight by_body f (at operands)
    inline_fits name s operands fit None is b = let f = size_failing in omega arith
    inline_fits name s operands fit (Some f) is b =
        body_fits name s f is (inline_environment f.params operands names) (at operands) (inline_names_fit (parameters f.params) operands names (at operands) (λ path. at_fits path operands fit)) (body_of source f.params f.body) refl b

    mutual
      expression_fits : (e : Expression) → ShallowIn depth (inlines_called e) → CodeFits e names (w e)
      expression_fits (Literal tree) s = λ b. literal_fits tree
      expression_fits (Name name) s = name_fits name (binding_of name names) (path_of name params) (fits name)
      expression_fits (Choice condition second third) s =
          let later = behind (inlines_called condition) (inlines_called second ++ inlines_called third) s in
          let p = expression_fits condition (front (inlines_called condition) (inlines_called second ++ inlines_called third) s) in
          let q = expression_fits second (front (inlines_called second) (inlines_called third) later) in
          let r = expression_fits third (behind (inlines_called second) (inlines_called third) later) in
          let code = λ (e : Expression) (b : ℕ). expression_code source (further_code source b) e names in
          λ b. choice_fits (code condition b) (code second b) (code third b) (w condition) (w second) (w third) (p b) (q b) (r b)
      expression_fits (Listing operands) s = λ b. list_fits _ (each operands) (spares_fit operands (operands_fit operands s) b)
      expression_fits (Operation code operands) s = λ b. operator_fits code _ (each operands) (spares_fit operands (operands_fit operands s) b)
      expression_fits (FunctionCall name operands) s = λ b. call_fits name _ (each operands) (spares_fit operands (operands_fit operands s) b)
      expression_fits (InlineCall name operands) s =
          inline_fits name (s name (among_first name (called_by_operands operands))) operands (operands_fit operands (behind (name ∷ []) (called_by_operands operands) s)) (definition_named name source.inlines) refl
      expression_fits (Filled template) s = λ b. filled_fits _ (filled template) (template_fits template s b)

      operands_fit : (operands : Operands) → ShallowIn depth (called_by_operands operands) → AllFit operands
      operands_fit NoMore s = tt
      operands_fit (Operand first more) s = (expression_fits first (front (inlines_called first) (called_by_operands more) s), operands_fit more (behind (inlines_called first) (called_by_operands more) s))

      template_fits : (t : Template) → ShallowIn depth (called_by_template t) → (b : ℕ) → size_of (template_code source (further_code source b) t names) ≤ 16 + (64 + k) * filled t
      template_fits (Plain tree) s b = tree_fits tree
      template_fits (Both first rest) s b =
          both_fit (template_code source (further_code source b) first names) (template_code source (further_code source b) rest names) (filled first) (filled rest) (template_fits first (front (called_by_template first) (called_by_template rest) s) b) (template_fits rest (behind (called_by_template first) (called_by_template rest) s) b)
      template_fits (Unquoted e) s b = unquoted_fits _ (w e) (expression_fits e s b)

-- ---- the module's code

one_function : (k a t x y : ℕ) → a + 8 ≤ (64 + k) * x → t ≤ (64 + k) * y → 1 + a + t ≤ (64 + k) * (x + y)
one_function k a t x y h g = omega arith

frame_size : (fs : List Function) → size (table_of (frame_of fs)) ≤ total (entry_size (frame_of fs)) fs + 1
frame_size [] = omega arith
frame_size (f ∷ fs) = let s = size_table (frame_of (f ∷ fs)) f fs in omega arith

size_framed : (body : Code) (frame : Frame) (k x y : ℕ) → code_size frame body + 8 ≤ (64 + k) * x → size (table_of frame) ≤ (64 + k) * y + 1 → size (framed body frame) ≤ (64 + k) * (y + x + 1)
size_framed body Bare k x y f g = omega arith
size_framed body (Wrapped places) k x y f g =
    let here = table_of (Wrapped places) in
    let start = pair_code (quote_of here) (path_code []) in
    let b = tree_of (Wrapped places) body in
    let s = size_two 2 (quote_of b) start in let qb = size_quote b in let t = size_two 4 (quote_of here) (path_code []) in let qh = size_quote here in let p = size_path [] in omega arith

module _ (source : Module) (ends : HasNoCycle source) (b : ℕ) where
  abbrev k : ℕ
  k = length source.functions / 8

  abbrev frame : Frame
  frame = frame_at source b

  abbrev all : List Function
  all = coded source b

  same_length : (ds : List Definition) → length (map (function_of source (code_within source b)) ds) ≡ length ds
  same_length [] = refl
  same_length (d ∷ ds) = ap suc (same_length ds)

  ones : (fs : List Function) → total (λ f. 1) fs ≡ length fs
  ones [] = refl
  ones (f ∷ fs) = let h = ones fs in omega arith

  room : PathsAreWithin frame (length source.functions)
  room name path e =
      let h = frame_paths (reached_at source b) name path e in
      let t = total_reached (λ f. 1) (length all) (functions_called (own_code source b)) all in
      let o = ones (reached_at source b) in let p = ones all in let l = same_length source.functions in omega arith

  abbrev FitsHere : Expression → Names → ℕ → Type 0
  FitsHere e names w = CodeFits source frame k room (omega arith) e names w

  by_its_step : (params : Form) (standing : Standing) (e : Expression) (names : Names) → FitsHere e names (weighed (by_body source frame k room (omega arith)) source params standing e) → FitsHere e names (weight_of source params standing e)
  by_its_step params standing e names fits = subst (FitsHere e names) (sym (weight_is_its_step source ends params standing e)) fits

  lower_at : (depth : ℕ) → Lower source frame k room (omega arith) depth
  lower_at zero name none inline is e reads names standing fits = let no : None ≡ Some inline = sym none ∙ is in absurd cc
  lower_at (suc depth) name shallow inline is e reads names standing fits =
      further_fits source frame k room (omega arith) e names _ (by_its_step inline.params standing e names
      (expression_fits source frame k room (omega arith) depth (lower_at depth) inline.params standing names fits e (called_shallow (body_of source) (Shallow source depth) inline.params inline.body e reads (shallow inline is))))

  own_code_fits : (params : Form) (e : Expression) → FitsHere e (function_names params) (weight_of source params own e)
  own_code_fits params e =
      by_its_step params own e (function_names params)
      (expression_fits source frame k room (omega arith) (length source.inlines) (lower_at (length source.inlines)) params own (function_names params) (λ name. own_fits source frame k room (omega arith) name (parameters params)) e
      (λ called c. shallow source ends (length source.inlines) [] called tt tt tt (omega arith)))

  code_fits : (params body : Form) → IsBound source params body → code_size frame (body_code (code_within source b) (body_of source params body) (function_names params)) + 8 ≤ (64 + k) * expression_weight source params body
  unfolding expression_weight
  code_fits params body (e, is) =
      subst (λ read. code_size frame (body_code (code_within source b) read (function_names params)) + 8 ≤ (64 + k) * body_weight (weight_of source params own) read) (sym is)
      (subst (λ code. code_size frame code + 8 ≤ (64 + k) * weight_of source params own e) (sym (code_is source b e (function_names params))) (own_code_fits params e b))

  functions_fit : (ds : List Definition) → AllByRecursion (λ d. IsBound source d.params d.body) ds → total (entry_size frame) (map (function_of source (code_within source b)) ds) ≤ (64 + k) * sum_by (definition_weight source) ds
  functions_fit [] are = omega arith
  functions_fit (d ∷ ds) are =
      subst (λ n. total (entry_size frame) (map (function_of source (code_within source b)) (d ∷ ds)) ≤ (64 + k) * n) (sym (sum_by-cons (definition_weight source) d ds))
      (one_function k (code_size frame (function_of source (code_within source b) d).code) (total (entry_size frame) (map (function_of source (code_within source b)) ds)) (definition_weight source d) (sum_by (definition_weight source) ds)
      (code_fits d.params d.body are.0) (functions_fit ds are.1))

  pub module_fits : AreBound source → size (module_code source b) ≤ module_bound source
  unfolding module_code
  module_fits bound =
      let most = functions_fit source.functions bound.0 in
      let t = total_reached (entry_size frame) (length all) (functions_called (own_code source b)) all in
      let s = frame_size (reached_at source b) in
      size_framed (own_code source b) frame k (expression_weight source source.params source.body) (sum_by (definition_weight source) source.functions) (code_fits source.params source.body bound.2) (omega arith)
