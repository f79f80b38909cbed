-- Where no inline reaches itself, calls nest no deeper than there are inlines, and weights need no more.
use Rattle.std.proofs.Common.{◌≡◌, ℕ, zero, suc, ◌+◌, ◌≤◌, ◌⊎◌, inl, inr, Bool, true, false, ◌||◌, List, [], ◌∷◌, ◌++◌, length, Option, Some, None, Ok, Err, bytes_eq, cond, refl, sym, ◌∙◌, ap, subst, true≢false, arith}
use Rattle.std.specs.List.{AllByRecursion}
use Rattle.lisp_spec.specs.Forms.{Form}
use Rattle.lisp_spec.specs.Modules.{Definition, Module, definition_named, definition_names}
use Rattle.lisp_spec.specs.Parameters.{Side, ToFirst, ToRest}
use Rattle.lisp_spec.specs.ModuleFaults.{Judged, is_among}
use Rattle.lisp_spec.specs.Expressions.{Expression, Literal, Name, Choice, Listing, Operation, FunctionCall, InlineCall, Filled, Operands, NoMore, Operand, Template, Plain, Both, Unquoted}
use Rattle.lisp_spec.specs.Scopes.{body_of}
use Rattle.lisp_spec.specs.Environments.{step_code, part_of, operand_at}
use Rattle.lisp_spec.specs.Cycles.{inlines_called, called_by_operands, called_by_template, called_by_body, calls_of, reaches_itself}
use Rattle.lisp_spec.specs.ExpressionWeights.{Standing, BodyWeight, inline_weight, weighed, together, filled_weight, weight_at, body_weight, weight_within}
use Rattle.lisp_spec.specs.ModuleLaws.{Distinct}
use Rattle.lisp_spec.specs.CycleLaws as laws
use Rattle.lisp_spec.specs.CycleLaws.{IsPath, Reaches, HasNoCycle, WeightsAreWithinTheNesting, WeightIsItsStep, weight_or_one, ParametersWeighWhatTheyStandFor}
use Rattle.lisp_spec.proofs.CycleProofs.{is_same, same_is, no_more, inline_among, as_many_names, finds_reached}

-- ---- paths go on

path_on : (m : Module) (from : List ℕ) (through : List (List ℕ)) (name called : List ℕ) → IsPath m from through name →
    laws.Calls m name called → IsPath m from (through ++ name ∷ []) called
path_on m from [] name called p c = (p, c)
path_on m from (next ∷ more) name called p c = (p.0, path_on m next more name called p.1 c)

reach_on : (m : Module) (from name called : List ℕ) → Reaches m from name → laws.Calls m name called → Reaches m from called
reach_on m from name called r c = (r.0 ++ name ∷ [], path_on m from r.0 name called r.1 c)

reaches_on : (m : Module) (name called : List ℕ) (xs : List (List ℕ)) → AllByRecursion (λ x. Reaches m x name) xs → laws.Calls m name called →
    AllByRecursion (λ x. Reaches m x called) xs
reaches_on m name called [] h c = tt
reaches_on m name called (x ∷ xs) h c = (reach_on m x name called h.0 c, reaches_on m name called xs h.1 c)

-- ---- how deep calls nest

-- From this name on calls nest at most so many inlines.
abbrev pub Shallow : Module → ℕ → List ℕ → Type 0
Shallow m zero name = definition_named name m.inlines ≡ None
Shallow m (suc depth) name =
    (d : Definition) → definition_named name m.inlines ≡ Some d → (called : List ℕ) → is_among called (called_by_body (body_of m d.params d.body)) ≡ true → Shallow m depth called

cases : (b : Bool) → (b ≡ true) ⊎ (b ≡ false)
cases true = inl refl
cases false = inr refl

-- what holds of each holds of one of that name
each_named : (P : List ℕ → Type 0) (all inlines : List Definition) (name : List ℕ) (d : Definition) → definition_named name inlines ≡ Some d →
    AllByRecursion (λ d. P d.name) inlines → P name
each_named P all [] name d e h = absurd cc
each_named P all (x ∷ inlines) name d e h = elim (cases (bytes_eq x.name name)) [
  | inl t ↦ subst P (is_same x.name name t) h.0
  | inr f ↦ each_named P all inlines name d (sym (ap (λ b. cond b (Some x) (definition_named name inlines)) f) ∙ e) h.1
]

each_among : (P : List ℕ → Type 0) (x : List ℕ) (xs : List (List ℕ)) → is_among x xs ≡ true → AllByRecursion P xs → P x
each_among P x [] e h = absurd cc
each_among P x (y ∷ ys) e h = elim (cases (bytes_eq x y)) [
  | inl t ↦ subst P (sym (is_same x y t)) h.0
  | inr f ↦ each_among P x ys (sym (ap (λ b. b || is_among x ys) f) ∙ e) h.1
]

module _ (m : Module) (ends : HasNoCycle m) where
  no_return : (name : List ℕ) (d : Definition) → definition_named name m.inlines ≡ Some d → ¬ Reaches m name name
  no_return name d e r = true≢false (sym (finds_reached m name name r) ∙ each_named (λ n. reaches_itself m n ≡ false) m.inlines m.inlines name d e ends)

  -- An inline that those seen reach is none of them.
  unseen : (seen : List (List ℕ)) (name : List ℕ) (d : Definition) → definition_named name m.inlines ≡ Some d → AllByRecursion (λ x. Reaches m x name) seen →
      is_among name seen ≡ false
  unseen seen name d e h = elim (cases (is_among name seen)) [ inl t ↦ absurd (no_return name d e (each_among (λ x. Reaches m x name) name seen t h)) | inr f ↦ f ]

  some_among : (name : List ℕ) (d : Definition) → definition_named name m.inlines ≡ Some d → is_among name (definition_names m.inlines) ≡ true
  some_among name d e = inline_among name m.inlines (λ n. absurd (grind (arith, e, n)))

  -- Each further call takes an inline that isn't seen yet.
  pub shallow : (depth : ℕ) (seen : List (List ℕ)) (name : List ℕ) → Distinct seen → AllByRecursion (λ x. is_among x (definition_names m.inlines) ≡ true) seen →
      AllByRecursion (λ x. Reaches m x name) seen → length m.inlines ≤ length seen + depth → Shallow m depth name
  shallow zero seen name once among reach l = none (definition_named name m.inlines) refl
    where
      none : (found : Option Definition) → definition_named name m.inlines ≡ found → definition_named name m.inlines ≡ None
      none None e = e
      none (Some d) e = absurd (omega (arith, l, as_many_names m.inlines, no_more (name ∷ seen) (definition_names m.inlines) (unseen seen name d e reach, once) (some_among name d e, among)))
  shallow (suc depth) seen name once among reach l =
      λ d e called c. let calls : laws.Calls m name called = subst (λ found. is_among called (calls_of m found) ≡ true) (sym e) c in
      shallow depth (name ∷ seen) called (unseen seen name d e reach, once) (some_among name d e, among)
      (([], calls), reaches_on m name called seen reach calls) (omega (arith, l))

-- ---- weights that agree on what is called

same_standing : (s t : Standing) → ((path : List Side) → s path ≡ t path) → s ≡ t
same_standing s t h = λ i path. h path i

module _ (m : Module) (f g : BodyWeight) where
  -- f and g weigh alike each inline of these names
  abbrev Agree : List (List ℕ) → Type 0
  Agree names = (name : List ℕ) → is_among name names ≡ true → (d : Definition) → definition_named name m.inlines ≡ Some d → (standing : Standing) → f d standing ≡ g d standing

  agree_front : (xs ys : List (List ℕ)) → Agree (xs ++ ys) → Agree xs
  agree_front xs ys h name e = h name (among_front xs e)
    where
      among_front : (xs : List (List ℕ)) → is_among name xs ≡ true → is_among name (xs ++ ys) ≡ true
      among_front [] e = absurd cc
      among_front (x ∷ xs) e = elim (cases (bytes_eq name x)) [
        | inl t ↦ rw t refl
        | inr n ↦ rw n (among_front xs (sym (ap (λ b. b || is_among name xs) n) ∙ e))
      ]

  agree_behind : (xs ys : List (List ℕ)) → Agree (xs ++ ys) → Agree ys
  agree_behind xs ys h name e = h name (among_behind xs)
    where
      among_behind : (xs : List (List ℕ)) → is_among name (xs ++ ys) ≡ true
      among_behind [] = e
      among_behind (x ∷ xs) = elim (cases (bytes_eq name x)) [ inl t ↦ rw t refl | inr n ↦ rw n (among_behind xs) ]

  inline_alike : (name : List ℕ) (found : Option Definition) → definition_named name m.inlines ≡ found → (s t : Standing) → s ≡ t → (names : List (List ℕ)) → Agree (name ∷ names) →
      inline_weight f found s ≡ inline_weight g found t
  inline_alike name None e s t h names agree = refl
  inline_alike name (Some d) e s t h names agree = ap (λ n. 1 + n) (agree name (ap (λ b. b || is_among name names) (same_is name)) d e s ∙ ap (g d) h)

  module _ (params : Form) (standing : Standing) where
    mutual
      alike : (e : Expression) → Agree (inlines_called e) → weighed f m params standing e ≡ weighed g m params standing e
      alike (Literal tree) agree = refl
      alike (Name name) agree = refl
      alike (Choice condition second third) agree =
          let behind = agree_behind (inlines_called condition) (inlines_called second ++ inlines_called third) agree in
          ap (λ n. 1 + (n + (weighed f m params standing second + weighed f m params standing third))) (alike condition (agree_front (inlines_called condition) (inlines_called second ++ inlines_called third) agree))
          ∙ ap (λ n. 1 + (weighed g m params standing condition + (n + weighed f m params standing third))) (alike second (agree_front (inlines_called second) (inlines_called third) behind))
          ∙ ap (λ n. 1 + (weighed g m params standing condition + (weighed g m params standing second + n))) (alike third (agree_behind (inlines_called second) (inlines_called third) behind))
      alike (Listing operands) agree = ap (λ n. 1 + n) (together_alike operands agree)
      alike (Operation code operands) agree = ap (λ n. 1 + n) (together_alike operands agree)
      alike (FunctionCall name operands) agree = ap (λ n. 1 + n) (together_alike operands agree)
      alike (InlineCall name operands) agree =
          inline_alike name (definition_named name m.inlines) refl (λ path. weight_at f m params standing path operands) (λ path. weight_at g m params standing path operands)
          (same_standing _ _ (λ path. at_alike operands (agree_behind (name ∷ []) (called_by_operands operands) agree) path)) (called_by_operands operands) agree
      alike (Filled template) agree = ap (λ n. 1 + n) (filled_alike template agree)

      together_alike : (operands : Operands) → Agree (called_by_operands operands) → together f m params standing operands ≡ together g m params standing operands
      together_alike NoMore agree = refl
      together_alike (Operand first more) agree =
          ap (λ n. n + together f m params standing more) (alike first (agree_front (inlines_called first) (called_by_operands more) agree))
          ∙ ap (λ n. weighed g m params standing first + n) (together_alike more (agree_behind (inlines_called first) (called_by_operands more) agree))

      at_alike : (operands : Operands) → Agree (called_by_operands operands) → (path : List Side) → weight_at f m params standing path operands ≡ weight_at g m params standing path operands
      at_alike NoMore agree path = refl
      at_alike (Operand first more) agree [] =
          ap (λ n. 1 + (n + together f m params standing more)) (alike first (agree_front (inlines_called first) (called_by_operands more) agree))
          ∙ ap (λ n. 1 + (weighed g m params standing first + n)) (together_alike more (agree_behind (inlines_called first) (called_by_operands more) agree))
      at_alike (Operand first more) agree (ToFirst ∷ path) = ap (λ n. length path + n) (alike first (agree_front (inlines_called first) (called_by_operands more) agree))
      at_alike (Operand first more) agree (ToRest ∷ path) = at_alike more (agree_behind (inlines_called first) (called_by_operands more) agree) path

      filled_alike : (t : Template) → Agree (called_by_template t) → filled_weight f m params standing t ≡ filled_weight g m params standing t
      filled_alike (Plain tree) agree = refl
      filled_alike (Both first rest) agree =
          ap (λ n. 1 + (n + filled_weight f m params standing rest)) (filled_alike first (agree_front (called_by_template first) (called_by_template rest) agree))
          ∙ ap (λ n. 1 + (filled_weight g m params standing first + n)) (filled_alike rest (agree_behind (called_by_template first) (called_by_template rest) agree))
      filled_alike (Unquoted e) agree = alike e agree

-- ---- weights need no more than the nesting

module _ (m : Module) where
  abbrev inner : ℕ → BodyWeight
  inner nesting inline standing = body_weight (weight_within nesting m inline.params standing) (body_of m inline.params inline.body)

  -- one weight of a body and another, where the body is an expression
  of_body : (v w : Expression → ℕ) (read : Judged Expression) → ((e : Expression) → read ≡ Ok e → v e ≡ w e) → body_weight v read ≡ body_weight w read
  of_body v w (Ok e) h = h e refl
  of_body v w (Err first) h = refl

  deep_enough : (depth bound : ℕ) → depth ≤ bound → (params : Form) (standing : Standing) (e : Expression) →
      ((called : List ℕ) → is_among called (inlines_called e) ≡ true → Shallow m depth called) →
      weight_within (suc bound) m params standing e ≡ weight_within (suc depth) m params standing e
  deep_enough zero bound l params standing e h =
      alike m (inner bound) (inner zero) params standing e (λ name c d is s. absurd (grind (arith, is, h name c)))
  deep_enough (suc depth) zero l params standing e h = absurd (omega (arith, l))
  deep_enough (suc depth) (suc bound) l params standing e h =
      alike m (inner (suc bound)) (inner (suc depth)) params standing e
      (λ name c d is s. of_body (weight_within (suc bound) m d.params s) (weight_within (suc depth) m d.params s) (body_of m d.params d.body)
      (λ x read. deep_enough depth bound (omega (arith, l)) d.params s x (λ called k. h name c d is called (subst (λ read. is_among called (called_by_body read) ≡ true) (sym read) k))))

pub weights_are_within_the_nesting : WeightsAreWithinTheNesting
weights_are_within_the_nesting m ends bound l params standing e =
    deep_enough m (length m.inlines) bound l params standing e (λ called c. shallow m ends (length m.inlines) [] called tt tt tt (omega arith))

pub weight_is_its_step : WeightIsItsStep
weight_is_its_step m ends params standing e = sym (weights_are_within_the_nesting m ends (suc (length m.inlines)) (omega arith) params standing e)

-- ---- parameters of inlines

module _ (weight : BodyWeight) (m : Module) (params : Form) (standing : Standing) where
  part_weight : (path : List Side) (e : Expression) → length path + weighed weight m params standing e ≡ weighed weight m params standing (part_of path e)
  part_weight [] e = omega arith
  part_weight (side ∷ path) e =
      let rest : length path + weighed weight m params standing (Operation (step_code side) (Operand e NoMore)) ≡ weighed weight m params standing (part_of path (Operation (step_code side) (Operand e NoMore)))
      = part_weight path (Operation (step_code side) (Operand e NoMore)) in
      omega (arith, rest)

  stands_for : (path : List Side) (operands : Operands) → weight_at weight m params standing path operands ≡ weight_or_one (weighed weight m params standing) (operand_at path operands)
  stands_for [] NoMore = refl
  stands_for [] (Operand first more) = refl
  stands_for (side ∷ path) NoMore = refl
  stands_for (ToFirst ∷ path) (Operand first more) = part_weight path first
  stands_for (ToRest ∷ path) (Operand first more) = stands_for path more

pub parameters_weigh_what_they_stand_for : ParametersWeighWhatTheyStandFor
parameters_weigh_what_they_stand_for weight m params standing path operands = stands_for weight m params standing path operands
