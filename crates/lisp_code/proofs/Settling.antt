-- Where no inline reaches itself, some depth of inlines is enough for the code.
use Rattle.std.proofs.Common.{◌≡◌, ℕ, zero, suc, ◌+◌, ◌≤◌, inl, inr, Bool, true, false, ◌||◌, cond, List, [], ◌∷◌, ◌++◌, length, Option, Some, None, Ok, Err, bytes_eq, refl, sym, ap, ap₂, ◌∙◌, subst, arith}
use Rattle.lisp_spec.specs.Forms.{Form}
use Rattle.lisp_spec.specs.Modules.{Definition, definition_named, constant_named}
use Rattle.lisp_spec.specs.ModuleFaults.{Judged, is_among}
use Rattle.lisp_spec.specs.Parameters.{Side, ToFirst, ToRest, Parameter, parameters}
use Rattle.lisp_spec.specs.Expressions.{Expression, Literal, Name, Choice, Listing, Operation, FunctionCall, InlineCall, Filled, Operands, NoMore, Operand, Template, Plain, Both, Unquoted}
use Rattle.lisp_spec.specs.Scopes.{body_of}
use Rattle.lisp_spec.specs.Environments.{Empty, Bound, Astray, Stands, Binding, ToFound, ToNoStep, ToExpression, ToNothing, binding_of, step_code, part_of, operand_at, standing, expressions_bound, inline_environment}
use Rattle.lisp_spec.specs.Cycles.{inlines_called, called_by_operands, called_by_template, called_by_body}
use Rattle.lisp_spec.specs.CycleLaws.{HasNoCycle}
use Rattle.std.proofs.lemmas.Bool.{cases_Bool}
use Rattle.lisp_spec.proofs.CycleProofs.{same_is}
use Rattle.lisp_spec.proofs.NestingProofs.{Shallow, shallow}
use Rattle.lisp_code.specs.Names.{Names}
use Rattle.lisp_code.specs.Codes.{Code, Constant, Path, fails, pair_of, list_of, operation_of, choice_of, call_of}
use Rattle.lisp_code.specs.Code.{constant_code, name_code, body_code, inline_code, expression_code, operand_codes, template_code}
use Rattle.lisp_code.proofs.Eventually.{Eventually}
use Rattle.lisp_code.proofs.Making.{Making, further_of}

-- ---- what is the same from some depth on

Steady : {A : Type 0} → (ℕ → A) → Type 0
Steady y = (b : ℕ) × ((more : ℕ) → b ≤ more → y more ≡ y b)

steady_same : {A : Type 0} (a : A) → Steady (λ b. a)
unfolding Steady
steady_same a = (0, λ more le. refl)

steady_map : {A B : Type 0} (f : A → B) (y : ℕ → A) → Steady y → Steady (λ b. f (y b))
unfolding Steady
steady_map f y s = (s.0, λ more le. ap f (s.1 more le))

steady_two : {A B C : Type 0} (f : A → B → C) (y : ℕ → A) (z : ℕ → B) → Steady y → Steady z → Steady (λ b. f (y b) (z b))
unfolding Steady
steady_two f y z s t = let n = s.0 + t.0 in
    (n, λ more le. ap₂ f (s.1 more (omega arith) ∙ sym (s.1 n (omega arith))) (t.1 more (omega arith) ∙ sym (t.1 n (omega arith))))

steady_alike : {A : Type 0} (y z : ℕ → A) → ((b : ℕ) → y b ≡ z b) → Steady z → Steady y
unfolding Steady
steady_alike y z same s = (s.0, λ more le. same more ∙ s.1 more le ∙ sym (same s.0))

steady_suc : {A : Type 0} (y : ℕ → A) → Steady (λ b. y (suc b)) → Steady y
unfolding Steady
steady_suc y s = (suc s.0, λ more le. from more le)
  where
    from : (more : ℕ) → suc s.0 ≤ more → y more ≡ y (suc s.0)
    from zero le = absurd (omega arith)
    from (suc more) le = s.1 more (omega arith)

steady_limit : {A : Type 0} (y : ℕ → A) → Steady y → (a : A) × Eventually y a
unfolding Steady Eventually
steady_limit y s = (y s.0, (s.0, λ more le. s.1 more le))

module _ (it : Making) where
  abbrev at_depth : Expression → Names → ℕ → Code
  at_depth e names b = expression_code it.source (further_of it b) e names

  abbrev operands_at_depth : Operands → Names → ℕ → List Code
  operands_at_depth operands names b = operand_codes it.source (further_of it b) operands names

  abbrev template_at_depth : Template → Names → ℕ → Code
  template_at_depth t names b = template_code it.source (further_of it b) t names

  abbrev Settles : Expression → Names → Type 0
  Settles e names = Steady (λ b. it.made b e names)

  settles : (e : Expression) (names : Names) → Steady (at_depth e names) → Settles e names
  settles e names s = steady_suc (λ b. it.made b e names) (steady_alike (λ b. it.made (suc b) e names) (at_depth e names) (λ b. it.step b e names) s)

  abbrev Good : Names → Type 0
  Good Empty = Unit {0}
  Good (Bound name path others) = Good others
  Good (Astray name others) = Good others
  Good (Stands name e there others) = Settles e there × Good others

  abbrev GoodBinding : Binding (List Side) → Type 0
  GoodBinding (ToFound path) = Unit {0}
  GoodBinding ToNoStep = Unit {0}
  GoodBinding (ToExpression e there) = Settles e there
  GoodBinding ToNothing = Unit {0}

  either_good : (b : Bool) (x y : Binding (List Side)) → GoodBinding x → GoodBinding y → GoodBinding (cond b x y)
  either_good true x y p q = p
  either_good false x y p q = q

  good_binding : (name : List ℕ) (names : Names) → Good names → GoodBinding (binding_of name names)
  good_binding name Empty g = tt
  good_binding name (Bound other path others) g = either_good (bytes_eq other name) (ToFound path) (binding_of name others) tt (good_binding name others g)
  good_binding name (Astray other others) g = either_good (bytes_eq other name) ToNoStep (binding_of name others) tt (good_binding name others g)
  good_binding name (Stands other e there others) g = either_good (bytes_eq other name) (ToExpression e there) (binding_of name others) g.0 (good_binding name others g.1)

  -- ---- what stands for parameters of inlines

  abbrev AllSteady : Operands → Names → Type 0
  AllSteady NoMore names = Unit {0}
  AllSteady (Operand first more) names = Steady (at_depth first names) × AllSteady more names

  part_steady : (path : List Side) (e : Expression) (names : Names) → Steady (at_depth e names) → Steady (at_depth (part_of path e) names)
  part_steady [] e names s = s
  part_steady (side ∷ path) e names s =
      part_steady path (Operation (step_code side) (Operand e NoMore)) names (steady_map (λ code. operation_of (step_code side) (code ∷ [])) (at_depth e names) s)

  codes_steady : (operands : Operands) (names : Names) → AllSteady operands names → Steady (operands_at_depth operands names)
  codes_steady NoMore names s = steady_same []
  codes_steady (Operand first more) names s = steady_two (λ code codes. code ∷ codes) (at_depth first names) (operands_at_depth more names) s.0 (codes_steady more names s.1)

  GoodExpression : Option Expression → Names → Type 0
  GoodExpression None names = Unit {0}
  GoodExpression (Some e) names = Settles e names

  operand_good : (path : List Side) (operands : Operands) (names : Names) → AllSteady operands names → GoodExpression (operand_at path operands) names
  unfolding GoodExpression
  operand_good [] operands names s = settles (Listing operands) names (steady_map list_of (operands_at_depth operands names) (codes_steady operands names s))
  operand_good (side ∷ path) NoMore names s = tt
  operand_good (ToFirst ∷ path) (Operand first more) names s = settles (part_of path first) names (part_steady path first names s.0)
  operand_good (ToRest ∷ path) (Operand first more) names s = operand_good path more names s.1

  standing_good : (name : List ℕ) (e : Option Expression) (names others : Names) → GoodExpression e names → Good others → Good (standing name e names others)
  unfolding GoodExpression
  standing_good name None names others p q = q
  standing_good name (Some e) names others p q = (p, q)

  inline_good : (ps : List Parameter) (operands : Operands) (names : Names) → AllSteady operands names → Good (expressions_bound ps operands names)
  inline_good [] operands names s = tt
  inline_good (p ∷ more) operands names s =
      standing_good p.name (operand_at p.path operands) names (expressions_bound more operands names) (operand_good p.path operands names s) (inline_good more operands names s)

-- ---- names among others

pub among_front : (x : List ℕ) (xs ys : List (List ℕ)) → is_among x xs ≡ true → is_among x (xs ++ ys) ≡ true
among_front x [] ys e = absurd cc
among_front x (y ∷ xs) ys e = elim (cases_Bool (bytes_eq x y)) [
  | inl t ↦ rw t refl
  | inr f ↦ rw f (among_front x xs ys (sym (ap (λ b. b || is_among x xs) f) ∙ e))
]

pub among_behind : (x : List ℕ) (xs ys : List (List ℕ)) → is_among x ys ≡ true → is_among x (xs ++ ys) ≡ true
among_behind x [] ys e = e
among_behind x (y ∷ xs) ys e = elim (cases_Bool (bytes_eq x y)) [
  | inl t ↦ rw t refl
  | inr f ↦ rw f (among_behind x xs ys e)
]

pub among_first : (x : List ℕ) (xs : List (List ℕ)) → is_among x (x ∷ xs) ≡ true
among_first x xs = rw (same_is x) refl

pub among_later : (x y : List ℕ) (xs : List (List ℕ)) → is_among x xs ≡ true → is_among x (y ∷ xs) ≡ true
among_later x y xs e = among_behind x (y ∷ []) xs e

module _ (it : Making) (depth : ℕ) where
  abbrev ShallowNames : List (List ℕ) → Type 0
  ShallowNames names = (called : List ℕ) → is_among called names ≡ true → Shallow it.source depth called

  module _ (lower : (name : List ℕ) → Shallow it.source depth name → (inline : Definition) → definition_named name it.source.inlines ≡ Some inline → (e : Expression) → body_of it.source inline.params inline.body ≡ Ok e →
      (names : Names) → Good it names → Settles it e names) where
    front : (xs ys : List (List ℕ)) → ShallowNames (xs ++ ys) → ShallowNames xs
    front xs ys s called c = s called (among_front called xs ys c)

    behind : (xs ys : List (List ℕ)) → ShallowNames (xs ++ ys) → ShallowNames ys
    behind xs ys s called c = s called (among_behind called xs ys c)

    body_steady : (name : List ℕ) → Shallow it.source depth name → (f : Definition) → definition_named name it.source.inlines ≡ Some f → (names : Names) → Good it names →
        (read : Judged Expression) → body_of it.source f.params f.body ≡ read → Steady (λ b. body_code (further_of it b) read names)
    body_steady name s f is names g (Ok e) reads = steady_map it.mark (λ b. it.made b e names) (lower name s f is e reads names g)
    body_steady name s f is names g (Err first) reads = steady_same fails

    inline_steady : (name : List ℕ) → Shallow it.source depth name → (operands : Operands) (names : Names) → AllSteady it operands names → (f : Option Definition) → definition_named name it.source.inlines ≡ f →
        Steady (λ b. inline_code it.source (further_of it b) operands names f)
    inline_steady name s operands names each None is = steady_same fails
    inline_steady name s operands names each (Some f) is =
        body_steady name s f is (inline_environment f.params operands names) (inline_good it (parameters f.params) operands names each) (body_of it.source f.params f.body) refl

    name_steady : (name : List ℕ) (d : Binding (List Side)) → GoodBinding it d → Steady (λ b. name_code it.source (further_of it b) name d)
    name_steady name (ToFound path) g = steady_same (Path path)
    name_steady name ToNoStep g = steady_same fails
    name_steady name (ToExpression e there) g = steady_map it.mark (λ b. it.made b e there) g
    name_steady name ToNothing g = steady_same (constant_code (constant_named name it.source.constants))

    choice_steady : (t a b : Expression) (names : Names) → Steady (at_depth it t names) → Steady (at_depth it a names) → Steady (at_depth it b names) → Steady (at_depth it (Choice t a b) names)
    choice_steady t a b names p q r =
        steady_two {A = Code → Code} (λ make code. make code) (λ n code. choice_of (at_depth it t names n) (at_depth it a names n) code) (at_depth it b names)
        (steady_two {C = Code → Code} choice_of (at_depth it t names) (at_depth it a names) p q) r

    mutual
      expression_steady : (e : Expression) (names : Names) → Good it names → ShallowNames (inlines_called e) → Steady (at_depth it e names)
      expression_steady (Literal tree) names g s = steady_same (Constant tree)
      expression_steady (Name name) names g s = name_steady name (binding_of name names) (good_binding it name names g)
      expression_steady (Choice condition second third) names g s =
          let later = behind (inlines_called condition) (inlines_called second ++ inlines_called third) s in
          choice_steady condition second third names (expression_steady condition names g (front (inlines_called condition) (inlines_called second ++ inlines_called third) s))
          (expression_steady second names g (front (inlines_called second) (inlines_called third) later)) (expression_steady third names g (behind (inlines_called second) (inlines_called third) later))
      expression_steady (Listing operands) names g s = steady_map list_of (operands_at_depth it operands names) (codes_steady it operands names (operands_steady operands names g s))
      expression_steady (Operation code operands) names g s = steady_map (operation_of code) (operands_at_depth it operands names) (codes_steady it operands names (operands_steady operands names g s))
      expression_steady (FunctionCall name operands) names g s =
          steady_map (call_of name) (operands_at_depth it operands names) (codes_steady it operands names (operands_steady operands names g s))
      expression_steady (InlineCall name operands) names g s =
          inline_steady name (s name (among_first name (called_by_operands operands))) operands names (operands_steady operands names g (behind (name ∷ []) (called_by_operands operands) s)) (definition_named name it.source.inlines) refl
      expression_steady (Filled template) names g s = template_steady template names g s

      operands_steady : (operands : Operands) (names : Names) → Good it names → ShallowNames (called_by_operands operands) → AllSteady it operands names
      operands_steady NoMore names g s = tt
      operands_steady (Operand first more) names g s =
          (expression_steady first names g (front (inlines_called first) (called_by_operands more) s), operands_steady more names g (behind (inlines_called first) (called_by_operands more) s))

      template_steady : (t : Template) (names : Names) → Good it names → ShallowNames (called_by_template t) → Steady (template_at_depth it t names)
      template_steady (Plain tree) names g s = steady_same (Constant tree)
      template_steady (Both first rest) names g s =
          steady_two pair_of (template_at_depth it first names) (template_at_depth it rest names)
          (template_steady first names g (front (called_by_template first) (called_by_template rest) s)) (template_steady rest names g (behind (called_by_template first) (called_by_template rest) s))
      template_steady (Unquoted e) names g s = expression_steady e names g s

-- ---- the module's code

-- what an inline's body calls nests one less
pub called_shallow : (source : Form → Form → Judged Expression) → (P : List ℕ → Type 0) (params body : Form) (e : Expression) → source params body ≡ Ok e →
    ((called : List ℕ) → is_among called (called_by_body (source params body)) ≡ true → P called) → (called : List ℕ) → is_among called (inlines_called e) ≡ true → P called
called_shallow source P params body e is s called c = s called (subst (λ read. is_among called (called_by_body read) ≡ true) (sym is) c)

steady_at : (it : Making) (depth : ℕ) (e : Expression) (names : Names) → Good it names → ShallowNames it depth (inlines_called e) → Steady (at_depth it e names)
steady_at it zero e names g s = expression_steady it zero (λ name none inline is e reads. let no : None ≡ Some inline = sym none ∙ is in absurd cc) e names g s
steady_at it (suc depth) e names g s =
    expression_steady it (suc depth)
    (λ name shallow inline is e reads names g. settles it e names (steady_at it depth e names g (called_shallow (body_of it.source) (Shallow it.source depth) inline.params inline.body e reads (shallow inline is)))) e names g s

module _ (it : Making) (ends : HasNoCycle it.source) where
  good_settles : (e : Expression) (names : Names) → Good it names → Settles it e names
  good_settles e names g =
      settles it e names (steady_at it (length it.source.inlines) e names g (λ called c. shallow it.source ends (length it.source.inlines) [] called tt tt tt (omega arith)))

  all_good : (names : Names) → Good it names
  all_good Empty = tt
  all_good (Bound name path others) = all_good others
  all_good (Astray name others) = all_good others
  all_good (Stands name e there others) = (good_settles e there (all_good there), all_good others)

  pub each_settles : (e : Expression) (names : Names) → (code : Code) × Eventually (λ b. it.made b e names) code
  each_settles e names = steady_limit (λ b. it.made b e names) (good_settles e names (all_good names))
