-- What a form is that is read as an expression: the cases that can come, and no others.
use Rattle.std.proofs.Common.{◌≡◌, ℕ, ◌==◌, Bool, true, false, not, ◌||◌, cond, List, [], ◌∷◌, Option, Some, None, is_some, option_map, Ok, Err, codes, refl, sym, subst}
use Rattle.clvm_spec.specs.Tree as tree
use Rattle.lisp_spec.specs.Forms.{Form, Place}
use Rattle.lisp_spec.specs.Forms as form
use Rattle.lisp_read.specs.FormLists.{form_elements, the_only, single, is_symbol}
use Rattle.lisp_spec.specs.declared.head.Head.{Head}
use Rattle.lisp_spec.specs.declared.head.Head.TheVariants.{QuotesRest, QuotesOne, Templates, Unquotes, Chooses, Lists, Operates, Calls}
use Rattle.lisp_spec.specs.Heads.{head_of}
use Rattle.lisp_spec.specs.Quoted.{quoted_form, symbol_tree}
use Rattle.lisp_spec.specs.ModuleFaults.{Kind, Unbound, BadForm, Fault, Judged, ◌>>=◌, ◌or◌, unless, expect, is_among}
use Rattle.lisp_spec.specs.Expressions.{Expression, Literal, Name, Choice, Listing, Operation, FunctionCall, InlineCall, Filled, Operands, NoMore, Operand, Template, Plain, Both, Unquoted, Scope, quoted, applied, call, headed, filled, expression_of, operands_of, choice_of, only_template, only_expression, template_of}

-- ---- steps

pub then_ok : {A B : Type 0} (x : Judged A) (go : A → Judged B) (b : B) → (x >>= go) ≡ Ok b → (a : A) × (x ≡ Ok a) × (go a ≡ Ok b)
then_ok (Ok a) go b e = (a, refl, e)
then_ok (Err f) go b e = absurd cc

abbrev pub ok : {A : Type 0} → A → Judged A
ok a = Ok a

pub ok_is : {A : Type 0} (a b : A) → ok a ≡ ok b → a ≡ b
ok_is a b e = cc

pub unless_ok : {A : Type 0} (f : Option Fault) (found a : A) → unless f found ≡ Ok a → (f ≡ None) × (found ≡ a)
unless_ok None found a e = (refl, cc)
unless_ok (Some f) found a e = absurd cc

pub or_none : (a b : Option Fault) → (a or b) ≡ None → (a ≡ None) × (b ≡ None)
or_none None b e = (refl, e)
or_none (Some f) b e = absurd cc

pub expect_none : (holds : Bool) (kind : Kind) (place : Place) → expect holds kind place ≡ None → holds ≡ true
expect_none true kind place e = refl
expect_none false kind place e = absurd cc

-- ---- the cases

mutual
  pub data IsRead (scope : Scope) : Form → Expression → Type 0 where
    read_atom : (at : Place) (bytes : List ℕ) → IsRead scope (form.Atom at bytes) (Literal (tree.Atom bytes))
    read_symbol : (at : Place) (name : List ℕ) → is_among name scope.symbols ≡ true → IsRead scope (form.Symbol at name) (Name name)
    quotes_rest : (at place : Place) (name : List ℕ) (behind : Form) → head_of name ≡ QuotesRest →
        IsRead scope (form.Pair at (form.Symbol place name) behind) (Literal (quoted_form behind))
    quotes_one : (at place next end : Place) (name : List ℕ) (f : Form) → head_of name ≡ QuotesOne →
        IsRead scope (form.Pair at (form.Symbol place name) (form.Pair next f (form.Atom end []))) (Literal (quoted_form f))
    templates : (at place next end : Place) (name : List ℕ) (f : Form) (t : Template) → head_of name ≡ Templates → IsTemplate scope f t →
        IsRead scope (form.Pair at (form.Symbol place name) (form.Pair next f (form.Atom end []))) (Filled t)
    chooses : (at place first second third end : Place) (name : List ℕ) (f g h : Form) (a b c : Expression) → head_of name ≡ Chooses →
        IsRead scope f a → IsRead scope g b → IsRead scope h c →
        IsRead scope (form.Pair at (form.Symbol place name) (form.Pair first f (form.Pair second g (form.Pair third h (form.Atom end []))))) (Choice a b c)
    lists : (at place : Place) (name : List ℕ) (behind : Form) (found : Operands) → head_of name ≡ Lists → AreOperands scope behind found →
        IsRead scope (form.Pair at (form.Symbol place name) behind) (Listing found)
    operates : (at place : Place) (name : List ℕ) (code : ℕ) (behind : Form) (found : Operands) → head_of name ≡ Operates code → (scope.may_run || not (code == 2)) ≡ true → AreOperands scope behind found →
        IsRead scope (form.Pair at (form.Symbol place name) behind) (Operation code found)
    calls_inline : (at place : Place) (name : List ℕ) (behind : Form) (found : Operands) → head_of name ≡ Calls → is_among name scope.inlines ≡ true → AreOperands scope behind found →
        IsRead scope (form.Pair at (form.Symbol place name) behind) (InlineCall name found)
    calls_function : (at place : Place) (name : List ℕ) (behind : Form) (found : Operands) → head_of name ≡ Calls → is_among name scope.inlines ≡ false → is_among name scope.functions ≡ true → AreOperands scope behind found →
        IsRead scope (form.Pair at (form.Symbol place name) behind) (FunctionCall name found)

  pub data AreOperands (scope : Scope) : Form → Operands → Type 0 where
    read_none : (at : Place) → AreOperands scope (form.Atom at []) NoMore
    read_more : (at : Place) (f rest : Form) (e : Expression) (more : Operands) → IsRead scope f e → AreOperands scope rest more → AreOperands scope (form.Pair at f rest) (Operand e more)

  pub data IsTemplate (scope : Scope) : Form → Template → Type 0 where
    plain_atom : (at : Place) (bytes : List ℕ) → IsTemplate scope (form.Atom at bytes) (Plain (tree.Atom bytes))
    plain_symbol : (at : Place) (name : List ℕ) → IsTemplate scope (form.Symbol at name) (Plain (symbol_tree name))
    unquotes : (at next end : Place) (head f : Form) (e : Expression) → is_symbol (codes "unquote") head ≡ true → IsRead scope f e →
        IsTemplate scope (form.Pair at head (form.Pair next f (form.Atom end []))) (Unquoted e)
    parts : (at : Place) (first rest : Form) (a b : Template) → is_symbol (codes "unquote") first ≡ false → IsTemplate scope first a → IsTemplate scope rest b →
        IsTemplate scope (form.Pair at first rest) (Both a b)

-- ---- what is read is one of them

module _ (scope : Scope) where
  abbrev OperandsRead : Form → Type 0
  OperandsRead behind = (forms : List Form) → form_elements behind ≡ Some forms → (found : Operands) → operands_of behind scope ≡ Ok found → AreOperands scope behind found

  abbrev ChoiceRead : Form → Type 0
  ChoiceRead behind = (pair : Place) (e : Expression) → choice_of behind pair scope ≡ Ok e →
      (at place : Place) (name : List ℕ) → head_of name ≡ Chooses → IsRead scope (form.Pair at (form.Symbol place name) behind) e

  abbrev TemplateRead : Form → Type 0
  TemplateRead behind = (pair : Place) (e : Expression) → only_template behind pair scope ≡ Ok e →
      (at place : Place) (name : List ℕ) → head_of name ≡ Templates → IsRead scope (form.Pair at (form.Symbol place name) behind) e

  abbrev UnquoteRead : Form → Type 0
  UnquoteRead behind = (pair : Place) (e : Expression) → only_expression behind pair scope ≡ Ok e →
      (at : Place) (head : Form) → is_symbol (codes "unquote") head ≡ true → IsTemplate scope (form.Pair at head behind) (Unquoted e)

  some_is : (list : Option (List Form)) → is_some list ≡ true → (forms : List Form) × (list ≡ Some forms)
  some_is None h = absurd cc
  some_is (Some forms) h = (forms, refl)

  -- the operands of a pair, and that its head has no fault
  applied_is : (pair : Place) (behind : Form) (head : Option Fault) (make : Operands → Expression) (e : Expression) →
      applied pair behind head (operands_of behind) make scope ≡ Ok e → OperandsRead behind →
      (head ≡ None) × ((found : Operands) × (make found ≡ e) × AreOperands scope behind found)
  applied_is pair behind head make e h operands =
      let s = then_ok (unless (expect (is_some (form_elements behind)) BadForm pair or head) scope) _ e h in
      let u = unless_ok (expect (is_some (form_elements behind)) BadForm pair or head) scope s.0 s.1 in
      let n = or_none (expect (is_some (form_elements behind)) BadForm pair) head u.0 in
      let proper = some_is (form_elements behind) (expect_none (is_some (form_elements behind)) BadForm pair n.0) in
      let reads : (operands_of behind scope >>= λ found. Ok (make found)) ≡ Ok e = subst (λ s. (operands_of behind s >>= λ found. Ok (make found)) ≡ Ok e) (sym u.1) s.2 in
      let o = then_ok (operands_of behind scope) _ e reads in
      (n.1, (o.0, ok_is (make o.0) e o.2, operands proper.0 proper.1 o.0 o.1))

  quoted_is : (at place : Place) (name : List ℕ) (behind : Form) (e : Expression) → head_of name ≡ QuotesOne → quoted at (single behind) ≡ Ok e →
      IsRead scope (form.Pair at (form.Symbol place name) behind) e
  quoted_is at place name (form.Pair next f (form.Atom end [])) e head h = subst (IsRead scope _) (ok_is (Literal (quoted_form f)) e h) (quotes_one at place next end name f head)
  quoted_is at place name (form.Pair next f (form.Pair last g rest)) e head h = by (form_elements rest) h
    where
      by : (list : Option (List Form)) → quoted at (elim (option_map (λ more. f ∷ more) (option_map (λ more. g ∷ more) list)) [ None ↦ None | Some forms ↦ the_only forms ]) ≡ Ok e → IsRead scope (form.Pair at (form.Symbol place name) (form.Pair next f (form.Pair last g rest))) e
      by None h = absurd cc
      by (Some more) h = absurd cc
  quoted_is at place name (form.Atom end []) e head h = absurd cc
  quoted_is at place name (form.Atom end (b ∷ bytes)) e head h = absurd cc
  quoted_is at place name (form.Symbol end other) e head h = absurd cc
  quoted_is at place name (form.Pair next f (form.Atom end (b ∷ bytes))) e head h = absurd cc
  quoted_is at place name (form.Pair next f (form.Symbol end other)) e head h = absurd cc

  call_is : (at place : Place) (name : List ℕ) (behind : Form) (found : Operands) (e : Expression) (is : Bool) → is_among name scope.inlines ≡ is → head_of name ≡ Calls → (is || is_among name scope.functions) ≡ true →
      AreOperands scope behind found → cond is (InlineCall name found) (FunctionCall name found) ≡ e → IsRead scope (form.Pair at (form.Symbol place name) behind) e
  call_is at place name behind found e true is head among operands h = subst (IsRead scope _) h (calls_inline at place name behind found head is operands)
  call_is at place name behind found e false is head among operands h = subst (IsRead scope _) h (calls_function at place name behind found head is among operands)

  headed_is : (at place : Place) (name : List ℕ) (behind : Form) → OperandsRead behind → ChoiceRead behind → TemplateRead behind → (head : Head) → head_of name ≡ head → (e : Expression) →
      headed at place name behind (operands_of behind) (choice_of behind) (only_template behind) scope head ≡ Ok e → IsRead scope (form.Pair at (form.Symbol place name) behind) e
  headed_is at place name behind operands choice template QuotesRest is e h = subst (IsRead scope _) (ok_is (Literal (quoted_form behind)) e h) (quotes_rest at place name behind is)
  headed_is at place name behind operands choice template QuotesOne is e h = quoted_is at place name behind e is h
  headed_is at place name behind operands choice template Templates is e h = template at e h at place name is
  headed_is at place name behind operands choice template Unquotes is e h = absurd cc
  headed_is at place name behind operands choice template Chooses is e h = choice at e h at place name is
  headed_is at place name behind operands choice template Lists is e h =
      let a = applied_is at behind None Listing e h operands in
      subst (IsRead scope _) a.1.1 (lists at place name behind a.1.0 is a.1.2)
  headed_is at place name behind operands choice template (Operates code) is e h =
      let a = applied_is at behind (expect (scope.may_run || not (code == 2)) Unbound place) (Operation code) e h operands in
      subst (IsRead scope _) a.1.1 (operates at place name code behind a.1.0 is (expect_none _ Unbound place a.0) a.1.2)
  headed_is at place name behind operands choice template Calls is e h =
      let a = applied_is at behind (expect (is_among name scope.inlines || is_among name scope.functions) Unbound place) (call scope name) e h operands in
      call_is at place name behind a.1.0 e (is_among name scope.inlines) refl is (expect_none _ Unbound place a.0) a.1.2 a.1.1

  filled_is : (at : Place) (first rest : Form) (t : Template) (is : Bool) → is_symbol (codes "unquote") first ≡ is → UnquoteRead rest →
      ((a : Template) → template_of first scope ≡ Ok a → IsTemplate scope first a) → ((b : Template) → template_of rest scope ≡ Ok b → IsTemplate scope rest b) →
      filled is at (only_expression rest) (template_of first) (template_of rest) scope ≡ Ok t → IsTemplate scope (form.Pair at first rest) t
  filled_is at first rest t true is unquote front behind h =
      let e = then_ok (only_expression rest at scope) _ t h in
      subst (IsTemplate scope _) (ok_is (Unquoted e.0) t e.2) (unquote at e.0 e.1 at first is)
  filled_is at first rest t false is unquote front behind h =
      let a = then_ok (template_of first scope) _ t h in
      let b = then_ok (template_of rest scope) _ t a.2 in
      subst (IsTemplate scope _) (ok_is (Both a.0 b.0) t b.2) (parts at first rest a.0 b.0 is (front a.0 a.1) (behind b.0 b.1))

  some_behind : (f : Form) (more : Option (List Form)) (forms : List Form) → option_map (λ more. f ∷ more) more ≡ Some forms → (behind : List Form) × (more ≡ Some behind)
  some_behind f None forms e = absurd cc
  some_behind f (Some more) forms e = (more, refl)

  mutual
    pub is_read : (f : Form) (e : Expression) → expression_of f scope ≡ Ok e → IsRead scope f e
    is_read (form.Atom at bytes) e h = subst (IsRead scope _) (ok_is (Literal (tree.Atom bytes)) e h) (read_atom at bytes)
    is_read (form.Symbol at name) e h =
        let u = unless_ok (expect (is_among name scope.symbols) Unbound at) (Name name) e h in
        subst (IsRead scope _) u.1 (read_symbol at name (expect_none _ Unbound at u.0))
    is_read (form.Pair at (form.Atom place bytes) behind) e h = absurd cc
    is_read (form.Pair at (form.Symbol place name) behind) e h =
        headed_is at place name behind (operands_read behind) (choice_read behind) (template_read behind) (head_of name) refl e h
    is_read (form.Pair at (form.Pair place first rest) behind) e h = absurd cc

    pub operands_read : (f : Form) → OperandsRead f
    operands_read (form.Atom at []) forms p found h = subst (AreOperands scope _) (ok_is NoMore found h) (read_none at)
    operands_read (form.Atom at (b ∷ bytes)) forms p found h = absurd cc
    operands_read (form.Symbol at name) forms p found h = absurd cc
    operands_read (form.Pair at first rest) forms p found h =
        let e = then_ok (expression_of first scope) _ found h in
        let m = then_ok (operands_of rest scope) _ found e.2 in
        let b = some_behind first (form_elements rest) forms p in
        subst (AreOperands scope _) (ok_is (Operand e.0 m.0) found m.2) (read_more at first rest e.0 m.0 (is_read first e.0 e.1) (operands_read rest b.0 b.1 m.0 m.1))

    choice_read : (f : Form) → ChoiceRead f
    choice_read (form.Pair first f (form.Pair second g (form.Pair third k (form.Atom end [])))) pair e h at place name head =
        let a = then_ok (expression_of f scope) _ e h in
        let b = then_ok (expression_of g scope) _ e a.2 in
        let c = then_ok (expression_of k scope) _ e b.2 in
        subst (IsRead scope _) (ok_is (Choice a.0 b.0 c.0) e c.2)
        (chooses at place first second third end name f g k a.0 b.0 c.0 head (is_read f a.0 a.1) (is_read g b.0 b.1) (is_read k c.0 c.1))
    choice_read other pair e h at place name head = absurd cc

    template_read : (f : Form) → TemplateRead f
    template_read (form.Pair next f (form.Atom end [])) pair e h at place name head =
        let t = then_ok (template_of f scope) _ e h in
        subst (IsRead scope _) (ok_is (Filled t.0) e t.2) (templates at place next end name f t.0 head (is_template f t.0 t.1))
    template_read other pair e h at place name head = absurd cc

    unquote_read : (f : Form) → UnquoteRead f
    unquote_read (form.Pair next f (form.Atom end [])) pair e h at head is = unquotes at next end head f e is (is_read f e h)
    unquote_read other pair e h at head is = absurd cc

    pub is_template : (f : Form) (t : Template) → template_of f scope ≡ Ok t → IsTemplate scope f t
    is_template (form.Atom at bytes) t h = subst (IsTemplate scope _) (ok_is (Plain (tree.Atom bytes)) t h) (plain_atom at bytes)
    is_template (form.Symbol at name) t h = subst (IsTemplate scope _) (ok_is (Plain (symbol_tree name)) t h) (plain_symbol at name)
    is_template (form.Pair at first rest) t h =
        filled_is at first rest t (is_symbol (codes "unquote") first) refl (unquote_read rest) (is_template first) (is_template rest) h
