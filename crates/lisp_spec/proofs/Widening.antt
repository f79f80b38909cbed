-- What is an expression in a scope is the same expression in a wider one.
use Rattle.std.proofs.Common.{◌≡◌, ℕ, ◌==◌, Bool, true, false, not, ◌||◌, cond, List, [], ◌∷◌, Option, Some, None, is_some, option_map, Ok, refl, sym, ◌∙◌, ap, subst}
use Rattle.lisp_spec.specs.Forms.{Form, Place}
use Rattle.lisp_spec.specs.Forms as form
use Rattle.lisp_read.specs.FormLists.{form_elements}
use Rattle.lisp_spec.specs.declared.head.Head.{Head}
use Rattle.lisp_spec.specs.declared.head.Head.TheVariants.{QuotesRest, QuotesOne, Templates, Chooses, Lists, Operates, Calls}
use Rattle.lisp_spec.specs.Heads.{head_of}
use Rattle.lisp_spec.specs.ModuleFaults.{Unbound, BadForm, Fault, Judged, ◌>>=◌, ◌or◌, unless, expect, is_among}
use Rattle.lisp_spec.specs.Expressions.{Expression, Choice, Listing, Operation, FunctionCall, InlineCall, Filled, Operands, Operand, Template, Both, Unquoted, Scope, applied, call, headed, filled, expression_of, operands_of, choice_of, only_template, only_expression, template_of}
use Rattle.lisp_spec.proofs.Reading.{IsRead, read_atom, read_symbol, quotes_rest, quotes_one, templates, chooses, lists, operates, calls_inline, calls_function, AreOperands, read_none, read_more, IsTemplate, plain_atom, plain_symbol, unquotes, parts, ok}

pub are_proper : (scope : Scope) (f : Form) (found : Operands) → AreOperands scope f found → (forms : List Form) × (form_elements f ≡ Some forms)
are_proper scope f found (read_none at) = ([], refl)
are_proper scope f found (read_more at g rest e more p q) = let h = are_proper scope rest more q in (g ∷ h.0, ap (option_map (λ more. g ∷ more)) h.1)

pub record IsWider (scope wider : Scope) : Type 0 where
  pub symbols : (name : List ℕ) → is_among name scope.symbols ≡ true → is_among name wider.symbols ≡ true
  pub functions : (name : List ℕ) → is_among name scope.functions ≡ true → is_among name wider.functions ≡ true
  pub inlines : scope.inlines ≡ wider.inlines
  pub may_run : scope.may_run ≡ wider.may_run

then_is : {A B : Type 0} (x : Judged A) (go : A → Judged B) (a : A) (b : B) → x ≡ Ok a → go a ≡ Ok b → (x >>= go) ≡ Ok b
then_is x go a b e h = ap (λ x. x >>= go) e ∙ h

module _ (scope wider : Scope) (is_wider : IsWider scope wider) where
  at_head : (at place : Place) (name : List ℕ) (behind : Form) (e : Expression) (head : Head) → head_of name ≡ head →
      headed at place name behind (operands_of behind) (choice_of behind) (only_template behind) wider head ≡ Ok e → expression_of (form.Pair at (form.Symbol place name) behind) wider ≡ Ok e
  at_head at place name behind e head is h = subst (λ head. headed at place name behind (operands_of behind) (choice_of behind) (only_template behind) wider head ≡ Ok e) (sym is) h

  without_fault : (list : Option (List Form)) (forms : List Form) (pair : Place) (head : Option Fault) → list ≡ Some forms → head ≡ None → unless (expect (is_some list) BadForm pair or head) wider ≡ ok wider
  without_fault list forms pair head e h = rw (e, h) refl

  applies : (pair : Place) (behind : Form) (head : Option Fault) (make : Operands → Expression) (found : Operands) → AreOperands scope behind found → operands_of behind wider ≡ Ok found → head ≡ None →
      applied pair behind head (operands_of behind) make wider ≡ Ok (make found)
  applies pair behind head make found read e h =
      let p = are_proper scope behind found read in
      then_is (unless (expect (is_some (form_elements behind)) BadForm pair or head) wider) (λ s. operands_of behind s >>= λ found. Ok (make found)) wider (make found)
      (without_fault (form_elements behind) p.0 pair head p.1 h) (then_is (operands_of behind wider) (λ found. Ok (make found)) found (make found) e refl)

  holds : (is : Bool) (place : Place) → is ≡ true → expect is Unbound place ≡ None
  holds is place e = rw e refl

  inline_holds : (a b : Bool) (place : Place) → a ≡ true → expect (a || b) Unbound place ≡ None
  inline_holds a b place e = rw e refl

  function_holds : (a b : Bool) (place : Place) → a ≡ false → b ≡ true → expect (a || b) Unbound place ≡ None
  function_holds a b place e h = rw (e, h) refl

  is_inline : (name : List ℕ) (is : Bool) → is_among name scope.inlines ≡ is → is_among name wider.inlines ≡ is
  is_inline name is e = subst (λ names. is_among name names ≡ is) is_wider.inlines e

  call_is : (name : List ℕ) (found : Operands) (is : Bool) → is_among name wider.inlines ≡ is → ok (call wider name found) ≡ Ok (cond is (InlineCall name found) (FunctionCall name found))
  call_is name found is e = ap (λ is. ok (cond is (InlineCall name found) (FunctionCall name found))) e

  mutual
    pub is_wide : (f : Form) (e : Expression) → IsRead scope f e → expression_of f wider ≡ Ok e
    is_wide f e (read_atom at bytes) = refl
    is_wide f e (read_symbol at name among) = rw (is_wider.symbols name among) refl
    is_wide f e (quotes_rest at place name behind is) = at_head at place name behind e QuotesRest is refl
    is_wide f e (quotes_one at place next end name g is) = at_head at place name (form.Pair next g (form.Atom end [])) e QuotesOne is refl
    is_wide f e (templates at place next end name g t is h) =
        at_head at place name (form.Pair next g (form.Atom end [])) e Templates is (then_is (template_of g wider) (λ t. Ok (Filled t)) t e (template_wide g t h) refl)
    is_wide f e (chooses at place first second third end name g h k a b c is p q r) =
        at_head at place name (form.Pair first g (form.Pair second h (form.Pair third k (form.Atom end [])))) e Chooses is
        (then_is (expression_of g wider) (λ a. expression_of h wider >>= λ b. expression_of k wider >>= λ c. Ok (Choice a b c)) a e (is_wide g a p)
        (then_is (expression_of h wider) (λ b. expression_of k wider >>= λ c. Ok (Choice a b c)) b e (is_wide h b q)
        (then_is (expression_of k wider) (λ c. Ok (Choice a b c)) c e (is_wide k c r) refl)))
    is_wide f e (lists at place name behind found is h) =
        at_head at place name behind e Lists is (applies at behind None Listing found h (operands_wide behind found h) refl)
    is_wide f e (operates at place name code behind found is may h) =
        at_head at place name behind e (Operates code) is (applies at behind (expect (wider.may_run || not (code == 2)) Unbound place) (Operation code) found h (operands_wide behind found h)
        (holds (wider.may_run || not (code == 2)) place (subst (λ run. (run || not (code == 2)) ≡ true) is_wider.may_run may)))
    is_wide f e (calls_inline at place name behind found is among h) =
        let inline = is_inline name true among in
        at_head at place name behind e Calls is (applies at behind _ (call wider name) found h (operands_wide behind found h) (inline_holds (is_among name wider.inlines) (is_among name wider.functions) place inline)
        ∙ call_is name found true inline)
    is_wide f e (calls_function at place name behind found is isnt among h) =
        let inline = is_inline name false isnt in
        at_head at place name behind e Calls is (applies at behind _ (call wider name) found h (operands_wide behind found h)
        (function_holds (is_among name wider.inlines) (is_among name wider.functions) place inline (is_wider.functions name among))
        ∙ call_is name found false inline)

    pub operands_wide : (f : Form) (found : Operands) → AreOperands scope f found → operands_of f wider ≡ Ok found
    operands_wide f found (read_none at) = refl
    operands_wide f found (read_more at g rest e more p q) =
        then_is (expression_of g wider) (λ e. operands_of rest wider >>= λ more. Ok (Operand e more)) e found (is_wide g e p)
        (then_is (operands_of rest wider) (λ more. Ok (Operand e more)) more found (operands_wide rest more q) refl)

    pub template_wide : (f : Form) (t : Template) → IsTemplate scope f t → template_of f wider ≡ Ok t
    template_wide f t (plain_atom at bytes) = refl
    template_wide f t (plain_symbol at name) = refl
    template_wide f t (unquotes at next end head g e is h) =
        let behind = form.Pair next g (form.Atom end []) in
        subst (λ b. filled b at (only_expression behind) (template_of head) (template_of behind) wider ≡ Ok t) (sym is) (then_is (expression_of g wider) (λ e. Ok (Unquoted e)) e t (is_wide g e h) refl)
    template_wide f t (parts at first rest a b is p q) =
        subst (λ is. filled is at (only_expression rest) (template_of first) (template_of rest) wider ≡ Ok t) (sym is)
        (then_is (template_of first wider) (λ a. template_of rest wider >>= λ b. Ok (Both a b)) a t (template_wide first a p)
        (then_is (template_of rest wider) (λ b. Ok (Both a b)) b t (template_wide rest b q) refl))
