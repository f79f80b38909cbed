-- Each constant of a module is what its expression means in that module.
use Rattle.std.proofs.Common.{◌≡◌, ℕ, Bool, true, false, cond, List, [], ◌∷◌, ◌++◌, Some, Ok, bytes_eq, refl, sym, ◌∙◌, ap, subst, append_assoc}
use Rattle.std.proofs.lemmas.List.{append-nil}
use Rattle.clvm_spec.specs.Tree.{Tree}
use Rattle.clvm_spec.specs.Operators.{is_nil}
use Rattle.lisp_spec.specs.Forms.{Place}
use Rattle.lisp_spec.specs.Modules.{Module, Constant, constant_named, constant_names}
use Rattle.lisp_spec.specs.ModuleFaults.{Judged, ◌>>=◌}
use Rattle.lisp_spec.specs.Definitions.{Written, constants_in}
use Rattle.lisp_spec.specs.Expressions.{Expression, Literal, Name, Choice, Listing, Operation, FunctionCall, InlineCall, Filled, Operands, NoMore, Operand, Template, Plain, Both, Unquoted, expression_of}
use Rattle.lisp_spec.specs.Scopes.{constant_scope}
use Rattle.lisp_spec.specs.Constants.{met, named_value, expression_value, operand_values, template_value, constant_value, with_constant, constants_after}
use Rattle.lisp_spec.specs.ModuleOf.{draft_of}
use Rattle.lisp_spec.specs.Inclusion.{definitions_of}
use Rattle.lisp_spec.specs.ConstantLaws.{AreWhatTheyMean, ConstantsAreWhatTheyMean}
use Rattle.lisp_spec.proofs.Reading.{then_ok, ok_is}
use Rattle.lisp_spec.proofs.ConstantProofs.{constants_mean_their_values}
use Rattle.lisp_spec.proofs.ModuleProofs.{stages}

then_is : {A B : Type 0} (x : Judged A) (go : A → Judged B) (a : A) (b : B) → x ≡ Ok a → go a ≡ Ok b → (x >>= go) ≡ Ok b
then_is x go a b e h = ap (λ x. x >>= go) e ∙ h

-- ---- further constants change no value

module _ (place : Place) (earlier later : List Constant) where
  found_by : (name : List ℕ) (cs : List Constant) (value : Tree) → named_value place (constant_named name cs) ≡ Ok value → named_value place (constant_named name (cs ++ later)) ≡ Ok value
  found_by name [] value e = absurd cc
  found_by name (c ∷ cs) value e = by (bytes_eq c.name name) (found_by name cs value) e
    where
      by : (is : Bool) → (named_value place (constant_named name cs) ≡ Ok value → named_value place (constant_named name (cs ++ later)) ≡ Ok value) →
          named_value place (cond is (Some c) (constant_named name cs)) ≡ Ok value → named_value place (cond is (Some c) (constant_named name (cs ++ later))) ≡ Ok value
      by true go e = e
      by false go e = go e

  one_of : (is : Bool) (a b x y : Judged Tree) (value : Tree) → (a ≡ Ok value → x ≡ Ok value) → (b ≡ Ok value → y ≡ Ok value) → cond is a b ≡ Ok value → cond is x y ≡ Ok value
  one_of true a b x y value p q e = p e
  one_of false a b x y value p q e = q e

  mutual
    same_value : (e : Expression) (value : Tree) → expression_value place earlier e ≡ Ok value → expression_value place (earlier ++ later) e ≡ Ok value
    same_value (Literal tree) value h = h
    same_value (Name name) value h = found_by name earlier value h
    same_value (Choice condition second third) value h =
        let v = then_ok (expression_value place earlier condition) _ value h in
        then_is (expression_value place (earlier ++ later) condition) _ v.0 value (same_value condition v.0 v.1)
        (one_of (is_nil v.0) _ _ _ _ value (same_value third value) (same_value second value) v.2)
    same_value (Listing operands) value h =
        let v = then_ok (operand_values place earlier operands) _ value h in then_is (operand_values place (earlier ++ later) operands) _ v.0 value (same_values operands v.0 v.1) v.2
    same_value (Operation code operands) value h =
        let v = then_ok (operand_values place earlier operands) _ value h in then_is (operand_values place (earlier ++ later) operands) _ v.0 value (same_values operands v.0 v.1) v.2
    same_value (FunctionCall name operands) value h = absurd cc
    same_value (InlineCall name operands) value h = absurd cc
    same_value (Filled template) value h =
        let v = then_ok (template_value place earlier template) (met place) value h in then_is (template_value place (earlier ++ later) template) (met place) v.0 value (same_filled template v.0 v.1) v.2

    same_values : (operands : Operands) (values : List Tree) → operand_values place earlier operands ≡ Ok values → operand_values place (earlier ++ later) operands ≡ Ok values
    same_values NoMore values h = h
    same_values (Operand first more) values h =
        let m = then_ok (operand_values place earlier more) _ values h in
        let f = then_ok (expression_value place earlier first) _ values m.2 in
        then_is (operand_values place (earlier ++ later) more) _ m.0 values (same_values more m.0 m.1)
        (then_is (expression_value place (earlier ++ later) first) _ f.0 values (same_value first f.0 f.1) f.2)

    same_filled : (t : Template) (value : Tree) → template_value place earlier t ≡ Ok value → template_value place (earlier ++ later) t ≡ Ok value
    same_filled (Plain tree) value h = h
    same_filled (Both first rest) value h =
        let b = then_ok (template_value place earlier rest) _ value h in
        let a = then_ok (template_value place earlier first) _ value b.2 in
        then_is (template_value place (earlier ++ later) rest) _ b.0 value (same_filled rest b.0 b.1)
        (then_is (template_value place (earlier ++ later) first) _ a.0 value (same_filled first a.0 a.1) a.2)
    same_filled (Unquoted e) value h = same_value e value h

-- ---- the constants of a module

-- What is made of the definitions from here on stands behind the earlier constants, and is what they mean.
each_means : (m : Module) (earlier : List Constant) (definitions : List Written) (constants : List Constant) → constants_after earlier definitions ≡ Ok constants → m.constants ≡ constants →
    (later : List Constant) × (constants ≡ earlier ++ later) × AreWhatTheyMean m definitions later
each_means m earlier [] constants e is = ([], sym (ok_is earlier constants e) ∙ sym (append-nil earlier), tt)
each_means m earlier (d ∷ definitions) constants e is =
    let v = then_ok (constant_value earlier d) _ constants e in
    let x = then_ok (expression_of d.body (constant_scope (constant_names earlier))) _ v.0 v.1 in
    let rest = each_means m (with_constant d v.0 earlier) definitions constants v.2 is in
    let this : Constant = record { name = d.name; value = v.0 } in
    let all : constants ≡ earlier ++ (this ∷ rest.0) = rest.1 ∙ append_assoc earlier (this ∷ []) rest.0 in
    let there : expression_value d.place m.constants x.0 ≡ Ok v.0 =
    subst (λ cs. expression_value d.place cs x.0 ≡ Ok v.0) (sym (is ∙ all)) (same_value d.place earlier (this ∷ rest.0) x.0 v.0 x.2) in
    (this ∷ rest.0, all, (refl, (constant_names earlier, x.0, x.1, λ n. constants_mean_their_values m (constant_names earlier) d.place d.body x.0 n v.0 x.1 there), rest.2))

pub constants_are_what_they_mean : ConstantsAreWhatTheyMean
constants_are_what_they_mean texts text parts written draft m reads defines expands stands =
    let s = stages texts text m stands in
    let same_parts : s.parts ≡ parts = ok_is s.parts parts (sym s.reads ∙ reads) in
    let same_written : s.written ≡ written = ok_is s.written written (sym (subst (λ p. definitions_of texts p ≡ Ok s.written) same_parts s.defines) ∙ defines) in
    let drafted : draft_of parts written ≡ Ok s.draft = subst (λ p. draft_of p written ≡ Ok s.draft) same_parts (subst (λ w. draft_of s.parts w ≡ Ok s.draft) same_written s.expands) in
    let same_draft : s.draft ≡ draft = ok_is s.draft draft (sym drafted ∙ expands) in
    let constants : m.constants ≡ s.constants = sym (ap (λ m. m.constants) s.is) in
    let e = each_means m [] (constants_in s.draft.definitions) s.constants s.values constants in
    subst (λ d. AreWhatTheyMean m (constants_in d.definitions) m.constants) same_draft
    (subst (AreWhatTheyMean m (constants_in s.draft.definitions)) (sym (constants ∙ e.1)) e.2)
