-- A constant's value is what its expression means.
use Rattle.std.proofs.Common.{◌≡◌, ℕ, zero, suc, ◌==◌, ◌⊎◌, inl, inr, Bool, true, false, cond, not, nat_lt, List, [], ◌∷◌, Option, Some, None, Ok, Err, refl, sym, ◌∙◌, ap, subst}
use Rattle.clvm_spec.specs.Tree.{Tree, Pair, list_tree}
use Rattle.clvm_spec.specs.Tree as tree
use Rattle.clvm_spec.specs.Outcomes.{Applied, Gives, Fails, TooWide}
use Rattle.clvm_spec.specs.Operators.{is_nil}
use Rattle.clvm_spec.specs.OperatorTable.{applied}
use Rattle.lisp_spec.specs.Forms.{Form, Place}
use Rattle.lisp_spec.specs.Quoted.{quoted_form}
use Rattle.lisp_spec.specs.Modules.{Module, Constant, constant_named}
use Rattle.lisp_spec.specs.Weights.{tree_weight, weight_limit}
use Rattle.lisp_spec.specs.Environments.{Empty}
use Rattle.lisp_spec.specs.Meaning.{Meaning, Value, Failed, Wide, Out, Means, if_value, operator_meaning, operate, run_values, constant_meaning, expression_meaning, operands_meaning, template_meaning, meaning_within, meaning}
use Rattle.lisp_spec.specs.ModuleFaults.{ConstantFails, TooLarge, fault, Judged, ◌>>=◌}
use Rattle.lisp_spec.specs.Expressions.{Expression, Operands, Template}
use Rattle.lisp_spec.specs.Scopes.{constant_scope, IsExpression}
use Rattle.lisp_spec.specs.Constants.{met, result_value, named_value, expression_value, operand_values, template_value}
use Rattle.lisp_spec.specs.ConstantLaws.{ConstantsMeanTheirValues, FailingConstantsMeanNone}
use Rattle.lisp_spec.proofs.Reading.{IsRead, read_atom, read_symbol, quotes_rest, quotes_one, templates, chooses, lists, operates, calls_inline, calls_function, AreOperands, read_none, read_more, IsTemplate, plain_atom, plain_symbol, unquotes, parts, is_read}

-- ---- a value and a meaning

pub data IsNoValue : Meaning → Type 0 where
  failed : IsNoValue Failed
  wide : IsNoValue Wide

-- A value is what is meant. Where a constant fails nothing is, and where it is too large anything may be.
Fits : Judged Tree → Meaning → Type 0
Fits (Ok value) meant = meant ≡ Value value
Fits (Err first) meant = first.kind ≡ ConstantFails → IsNoValue meant

-- the values of all operands, as a list
abbrev All : Type 0
All = (List Tree → Meaning) → Meaning

FitsAll : Judged (List Tree) → All → Type 0
FitsAll (Ok values) all = (go : List Tree → Meaning) → all go ≡ go values
FitsAll (Err first) all = first.kind ≡ ConstantFails → (go : List Tree → Meaning) → IsNoValue (all go)

none_then : (meant : Meaning) (go : Tree → Meaning) → IsNoValue meant → IsNoValue (if_value meant go)
none_then meant go failed = failed
none_then meant go wide = wide

fits_then : (judged : Judged Tree) (meant : Meaning) (next : Tree → Judged Tree) (go : Tree → Meaning) → Fits judged meant → ((value : Tree) → Fits (next value) (go value)) → Fits (judged >>= next) (if_value meant go)
unfolding Fits
fits_then (Ok value) meant next go e h = subst (λ meant. Fits (next value) (if_value meant go)) (sym e) (h value)
fits_then (Err first) meant next go none h = λ e. none_then meant go (none e)

all_then : (judged : Judged (List Tree)) (all : All) (next : List Tree → Judged Tree) (go : List Tree → Meaning) → FitsAll judged all → ((values : List Tree) → Fits (next values) (go values)) → Fits (judged >>= next) (all go)
unfolding Fits FitsAll
all_then (Ok values) all next go e h = subst (Fits (next values)) (sym (e go)) (h values)
all_then (Err first) all next go none h = λ e. none e go

more_fits : (first : Judged Tree) (rest : Judged (List Tree)) (meant : Meaning) (all : All) → Fits first meant → FitsAll rest all →
    FitsAll (rest >>= λ values. first >>= λ value. Ok (value ∷ values)) (λ go. all (λ values. if_value meant (λ value. go (value ∷ values))))
unfolding Fits FitsAll
more_fits (Ok value) (Ok values) meant all e h = λ go. h (λ values. if_value meant (λ value. go (value ∷ values))) ∙ ap (λ meant. if_value meant (λ value. go (value ∷ values))) e
more_fits (Err first) (Ok values) meant all none h =
    λ e go. subst IsNoValue (sym (h (λ values. if_value meant (λ value. go (value ∷ values))))) (none_then meant (λ value. go (value ∷ values)) (none e))
more_fits first (Err later) meant all e none = λ e go. none e (λ values. if_value meant (λ value. go (value ∷ values)))

within_limit : (place : Place) (value : Tree) (heavy : Bool) → Fits (cond heavy (Err (fault TooLarge place)) (Ok value)) (Value value)
unfolding Fits
within_limit place value true = λ e. absurd cc
within_limit place value false = refl

value_is : (place : Place) (value : Tree) → Fits (met place value) (Value value)
value_is place value = within_limit place value (nat_lt weight_limit (tree_weight value))

met_fits : (place : Place) (judged : Judged Tree) (meant : Meaning) → Fits judged meant → Fits (judged >>= met place) meant
unfolding Fits
met_fits place (Ok value) meant e = subst (Fits (met place value)) (sym e) (value_is place value)
met_fits place (Err first) meant none = none

named_fits : (place : Place) (found : Option Constant) → Fits (named_value place found) (constant_meaning found)
unfolding Fits
named_fits place None = λ e. failed
named_fits place (Some c) = value_is place c.value

result_fits : (place : Place) (result : Applied) → Fits (result_value place result) (operator_meaning result)
unfolding Fits
result_fits place (Gives value cost pairs bytes) = value_is place value
result_fits place (Fails why) = λ e. failed
result_fits place TooWide = λ e. wide

operate_is : (n code : ℕ) (values : List Tree) (is : Bool) → not is ≡ true → operator_meaning (applied (code ∷ []) values) ≡ cond is (run_values n values) (operator_meaning (applied (code ∷ []) values))
operate_is n code values true e = absurd cc
operate_is n code values false e = refl

-- ---- expressions of constants

one_of : (test : Bool) (a b : Judged Tree) (f g : Meaning) → Fits a f → Fits b g → Fits (cond test b a) (cond test g f)
one_of true a b f g e h = h
one_of false a b f g e h = e

module _ (m : Module) (names : List (List ℕ)) (place : Place) (n : ℕ) (further : Means) where
  abbrev means : Expression → Meaning
  means e = expression_meaning m n further e Empty

  abbrev all_of : Operands → All
  all_of operands = operands_meaning m n further operands Empty

  abbrev filled_with : Template → Meaning
  filled_with t = template_meaning m n further t Empty

  abbrev valued : Expression → Judged Tree
  valued e = expression_value place m.constants e

  -- No `a` may stand in a constant, and no call.
  mutual
    unfolding Fits FitsAll

    value_fits : (f : Form) (e : Expression) → IsRead (constant_scope names) f e → Fits (valued e) (means e)
    value_fits f e (read_atom at bytes) = value_is place (tree.Atom bytes)
    value_fits f e (read_symbol at name among) = named_fits place (constant_named name m.constants)
    value_fits f e (quotes_rest at where_it name behind is) = value_is place (quoted_form behind)
    value_fits f e (quotes_one at where_it next end name g is) = value_is place (quoted_form g)
    value_fits f e (templates at where_it next end name g t is h) = met_fits place (template_value place m.constants t) (filled_with t) (template_fits g t h)
    value_fits f e (chooses at where_it first second third end name g h k a b c is p q r) =
        fits_then (valued a) (means a) (λ test. cond (is_nil test) (valued c) (valued b)) (λ test. cond (is_nil test) (means c) (means b)) (value_fits g a p)
        (λ test. one_of (is_nil test) (valued b) (valued c) (means b) (means c) (value_fits h b q) (value_fits k c r))
    value_fits f e (lists at where_it name behind found is h) =
        all_then (operand_values place m.constants found) (all_of found) (λ values. met place (list_tree values)) (λ values. Value (list_tree values)) (values_fit behind found h)
        (λ values. value_is place (list_tree values))
    value_fits f e (operates at where_it name code behind found is may h) =
        all_then (operand_values place m.constants found) (all_of found) (λ values. result_value place (applied (code ∷ []) values)) (operate n code) (values_fit behind found h)
        (λ values. subst (Fits (result_value place (applied (code ∷ []) values))) (operate_is n code values (code == 2) may) (result_fits place (applied (code ∷ []) values)))
    value_fits f e (calls_inline at where_it name behind found is among h) = absurd cc
    value_fits f e (calls_function at where_it name behind found is isnt among h) = absurd cc

    values_fit : (f : Form) (found : Operands) → AreOperands (constant_scope names) f found → FitsAll (operand_values place m.constants found) (all_of found)
    values_fit f found (read_none at) = λ go. refl
    values_fit f found (read_more at g rest e more p q) = more_fits (valued e) (operand_values place m.constants more) (means e) (all_of more) (value_fits g e p) (values_fit rest more q)

    template_fits : (f : Form) (t : Template) → IsTemplate (constant_scope names) f t → Fits (template_value place m.constants t) (filled_with t)
    template_fits f t (plain_atom at bytes) = refl
    template_fits f t (plain_symbol at name) = refl
    template_fits f t (unquotes at next end head g e is h) = value_fits g e h
    template_fits f t (parts at first rest a b is p q) =
        fits_then (template_value place m.constants b) (filled_with b) (λ later. template_value place m.constants a >>= λ earlier. Ok (Pair earlier later))
        (λ later. if_value (filled_with a) (λ earlier. Value (Pair earlier later))) (template_fits rest b q)
        (λ later. fits_then (template_value place m.constants a) (filled_with a) (λ earlier. Ok (Pair earlier later)) (λ earlier. Value (Pair earlier later)) (template_fits first a p) (λ earlier. refl))

within_means : (m : Module) (names : List (List ℕ)) (place : Place) (n : ℕ) (f : Form) (e : Expression) → IsExpression (constant_scope names) f e → Fits (expression_value place m.constants e) (meaning_within m n e Empty)
within_means m names place zero f e h = value_fits m names place zero (λ e env. Out) f e (is_read (constant_scope names) f e h)
within_means m names place (suc n) f e h = value_fits m names place (suc n) (meaning_within m n) f e (is_read (constant_scope names) f e h)

pub constants_mean_their_values : ConstantsMeanTheirValues
unfolding Fits meaning
constants_mean_their_values m names place f e n value read h = subst (λ judged. Fits judged (meaning_within m n e Empty)) h (within_means m names place n f e read)

no_value_is : (meant : Meaning) → IsNoValue meant → (meant ≡ Failed) ⊎ (meant ≡ Wide)
no_value_is meant failed = inl refl
no_value_is meant wide = inr refl

pub failing_constants_mean_none : FailingConstantsMeanNone
unfolding Fits meaning
failing_constants_mean_none m names place at f e n read h =
    no_value_is (meaning_within m n e Empty) (subst (λ judged. Fits judged (meaning_within m n e Empty)) h (within_means m names place n f e read) refl)
