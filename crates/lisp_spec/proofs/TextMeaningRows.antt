-- What the modules of known texts mean. The values are worked out by hand.
use Rattle.std.specs.Prelude.{ℕ, refl}
use Prim.Native.String.{String}
use Rattle.clvm_spec.specs.Numbers.{shortest_atom, without_sign_bytes}
use Rattle.clvm_spec.specs.Path.{followed}
use Rattle.clvm_spec.specs.OperatorTable.{applied, operator_of, operator_named}
use Rattle.clvm_spec.specs.Evaluation.{evaluation}
use Rattle.clvm_spec.specs.Tokens.{token_of, word_token}
use Rattle.clvm_spec.specs.Text.{scanned}
use Rattle.clvm_spec.proofs.Cases.{tree}
use Rattle.lisp_read.specs.Grammar.{forms_of}
use Rattle.lisp_spec.specs.Heads.{head_of, is_reserved}
use Rattle.lisp_spec.specs.MacroBodies.{body_head, body_value}
use Rattle.lisp_spec.specs.Expansion.{expanded_part}
use Rattle.lisp_spec.specs.BuiltIns.{built_in}
use Rattle.lisp_spec.specs.ExpressionWeights.{expression_weight}
use Rattle.lisp_spec.specs.Meaning.{Meaning, Value, Failed, Wide, Out, meaning, module_meaning}
use Rattle.lisp_spec.specs.Inclusion.{Texts}
use Rattle.lisp_spec.proofs.ModuleCases.{has, no_texts, one_text}

-- what the module of a text means on an argument
abbrev means : Texts → String → String → ℕ → Meaning → Type 0
means texts text argument n it = has (λ m. module_meaning m (tree argument) n) texts text it

abbrev gives : Texts → String → String → ℕ → String → Type 0
gives texts text argument n value = means texts text argument n (Value (tree value))

examples :
    gives no_texts "(mod (X) (+ X 1))" "(5)" 0 "6"
    × gives no_texts "(mod (X) (qq (1 (unquote (+ X 1)) b)))" "(5)" 0 "(1 6 0x62)"
    × gives no_texts "(mod (A) (defun-inline one (X Y) X) (one A (x)))" "(7)" 2 "7"
    × gives (one_text "seven.clib" "((defconstant SEVEN 7))") "(mod (X) (include seven.clib) (+ X SEVEN))" "(5)" 0 "12"
    × gives no_texts "(mod (N) (defun fact (K) (if (> K 1) (* K (fact (- K 1))) 1)) (fact N))" "(5)" 5 "120"
    × means no_texts "(mod (N) (defun fact (K) (if (> K 1) (* K (fact (- K 1))) 1)) (fact N))" "(5)" 4 Out
    × means no_texts "(mod (N) (defun fact (K) (if (> K 1) (* K (fact (- K 1))) 1)) (fact N))" "(34)" 34 Wide
    × gives no_texts "(mod (A B) (defmacro assert items (if (r items) (list if (f items) (c assert (r items)) (q . (x))) (f items))) (assert (= A 1) B))" "(1 7)" 0 "7"
    × means no_texts "(mod (A B) (defmacro assert items (if (r items) (list if (f items) (c assert (r items)) (q . (x))) (f items))) (assert (= A 1) B))" "(2 7)" 0 Failed
unfolding without_sign_bytes shortest_atom followed applied operator_of operator_named evaluation token_of word_token scanned forms_of head_of is_reserved body_head body_value expanded_part built_in expression_weight meaning
examples = (refl, refl, refl, refl, refl, refl, refl, refl, refl)
