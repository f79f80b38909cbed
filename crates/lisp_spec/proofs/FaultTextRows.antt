-- First faults as they are told.
use Rattle.std.specs.Prelude.{◌≡◌, Ok, Err, List, ℕ, codes, refl}
use Rattle.std.specs.Fmt.{digits}
use Prim.Native.String.{String}
use Rattle.clvm_spec.specs.Numbers.{shortest_atom, without_sign_bytes}
use Rattle.clvm_spec.specs.OperatorTable.{applied, operator_of, operator_named}
use Rattle.clvm_spec.specs.Tokens.{token_of, word_token}
use Rattle.lisp_read.specs.Grammar.{forms_of}
use Rattle.lisp_spec.specs.Heads.{head_of, is_reserved}
use Rattle.lisp_spec.specs.MacroBodies.{body_head, body_value}
use Rattle.lisp_spec.specs.Expansion.{expanded_part}
use Rattle.lisp_spec.specs.BuiltIns.{built_in}
use Rattle.lisp_spec.specs.Modules.{Module}
use Rattle.lisp_spec.specs.ExpressionWeights.{expression_weight}
use Rattle.lisp_spec.specs.ModuleFaults.{Judged}
use Rattle.lisp_spec.specs.FaultTexts.{fault_text}
use Rattle.lisp_spec.specs.ModuleOf.{module_of}
use Rattle.lisp_spec.proofs.ModuleCases.{no_texts, one_text}
use Rattle.lisp_spec.specs.Inclusion.{Texts}

-- what is told of a text
abbrev told : Judged Module → List ℕ
told (Ok m) = codes "good"
told (Err f) = fault_text f

abbrev tells : Texts → String → String → Type 0
tells texts text line = told (module_of (codes text) texts) ≡ codes line

lines :
    tells no_texts "(mod (X) (+ Y 1))" "module unbound 0 12"
    × tells no_texts "(mod (X) (defmacro again A (list again)) (again))" "module turns-spent 0 41"
    × tells no_texts "(mod (X) (defun-inline f1 (A) (f1 A)) (f1 X))" "module inline-cycle 0 9"
    × tells no_texts "(mod (X) (defconstant K (f 1)) K)" "module constant-fails 0 9"
    × tells no_texts "(mod (X) (include seven.clib) (+ X SEVEN))" "module include-missing 0 9"
    × tells (one_text "l" "((defun g A '") "(mod (X) (include l) X)" "module read-text 1 12"
    × tells no_texts "(mod (X) X" "module read-end 0 10"
    × tells no_texts ")" "module read-close 0 0"
    × tells no_texts "(mod X (. 5))" "module read-dot 0 8"
    × tells no_texts "(mod X 0x5)" "module read-hex 0 7"
    × tells no_texts "(mod X 5x)" "module read-number 0 7"
    × tells no_texts "(mod X é)" "module read-byte 0 7"
    × tells no_texts "(mod X (if X))" "module bad-form 0 7"
    × tells no_texts "(mod (X X) X)" "module name-twice 0 8"
    × tells no_texts "(mod X)" "module not-a-module 0 0"
    × tells no_texts "(mod X X)" "good"
unfolding digits without_sign_bytes shortest_atom applied operator_of operator_named token_of word_token forms_of head_of is_reserved body_head body_value expanded_part built_in expression_weight
lines = (refl, refl, refl, refl, refl, refl, refl, refl, refl, refl, refl, refl, refl, refl, refl, refl)
