-- Faults of the later stages in included texts, and the limits of these texts.
use Rattle.std.proofs.Common.{◌≡◌, ℕ, suc, List, length, Some, None, refl, arith}
use Rattle.clvm_spec.specs.Numbers.{shortest_atom, without_sign_bytes}
use Rattle.clvm_spec.specs.OperatorTable.{applied, operator_of, operator_named}
use Rattle.clvm_spec.specs.Tokens.{token_of, word_token}
use Rattle.clvm_spec.specs.Text.{scanned}
use Rattle.lisp_read.specs.Grammar.{forms_of}
use Rattle.lisp_spec.specs.Heads.{head_of, is_reserved}
use Rattle.lisp_spec.specs.MacroBodies.{body_head, body_value}
use Rattle.lisp_spec.specs.Expansion.{expanded_part}
use Rattle.lisp_spec.specs.BuiltIns.{built_in}
use Rattle.lisp_spec.specs.ExpressionWeights.{expression_weight}
use Rattle.lisp_spec.specs.ModuleFaults.{TurnsSpent, BadMacro, ConstantFails, InlineCycle, TooLarge}
use Rattle.lisp_spec.specs.Inclusion.{Walk, longest_text, most_texts, if_short, Texts, text_named, next_text}
use Rattle.lisp_spec.proofs.ModuleCases.{faulty, faulty_with, one_text}

-- Each stands at its place in the included text.
later_stages :
    faulty_with (one_text "l" "((defconstant K (f 1)))") "(mod X (include l) X)" ConstantFails 1 1
    × faulty_with (one_text "l" "((defun g A A) (defun-inline h A (h A)))") "(mod X (include l) X)" InlineCycle 1 15
    × faulty_with (one_text "l" "((defun-inline g A (h A)) (defun-inline h A (g A)))") "(mod X (include l) X)" InlineCycle 1 1
    × faulty_with (one_text "l" "((defmacro m A (f 5)) (defun g A (m)))") "(mod X (include l) X)" BadMacro 1 33
    × faulty_with (one_text "l" "((defmacro again A (list again)) (defun g A (again)))") "(mod X (include l) X)" TurnsSpent 1 44
    × faulty_with (one_text "l" "((defmacro d (A . N) (if N (c d (c (c A A) (r N))) A)) (defun g X (d () 1 1 1 1 1 1 1 1 1 1 1 1 1 1 1 1 1)))") "(mod X (include l) X)" TooLarge 1 66
    × faulty_with (one_text "l" "((defconstant A (c () ())) (defconstant B (c (c A A) (c A A))) (defconstant C (c (c B B) (c B B))) (defconstant D (c (c C C) (c C C))) (defconstant E (c (c D D) (c D D))) (defconstant G (c (c E E) (c E E))) (defconstant H (c (c G G) (c G G))) (defconstant I (c (c H H) (c H H))) (defconstant J (c (c I I) (c I I))) (defconstant K (c J ())))") "(mod X (include l) X)" TooLarge 1 315
    × faulty_with (one_text "l" "((defconstant A (c () ())) (defconstant B (c (c A A) (c A A))) (defconstant C (c (c B B) (c B B))) (defconstant D (c (c C C) (c C C))) (defconstant E (c (c D D) (c D D))) (defconstant G (c (c E E) (c E E))) (defconstant H (c (c G G) (c G G))) (defconstant I (c (c H H) (c H H))) (defconstant J (c (c I I) (c I I))) (defun g P (list J)))") "(mod X (include l) X)" TooLarge 1 315
    × faulty_with (one_text "l" "((defconstant A (c () ())) (defconstant B (c (c A A) (c A A))) (defconstant C (c (c B B) (c B B))) (defconstant D (c (c C C) (c C C))) (defconstant E (c (c D D) (c D D))) (defconstant G (c (c E E) (c E E))) (defconstant H (c (c G G) (c G G))) (defconstant I (c (c H H) (c H H))) (defconstant J (c (c I I) (c I I))) (defun-inline g P (list J)))") "(mod X (include l) X)" TooLarge 1 315
    × faulty "(mod X (defmacro d (A . N) (if N (c d (c (c A A) (r N))) A)) (d () 1 1 1 1 1 1 1 1 1 1 1 1 1 1 1 1 1))" TooLarge 61
    × faulty_with (one_text "l" "((defun g A A))") "(mod X (include l) (defconstant K (f 1)) K)" ConstantFails 0 19
unfolding without_sign_bytes shortest_atom applied operator_of operator_named token_of word_token scanned forms_of head_of is_reserved body_head body_value expanded_part built_in expression_weight
later_stages = (refl, refl, refl, refl, refl, refl, refl, refl, refl, refl, refl)

-- The longest text is taken, and one byte more isn't.
takes_the_longest : (text : List ℕ) → length text ≡ longest_text → if_short (Some text) ≡ Some text
takes_the_longest text e = rw e refl

refuses_a_longer : (text : List ℕ) → length text ≡ suc longest_text → if_short (Some text) ≡ None
refuses_a_longer text e = rw e refl

-- As many texts are added as there are numbers, and no more.
adds_the_last : (texts : Texts) (walk : Walk) (name : List ℕ) → suc (length walk.included) ≡ most_texts → next_text texts walk name ≡ text_named texts name
adds_the_last texts walk name e = let l : length walk.included ≡ 4_294_967_294 = omega (arith, e) in rw l refl

adds_no_more : (texts : Texts) (walk : Walk) (name : List ℕ) → length walk.included ≡ most_texts → next_text texts walk name ≡ None
adds_no_more texts walk name e = rw e refl
