-- Weights and limits of known modules.
use Rattle.std.specs.Prelude.{refl}
use Rattle.clvm_spec.specs.Numbers.{shortest_atom, without_sign_bytes}
use Rattle.clvm_spec.specs.OperatorTable.{applied, operator_of, operator_named}
use Rattle.clvm_spec.specs.Tokens.{token_of, word_token}
use Rattle.clvm_spec.specs.Text.{scanned}
use Rattle.lisp_read.specs.Grammar.{forms_of}
use Rattle.lisp_spec.specs.Heads.{head_of, is_reserved}
use Rattle.lisp_spec.specs.MacroBodies.{body_head, body_value}
use Rattle.lisp_spec.specs.Expansion.{expanded_part}
use Rattle.lisp_spec.specs.BuiltIns.{built_in}
use Rattle.lisp_spec.specs.ExpressionWeights.{expression_weight}
use Rattle.lisp_spec.specs.ModuleFaults.{TurnsSpent, TooLarge, ConstantFails}
use Rattle.lisp_spec.proofs.ModuleCases.{faulty, bound, sound}

-- What an expression weighs.
weights :
    bound "(mod (A) (defun-inline one (X Y) X) (one A (x)))" 256
    × bound "(mod (A) (defun-inline g ((P . Q)) Q) (g A))" 320
    × bound "(mod (A B) (defun-inline g (P . Q) Q) (g A B A))" 512
    × bound "(mod (A) (defun-inline g (P . Q) Q) (g A))" 192
    × bound "(mod (A) (defun-inline g (P Q) Q) (g A))" 192
    × bound "(mod A (defun-inline g P P) (g A A))" 320
    × bound "(mod X (qq (1 (unquote (+ X 1)) b)))" 960
    × bound "(mod X (defun g A A) X)" 192
    × bound "(mod X (defconstant K 7) K)" 256
    × bound "(mod X (defconstant X (q 1 2 3)) X)" 128
    × bound "(mod X (defconstant K (q 1 2 3)) (defun-inline g (K) K) (g X))" 192
    × bound "(mod X (if X 1 ()))" 512
    × bound "(mod X (quote (a b)))" 576
    × bound "(mod X (q . sha256))" 256
    × bound "(mod X (q . xyz))" 384
    × bound "(mod X ())" 192
    × bound "(mod X (defun a1 A 1) (defun a2 A 1) (defun a3 A 1) (defun a4 A 1) (defun a5 A 1) (defun a6 A 1) (defun a7 A 1) (defun a8 A 1) (a1 X))" 1755
    × bound "(mod A (defun-inline g (P) (+ P P)) (defun-inline h (P) (g (g P))) (h A))" 768
unfolding without_sign_bytes shortest_atom applied operator_of operator_named token_of word_token scanned forms_of head_of is_reserved body_head body_value expanded_part built_in expression_weight
weights = (refl, refl, refl, refl, refl, refl, refl, refl, refl, refl, refl, refl, refl, refl, refl, refl, refl, refl)

-- A value of a constant, and an expression, past the limit.
large :
    sound "(mod X (defconstant A (c () ())) (defconstant B (c (c A A) (c A A))) (defconstant C (c (c B B) (c B B))) (defconstant D (c (c C C) (c C C))) (defconstant E (c (c D D) (c D D))) (defconstant G (c (c E E) (c E E))) (defconstant H (c (c G G) (c G G))) (defconstant I (c (c H H) (c H H))) (defconstant J (c (c I I) (c I I))) J)"
    × faulty "(mod X (defconstant A (c () ())) (defconstant B (c (c A A) (c A A))) (defconstant C (c (c B B) (c B B))) (defconstant D (c (c C C) (c C C))) (defconstant E (c (c D D) (c D D))) (defconstant G (c (c E E) (c E E))) (defconstant H (c (c G G) (c G G))) (defconstant I (c (c H H) (c H H))) (defconstant J (c (c I I) (c I I))) (defconstant K (c J ())) K)" TooLarge 321
    × faulty "(mod X (defconstant A (c () ())) (defconstant B (c (c A A) (c A A))) (defconstant C (c (c B B) (c B B))) (defconstant D (c (c C C) (c C C))) (defconstant E (c (c D D) (c D D))) (defconstant G (c (c E E) (c E E))) (defconstant H (c (c G G) (c G G))) (defconstant I (c (c H H) (c H H))) (defconstant J (c (c I I) (c I I))) (defconstant K (list (x) (c J J))) K)" TooLarge 321
    × faulty "(mod X (defconstant A (c () ())) (defconstant B (c (c A A) (c A A))) (defconstant C (c (c B B) (c B B))) (defconstant D (c (c C C) (c C C))) (defconstant E (c (c D D) (c D D))) (defconstant G (c (c E E) (c E E))) (defconstant H (c (c G G) (c G G))) (defconstant I (c (c H H) (c H H))) (defconstant J (c (c I I) (c I I))) (defconstant K (list (c J J) (x))) K)" ConstantFails 321
    × faulty "(mod X (defconstant A (c () ())) (defconstant B (c (c A A) (c A A))) (defconstant C (c (c B B) (c B B))) (defconstant D (c (c C C) (c C C))) (defconstant E (c (c D D) (c D D))) (defconstant G (c (c E E) (c E E))) (defconstant H (c (c G G) (c G G))) (defconstant I (c (c H H) (c H H))) (defconstant J (c (c I I) (c I I))) (defconstant K (if 1 2 (c J J)))  (defconstant L (l (c J J))) K)" TooLarge 355
    × sound "(mod X (defconstant A (c () ())) (defconstant B (c (c A A) (c A A))) (defconstant C (c (c B B) (c B B))) (defconstant D (c (c C C) (c C C))) (defconstant E (c (c D D) (c D D))) (defconstant G (c (c E E) (c E E))) (defconstant H (c (c G G) (c G G))) (defconstant I (c (c H H) (c H H))) (defconstant J (c (c I I) (c I I))) (defun g P J) (g X))"
    × faulty "(mod X (defconstant A (c () ())) (defconstant B (c (c A A) (c A A))) (defconstant C (c (c B B) (c B B))) (defconstant D (c (c C C) (c C C))) (defconstant E (c (c D D) (c D D))) (defconstant G (c (c E E) (c E E))) (defconstant H (c (c G G) (c G G))) (defconstant I (c (c H H) (c H H))) (defconstant J (c (c I I) (c I I))) (defun g P (list J)) (g X))" TooLarge 321
    × faulty "(mod X (defconstant A (c () ())) (defconstant B (c (c A A) (c A A))) (defconstant C (c (c B B) (c B B))) (defconstant D (c (c C C) (c C C))) (defconstant E (c (c D D) (c D D))) (defconstant G (c (c E E) (c E E))) (defconstant H (c (c G G) (c G G))) (defconstant I (c (c H H) (c H H))) (defconstant J (c (c I I) (c I I))) (defun-inline g P (list J)) X)" TooLarge 321
    × faulty "(mod X (defconstant A (c () ())) (defconstant B (c (c A A) (c A A))) (defconstant C (c (c B B) (c B B))) (defconstant D (c (c C C) (c C C))) (defconstant E (c (c D D) (c D D))) (defconstant G (c (c E E) (c E E))) (defconstant H (c (c G G) (c G G))) (defconstant I (c (c H H) (c H H))) (defconstant J (c (c I I) (c I I))) (defun-inline g P P) (list J))" TooLarge 342
    × faulty "(mod X (defconstant A (c () ())) (defconstant B (c (c A A) (c A A))) (defconstant C (c (c B B) (c B B))) (defconstant D (c (c C C) (c C C))) (defconstant E (c (c D D) (c D D))) (defconstant G (c (c E E) (c E E))) (defconstant H (c (c G G) (c G G))) (defconstant I (c (c H H) (c H H))) (defconstant J (c (c I I) (c I I))) (defmacro m P (q . (list J))) (m X))" TooLarge 351
unfolding without_sign_bytes shortest_atom applied operator_of operator_named token_of word_token scanned forms_of head_of is_reserved body_head body_value expanded_part built_in expression_weight
large = (refl, refl, refl, refl, refl, refl, refl, refl, refl, refl)

-- The macros of a module have 10,000 turns, and these are taken before forms are looked at.
turns :
    faulty "(mod (X) (defmacro again A (list again)) (again))" TurnsSpent 41
    × faulty "(mod (X) (defmacro again A (list again)) (list (5) (again)))" TurnsSpent 51
    × faulty "(mod (X) (defmacro again A (list again)) (defconstant K (5)) (again))" TurnsSpent 61
unfolding without_sign_bytes shortest_atom applied operator_of operator_named token_of word_token scanned forms_of head_of is_reserved body_head body_value expanded_part built_in expression_weight
turns = (refl, refl, refl)
