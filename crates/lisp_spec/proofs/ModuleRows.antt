-- First faults of known texts, for each kind and stage.
use Rattle.std.specs.Prelude.{refl}
use Rattle.clvm_spec.specs.Numbers.{shortest_atom, without_sign_bytes}
use Rattle.clvm_spec.specs.OperatorTable.{applied, operator_of, operator_named}
use Rattle.clvm_spec.specs.Tokens.{token_of, word_token}
use Rattle.lisp_read.specs.Grammar.{forms_of}
use Rattle.lisp_spec.specs.Heads.{head_of, is_reserved}
use Rattle.lisp_spec.specs.MacroBodies.{body_head, body_value}
use Rattle.lisp_spec.specs.Expansion.{expanded_part}
use Rattle.lisp_spec.specs.BuiltIns.{built_in}
use Rattle.lisp_spec.specs.ExpressionWeights.{expression_weight}
use Rattle.lisp_spec.specs.ModuleFaults.{NotAModule, NameTwice, BadForm, Unbound, ConstantFails, InlineCycle}
use Rattle.lisp_spec.proofs.ModuleCases.{faulty}

-- A text has one form, and a module the shape of one.
texts :
    faulty "" NotAModule 0
    × faulty "5 6" NotAModule 0
    × faulty "(mod)" NotAModule 0
    × faulty "(mod X)" NotAModule 0
    × faulty " (mod X)" NotAModule 0
    × faulty "(mod 5 X)" NotAModule 0
    × faulty "(mod (X . 5) X)" NotAModule 0
    × faulty "(mod X X . 5)" NotAModule 0
    × faulty "(dom X X)" NotAModule 0
    × faulty "mod" NotAModule 0
    × faulty "(MOD X X)" NotAModule 0
    × faulty "((mod) X X)" NotAModule 0
unfolding without_sign_bytes shortest_atom applied operator_of operator_named token_of word_token forms_of head_of is_reserved body_head body_value expanded_part built_in expression_weight
texts = (refl, refl, refl, refl, refl, refl, refl, refl, refl, refl, refl, refl)

-- A form in the place of a definition has one of the five shapes.
shapes :
    faulty "(mod X (defun g) X)" NotAModule 7
    × faulty "(mod X 5 X)" NotAModule 7
    × faulty "(mod X g X)" NotAModule 7
    × faulty "(mod X () X)" NotAModule 7
    × faulty "(mod X (defun 5 (A) A) X)" NotAModule 7
    × faulty "(mod X (defun g (5) A) X)" NotAModule 7
    × faulty "(mod X (defun g (A . 0x00) A) X)" NotAModule 7
    × faulty "(mod X (defun g (A) A A) X)" NotAModule 7
    × faulty "(mod X (defun g (A) A . 5) X)" NotAModule 7
    × faulty "(mod X (defun-inline g) X)" NotAModule 7
    × faulty "(mod X (defmacro g A) X)" NotAModule 7
    × faulty "(mod X (defconstant K) X)" NotAModule 7
    × faulty "(mod X (defconstant K 1 2) X)" NotAModule 7
    × faulty "(mod X (defconstant 5 1) X)" NotAModule 7
    × faulty "(mod X (include) X)" NotAModule 7
    × faulty "(mod X (include (g)) X)" NotAModule 7
    × faulty "(mod X (include 0x80) X)" NotAModule 7
    × faulty "(mod X (include g h) X)" NotAModule 7
    × faulty "(mod X ('defun' g (A) A) X)" NotAModule 7
    × faulty "(mod X (lambda (A) A) X)" NotAModule 7
    × faulty "(mod X (defun g A Q) 5 X)" NotAModule 21
unfolding without_sign_bytes shortest_atom applied operator_of operator_named token_of word_token forms_of head_of is_reserved body_head body_value expanded_part built_in expression_weight
shapes = (refl, refl, refl, refl, refl, refl, refl, refl, refl, refl, refl, refl, refl, refl, refl, refl, refl, refl, refl, refl, refl)

-- Names of the language are no names of definitions.
names :
    faulty "(mod X (defun if (A) A) X)" NotAModule 14
    × faulty "(mod X (defun sha256 (A) A) X)" NotAModule 14
    × faulty "(mod X (defconstant q 1) X)" NotAModule 20
    × faulty "(mod X (defmacro mod (A) A) X)" NotAModule 17
    × faulty "(mod X (defun-inline quote A A) X)" NotAModule 21
    × faulty "(mod X (defun list (A A) A) X)" NotAModule 14
    × faulty "(mod X (defun qq (A) A) X)" NotAModule 14
    × faulty "(mod X (defun unquote (A) A) X)" NotAModule 14
    × faulty "(mod X (defun a (A) A) X)" NotAModule 14
    × faulty "(mod X (defun g A A) (defconstant g 1) X)" NameTwice 34
    × faulty "(mod X (defmacro g A A) (defun-inline g A A) X)" NameTwice 38
    × faulty "(mod (A A) A)" NameTwice 8
    × faulty "(mod X (defun g (A (B . A)) A) X)" NameTwice 24
    × faulty "(mod X (defmacro m (A A) A) X)" NameTwice 22
    × faulty "(mod X (defun g A A) (defun g (B B) B) X)" NameTwice 28
    × faulty "(mod (A A) 5 A)" NameTwice 8
    × faulty "(mod X (defun g (A B A B) A) X)" NameTwice 21
unfolding without_sign_bytes shortest_atom applied operator_of operator_named token_of word_token forms_of head_of is_reserved body_head body_value expanded_part built_in expression_weight
names = (refl, refl, refl, refl, refl, refl, refl, refl, refl, refl, refl, refl, refl, refl, refl, refl, refl)

-- Every pair is an expression: before anything inside it.
forms :
    faulty "(mod X (5 X))" BadForm 7
    × faulty "(mod X ((f X) X))" BadForm 7
    × faulty "(mod X (+ X . X))" BadForm 7
    × faulty "(mod X (if X X))" BadForm 7
    × faulty "(mod X (if X X X X))" BadForm 7
    × faulty "(mod X (if))" BadForm 7
    × faulty "(mod X (quote))" BadForm 7
    × faulty "(mod X (quote X X))" BadForm 7
    × faulty "(mod X (quote . X))" BadForm 7
    × faulty "(mod X (qq))" BadForm 7
    × faulty "(mod X (qq X X))" BadForm 7
    × faulty "(mod X (unquote X))" BadForm 7
    × faulty "(mod X (qq (unquote)))" BadForm 11
    × faulty "(mod X (qq (unquote X X)))" BadForm 11
    × faulty "(mod X (qq (1 2 (unquote . X))))" BadForm 16
    × faulty "(mod X (qq (1 unquote)))" BadForm 11
    × faulty "(mod X (qq (unquote (unquote X))))" BadForm 20
    × faulty "(mod X (g Y . 5))" BadForm 7
    × faulty "(mod X (unquote X . X))" BadForm 7
    × faulty "(mod X (+ 1 (5) Y))" BadForm 12
    × faulty "(mod X (defmacro m A A) (m . X))" BadForm 24
unfolding without_sign_bytes shortest_atom applied operator_of operator_named token_of word_token forms_of head_of is_reserved body_head body_value expanded_part built_in expression_weight
forms = (refl, refl, refl, refl, refl, refl, refl, refl, refl, refl, refl, refl, refl, refl, refl, refl, refl, refl, refl, refl, refl)

-- Every symbol names something: a head before its operands, and these from the first to the last.
unbound :
    faulty "(mod X Y)" Unbound 7
    × faulty "(mod X (mod X X))" Unbound 8
    × faulty "(mod X (g X))" Unbound 8
    × faulty "(mod X (g Y))" Unbound 8
    × faulty "(mod X (+ Y Z))" Unbound 10
    × faulty "(mod X (X 5))" Unbound 8
    × faulty "(mod X +)" Unbound 7
    × faulty "(mod X (qq (1 unquote Y)))" Unbound 22
    × faulty "(mod X (qq (qq (unquote Y))))" Unbound 24
    × faulty "(mod X (defmacro m A A) (+ m))" Unbound 27
    × faulty "(mod X (defconstant K J) (defun g A B) X)" Unbound 22
    × faulty "(mod X (defconstant K J) (defconstant J 1) K)" Unbound 22
    × faulty "(mod X (defconstant K K) K)" Unbound 22
    × faulty "(mod X (defconstant K (a 1 1)) K)" Unbound 23
    × faulty "(mod X (defconstant K X) K)" Unbound 22
    × faulty "(mod X (defun g A A) (defconstant K (g 1)) K)" Unbound 37
    × faulty "(mod X (defun g (A) X) (g X))" Unbound 20
    × faulty "(mod X (defun g A A) (defun-inline h (B) (g A)) X)" Unbound 44
    × faulty "(mod X (m X))" Unbound 8
unfolding without_sign_bytes shortest_atom applied operator_of operator_named token_of word_token forms_of head_of is_reserved body_head body_value expanded_part built_in expression_weight
unbound = (refl, refl, refl, refl, refl, refl, refl, refl, refl, refl, refl, refl, refl, refl, refl, refl, refl, refl, refl)

-- A constant is made of what has a value, and fails where that fails.
constants :
    faulty "(mod X (defconstant K (f 1)) K)" ConstantFails 7
    × faulty "(mod X (defconstant K (+ 1 (q 2))) K)" ConstantFails 7
    × faulty "(mod X (defconstant K (x)) K)" ConstantFails 7
    × faulty "(mod X (defconstant K (/ 1 0)) K)" ConstantFails 7
    × faulty "(mod X (defconstant K (* 0x7fffffffffffffffffffffffffffffff 2)) K)" ConstantFails 7
    × faulty "(mod X (defconstant K (if 1 (x) 2)) K)" ConstantFails 7
    × faulty "(mod X (defconstant K (qq (1 (unquote (f 1))))) K)" ConstantFails 7
    × faulty "(mod X (defconstant J 1) (defconstant K (f J)) K)" ConstantFails 25
    × faulty "(mod X (defconstant K (i 1 2)) K)" ConstantFails 7
unfolding without_sign_bytes shortest_atom applied operator_of operator_named token_of word_token forms_of head_of is_reserved body_head body_value expanded_part built_in expression_weight
constants = (refl, refl, refl, refl, refl, refl, refl, refl, refl)

-- An inline reaches itself through calls in bodies of inlines, used or not.
cycles :
    faulty "(mod X (defun-inline g (A) (g A)) X)" InlineCycle 7
    × faulty "(mod X (defun-inline g (A) (h A)) (defun-inline h (A) (g A)) X)" InlineCycle 7
    × faulty "(mod X (defun-inline g (A) (h A)) (defun-inline h (A) (h A)) X)" InlineCycle 34
    × faulty "(mod X (defun-inline g (A) (h (g A))) (defun h (A) A) X)" InlineCycle 7
    × faulty "(mod X (defun-inline g (A) (h 1 (g A))) (defun-inline h (A B) A) X)" InlineCycle 7
    × faulty "(mod X (defun-inline g (A) (qq (1 (unquote (g A))))) X)" InlineCycle 7
    × faulty "(mod X (defun-inline g (A) (if 1 A (g A))) X)" InlineCycle 7
unfolding without_sign_bytes shortest_atom applied operator_of operator_named token_of word_token forms_of head_of is_reserved body_head body_value expanded_part built_in expression_weight
cycles = (refl, refl, refl, refl, refl, refl, refl)
