-- Modules of known texts: their parts, included texts, macros and bounds.
use Rattle.std.specs.Prelude.{refl, [], ◌∷◌, codes}
use Rattle.clvm_spec.specs.declared.scan_kind.ScanKind.TheVariants.{End, Hex}
use Rattle.clvm_spec.specs.Numbers.{shortest_atom, without_sign_bytes}
use Rattle.clvm_spec.specs.OperatorTable.{applied, operator_of, operator_named}
use Rattle.clvm_spec.specs.Tokens.{token_of, word_token}
use Rattle.clvm_spec.specs.Text.{scanned}
use Rattle.clvm_spec.proofs.Cases.{tree}
use Rattle.lisp_read.specs.Grammar.{forms_of}
use Rattle.lisp_spec.specs.Heads.{head_of, is_reserved}
use Rattle.lisp_spec.specs.MacroBodies.{body_head, body_value}
use Rattle.lisp_spec.specs.Expansion.{expanded_part}
use Rattle.lisp_spec.specs.BuiltIns.{built_in}
use Rattle.lisp_spec.specs.ExpressionWeights.{expression_weight}
use Rattle.lisp_spec.specs.ModuleFaults.{Unreadable, NotAModule, NameTwice, IncludeMissing, BadMacro, BadForm, Unbound}
use Rattle.lisp_spec.proofs.ModuleCases.{faulty, faulty_with, no_texts, one_text, with_text, constants, constant, functions, inlines, bound, sound, sound_with}

-- Modules without fault.
good :
    sound "(mod X X)"
    × sound "(mod () 1)"
    × sound "(mod (X (Y . Z) () . W) (list X Y Z W))"
    × sound "(mod X (q . Y))"
    × sound "(mod X (q Y (5)))"
    × sound "(mod X (quote Y))"
    × sound "(mod X (qq (1 unquote X)))"
    × sound "(mod X (qq (q + (unquote X))))"
    × sound "(mod X (if X () (x)))"
    × sound "(mod X (defmacro m A (zz yy)) X)"
    × sound "(mod X (defun defun (A) A) (defun X))"
    × sound "(mod X (defconstant X 5) X)"
    × sound "(mod (+ if) (+ if +))"
    × sound "(mod X (defun g A (h A)) (defun h A (g A)) (g X))"
    × sound "(mod X (defun-inline g (A) (h A)) (defun h (A) (g A)) (g X))"
    × sound "(mod X (defun-inline g (A) (q g A)) (g X))"
    × sound "(mod X (+ X (c)))"
    × sound "(mod X (defconstant K (if () (x) 2)) K)"
    × sound "(mod X (defun g () 5) (g X X))"
    × sound "(mod X (a X X))"
unfolding without_sign_bytes shortest_atom applied operator_of operator_named token_of word_token scanned forms_of head_of is_reserved body_head body_value expanded_part built_in expression_weight
good = (refl, refl, refl, refl, refl, refl, refl, refl, refl, refl, refl, refl, refl, refl, refl, refl, refl, refl, refl, refl)

-- The values of constants, in the order of the text.
values :
    constants no_texts "(mod X (defconstant K 7) K)" (constant "K" (tree "7") ∷ [])
    × constants no_texts "(mod X (defconstant K (+ 3 4)) (defconstant J (list K (q . (+ K)) (qq (K (unquote K) unquote K)))) J)" (constant "K" (tree "7") ∷ constant "J" (tree "(7 (+ 0x4b) (0x4b 7 . 7))") ∷ [])
    × constants no_texts "(mod X (defconstant K (if (l ()) (x) (concat 1 2))) K)" (constant "K" (tree "0x0102") ∷ [])
    × constants no_texts "(mod X (defconstant K (f (q . (a b)))) (defconstant J (quote a)) (defmacro m A A) J)" (constant "K" (tree "2") ∷ constant "J" (tree "2") ∷ [])
unfolding without_sign_bytes shortest_atom applied operator_of operator_named token_of word_token scanned forms_of head_of is_reserved body_head body_value expanded_part built_in expression_weight
values = (refl, refl, refl, refl)

-- Functions and inlines stand apart, each in the order of the text.
parts :
    functions no_texts "(mod X (defun g A A) (defun-inline h A A) (defconstant K 1) (defmacro m A A) (defun j A A) (defun-inline k A A) X)" (codes "g" ∷ codes "j" ∷ [])
    × inlines no_texts "(mod X (defun g A A) (defun-inline h A A) (defconstant K 1) (defmacro m A A) (defun j A A) (defun-inline k A A) X)" (codes "h" ∷ codes "k" ∷ [])
unfolding without_sign_bytes shortest_atom applied operator_of operator_named token_of word_token scanned forms_of head_of is_reserved body_head body_value expanded_part built_in expression_weight
parts = (refl, refl)

-- Library texts are read where they are included, and each has its number.
library :
    faulty "(mod (X) (include seven.clib) (+ X SEVEN))" IncludeMissing 9
    × constants (one_text "seven.clib" "((defconstant SEVEN 7))") "(mod (X) (include seven.clib) (+ X SEVEN))" (constant "SEVEN" (tree "7") ∷ [])
    × constants (one_text "seven.clib" "((defconstant SEVEN 7))") "(mod (X) (include 'seven.clib') (+ X SEVEN))" (constant "SEVEN" (tree "7") ∷ [])
    × constants (one_text "seven.clib" "((defconstant SEVEN 7))") "(mod X (defconstant SIX 6) (include seven.clib) (include seven.clib) (defconstant EIGHT (+ SEVEN 1)) X)" (constant "SIX" (tree "6") ∷ constant "SEVEN" (tree "7") ∷ constant "EIGHT" (tree "8") ∷ [])
    × faulty "(mod X (include 5) X)" IncludeMissing 7
    × faulty "(mod X (include ()) X)" IncludeMissing 7
    × faulty "(mod X (include '') X)" IncludeMissing 7
    × faulty_with (one_text "l" "(") "(mod X (include l) X)" (Unreadable End) 1 1
    × faulty_with (one_text "l" "((defun g A 0x5))") "(mod X (include l) X)" (Unreadable Hex) 1 12
    × faulty_with (one_text "l" "") "(mod X (include l) X)" NotAModule 1 0
    × faulty_with (one_text "l" "() ()") "(mod X (include l) X)" NotAModule 1 0
    × faulty_with (one_text "l" " 5") "(mod X (include l) X)" NotAModule 1 0
    × faulty_with (one_text "l" "(() . 5)") "(mod X (include l) X)" NotAModule 1 0
    × faulty_with (one_text "l" "(5)") "(mod X (include l) X)" NotAModule 1 1
    × faulty_with (one_text "l" "((defun if A A))") "(mod X (include l) X)" NotAModule 1 8
    × faulty_with (one_text "l" "((defun g A A))") "(mod X (include l) (defun g A A) X)" NameTwice 0 26
    × faulty_with (one_text "l" "((defun g A A))") "(mod X (defun g A A) (include l) X)" NameTwice 1 8
    × faulty_with (one_text "l" "((include m))") "(mod X (include l) X)" IncludeMissing 1 1
    × faulty_with (with_text "m" "(5)" (one_text "l" "((include m))")) "(mod X (include l) X)" NotAModule 2 1
    × faulty_with (with_text "m" "(5)" (one_text "l" "((include tree_hash.clib) (include l) (include tree_hash.clib) (include m))")) "(mod X (include l) X)" NotAModule 3 1
    × faulty_with (one_text "l" "((defun g A Y))") "(mod X (include l) X)" Unbound 1 12
    × faulty_with (one_text "l" "((defun g A (5)))") "(mod X (include l) Y)" BadForm 1 12
    × sound_with (one_text "tree_hash.clib" "(") "(mod X (include tree_hash.clib) (sha256tree X))"
    × functions no_texts "(mod X (include tree_hash.clib) X)" (codes "sha256tree" ∷ [])
    × inlines no_texts "(mod X (include tree_hash.clib) X)" (codes "quoted-hash" ∷ codes "form-hash" ∷ codes "curried-hash2" ∷ [])
unfolding without_sign_bytes shortest_atom applied operator_of operator_named token_of word_token scanned forms_of head_of is_reserved body_head body_value expanded_part built_in expression_weight
library = (refl, refl, refl, refl, refl, refl, refl, refl, refl, refl, refl, refl, refl, refl, refl, refl, refl, refl, refl, refl, refl, refl, refl, refl, refl)

-- Macro calls are expanded in the order of the text, and their faults stand at the call in the text.
macros :
    faulty "(mod X (defmacro m A (f 5)) (m))" BadMacro 28
    × faulty "(mod X (defun g A (m)) (defmacro m A (f 5)) (m))" BadMacro 18
    × faulty "(mod X (defmacro m A (quote 5)) (m))" BadMacro 32
    × faulty "(mod X (defconstant K (+ 1 (m))) (defmacro m A (f 5)) Y)" BadMacro 27
    × faulty "(mod X (defmacro m A (q . (n))) (defmacro n A (f 5)) (list (m)))" BadMacro 59
    × faulty "(mod X (defmacro m A (bad)) (qq (unquote (m) 1)))" BadMacro 41
    × faulty "(mod X (defmacro m A (bad)) (unquote (m) 1))" BadMacro 37
    × sound "(mod X (defmacro m A (f 5)) X)"
    × sound "(mod X (defmacro m (A) (list (q . +) A 1)) (m X))"
unfolding without_sign_bytes shortest_atom applied operator_of operator_named token_of word_token scanned forms_of head_of is_reserved body_head body_value expanded_part built_in expression_weight
macros = (refl, refl, refl, refl, refl, refl, refl, refl, refl)

-- The weight of functions and body decides the bound.
bounds :
    bound "(mod (X) (+ X 1))" 448
    × bound "(mod X (q . (1 . 2)))" 448
unfolding without_sign_bytes shortest_atom applied operator_of operator_named token_of word_token scanned forms_of head_of is_reserved body_head body_value expanded_part built_in expression_weight
bounds = (refl, refl)
