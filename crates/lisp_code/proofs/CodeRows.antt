-- The code of small modules, by computation. The trees are worked out by hand.
use Rattle.std.specs.Prelude.{◌≡◌, ℕ, refl, [], ◌∷◌}
use Prim.Native.String.{String}
use Rattle.clvm_spec.specs.Numbers.{shortest_atom, without_sign_bytes}
use Rattle.clvm_spec.specs.OperatorTable.{operator_named}
use Rattle.clvm_spec.specs.Tokens.{token_of, word_token}
use Rattle.clvm_spec.specs.Text.{scanned}
use Rattle.clvm_spec.proofs.Cases.{tree}
use Rattle.lisp_read.specs.Grammar.{forms_of}
use Rattle.lisp_spec.specs.Heads.{head_of}
use Rattle.lisp_spec.specs.Modules.{Module}
use Rattle.lisp_spec.proofs.Sources.{definition, constant, source, plain}
use Rattle.lisp_code.proofs.Depths.{module_code}

abbrev code_is : Module → (depth : ℕ) → String → Type 0
code_is source depth code = module_code source depth ≡ tree code

bodies :
    code_is (plain "(X)" "(+ X 1)") 0 "(+ 2 (q . 1))"
    × code_is (source "(X)" (constant "SEVEN" "7" ∷ []) [] [] "(+ X SEVEN)") 0 "(+ 2 (q . 7))"
    × code_is (plain "(X)" "(qq (1 (unquote X) f))") 0 "(c (q . 1) (c 2 (q 5)))"
    × code_is (plain "(A B)" "(list (q . A) (quote B) B)") 0 "(c (q . 0x41) (c (q . 0x42) (c 5 ())))"
unfolding without_sign_bytes shortest_atom operator_named token_of word_token scanned forms_of head_of module_code
bodies = (refl, refl, refl, refl)

-- Only one of the two expressions of `if` is run, and a function finds the functions where its caller did. One alone stands
-- by itself, and one that isn't reached isn't there.
functions :
    code_is (source "(N)" [] (definition "fact" "(K)" "(if (> K 1) (* K (fact (- K 1))) 1)" ∷ []) [] "(fact N)") 0
    "(a (q a 2 (c 2 (c 5 ()))) (c (q a (i (> 5 (q . 1)) (q * 5 (a 2 (c 2 (c (- 5 (q . 1)) ())))) (q q . 1)) 1) 1))"
    × code_is (source "(N)" [] (definition "one" "()" "1" ∷ definition "same" "(K)" "K" ∷ []) [] "(same (one))") 0
    "(a (q a 6 (c 2 (c (a 4 (c 2 ())) ()))) (c (q (q . 1) . 5) 1))"
    × code_is (source "(N)" [] (definition "one" "()" "1" ∷ definition "same" "(K)" "K" ∷ definition "other" "(K)" "(one)" ∷ []) [] "(same N)") 0
    "(a (q a 2 (c 2 (c 5 ()))) (c (q . 5) 1))"
    × code_is (source "(N)" [] (definition "one" "()" "1" ∷ definition "same" "(K)" "K" ∷ definition "other" "(K)" "(one)" ∷ []) [] "(other N)") 0
    "(a (q a 4 (c 2 (c 5 ()))) (c (q (a 6 (c 2 ())) q . 1) 1))"
unfolding without_sign_bytes shortest_atom operator_named token_of word_token scanned forms_of head_of module_code
functions = (refl, refl, refl, refl)

-- An operand that an inline doesn't use isn't there, and each use of one that it uses has its code.
inlines :
    code_is (source "(A)" [] [] (definition "first" "(X Y)" "X" ∷ []) "(first A (x))") 2 "2"
    × code_is (source "(A)" [] [] (definition "twice" "(X)" "(+ X X)" ∷ []) "(twice (* A A))") 2 "(+ (* 2 2) (* 2 2))"
    × code_is (source "(A B)" [] [] (definition "rest" "(X . R)" "R" ∷ []) "(rest A B 3)") 2 "(c 5 (q 3))"
    × code_is (source "(A)" [] [] (definition "second" "((X Y))" "Y" ∷ []) "(second A)") 2 "10"
unfolding without_sign_bytes shortest_atom operator_named token_of word_token scanned forms_of head_of module_code
inlines = (refl, refl, refl, refl)

-- Constants are put together, nil is the empty path, and a step from a path is a longer path.
constants :
    code_is (plain "(X)" "(if X 1 2)") 0 "(i 2 (q . 1) (q . 2))"
    × code_is (plain "(X)" "(if X () 2)") 0 "(i 2 () (q . 2))"
    × code_is (plain "(X)" "(c X (c 1 2))") 0 "(c 2 (q 1 . 2))"
    × code_is (plain "(X)" "(r (f X))") 0 "12"
    × code_is (plain "(X)" "(if X () X)") 0 "(a (i 2 () (q . 2)) 1)"
unfolding without_sign_bytes shortest_atom operator_named token_of word_token scanned forms_of head_of module_code
constants = (refl, refl, refl, refl, refl)
