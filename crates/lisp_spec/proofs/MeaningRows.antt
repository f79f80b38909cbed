-- What sources mean, by computation. The values are worked out by hand.
use Rattle.std.specs.Prelude.{refl, [], ◌∷◌}
use Rattle.clvm_spec.specs.Numbers.{shortest_atom, without_sign_bytes}
use Rattle.clvm_spec.specs.Path.{followed}
use Rattle.clvm_spec.specs.OperatorTable.{applied, operator_of, operator_named}
use Rattle.clvm_spec.specs.Evaluation.{evaluation}
use Rattle.clvm_spec.specs.Tokens.{token_of, word_token}
use Rattle.clvm_spec.specs.Text.{scanned}
use Prim.Native.String.{String}
use Rattle.lisp_read.specs.Grammar.{forms_of}
use Rattle.lisp_spec.specs.Heads.{head_of}
use Rattle.lisp_spec.specs.Modules.{Module}
use Rattle.lisp_spec.specs.Meaning.{Failed, Wide, Out, meaning}
use Rattle.lisp_spec.proofs.Sources.{definition, constant, source, plain, means, gives}

-- A parameter's value is found by its path, and a step into an atom is a failure only where it is evaluated.
parameters :
    gives (plain "(X)" "(+ X 1)") "(5)" 0 "6"
    × means (plain "(X)" "(+ X 1)") "7" 0 Failed
    × gives (plain "all" "all") "(5 6)" 0 "(5 6)"
    × gives (plain "(A B)" "A") "(5)" 0 "5"
    × means (plain "(A B)" "B") "(5)" 0 Failed
    × gives (plain "(A (B . C) . D)" "(list D C B A)") "(1 (2 . 3) 4)" 0 "((4) 3 2 1)"
    × gives (plain "(A () B)" "B") "(1 2 3)" 0 "3"
    × gives (plain "()" "(list)") "(1 2 3)" 0 "()"
unfolding without_sign_bytes shortest_atom followed applied operator_of operator_named evaluation token_of word_token scanned forms_of head_of meaning
parameters = (refl, refl, refl, refl, refl, refl, refl, refl)

-- Quotes, and templates, in which a rest may be replaced too, and an inner template has no level of its own.
quotes :
    gives (plain "(X)" "(q . (+ 1 X))") "()" 0 "(+ 1 0x58)"
    × gives (plain "(X)" "(quote (+ 1 X))") "()" 0 "(+ 1 0x58)"
    × gives (plain "(X)" "(q)") "()" 0 "()"
    × gives (plain "(X)" "(q q a)") "()" 0 "(q 2)"
    × gives (plain "(X)" "(qq (1 (unquote X) f))") "((5))" 0 "(1 (5) 5)"
    × gives (plain "(X)" "(qq (1 unquote (+ X 1)))") "(5)" 0 "(1 . 6)"
    × gives (plain "(X)" "(qq (1 (qq (unquote X))))") "(5)" 0 "(1 (0x7171 5))"
    × gives (plain "(X)" "(qq (unquote (qq (unquote X))))") "(5)" 0 "5"
    × gives (plain "(X)" "(qq (X . unquote))") "(5)" 0 "(0x58 . 0x756e71756f7465)"
    × means (plain "(X)" "(qq ((unquote (x)) unquote (* X X)))") "(0x40000000000000000000000000000000)" 0 Wide
    × means (plain "(X)" "(qq ((unquote (* X X)) unquote (x)))") "(0x40000000000000000000000000000000)" 0 Failed
unfolding without_sign_bytes shortest_atom followed applied operator_of operator_named evaluation token_of word_token scanned forms_of head_of meaning
quotes = (refl, refl, refl, refl, refl, refl, refl, refl, refl, refl, refl)

-- Of `if` one branch is evaluated. Operands are evaluated from the last to the first, and the first that fails is told.
operators :
    gives (plain "(X)" "(if X (+ X 1) (x))") "(5)" 0 "6"
    × gives (plain "(X)" "(if X (x) 7)") "(())" 0 "7"
    × gives (plain "(X)" "(if X 7 (x))") "((()))" 0 "7"
    × means (plain "(X)" "(i X 7 (x))") "(5)" 0 Failed
    × means (plain "(X)" "(if (x) 7 7)") "(5)" 0 Failed
    × means (plain "(X)" "(list (x) (* X X))") "(0x40000000000000000000000000000000)" 0 Wide
    × means (plain "(X)" "(list (* X X) (x))") "(0x40000000000000000000000000000000)" 0 Failed
    × means (plain "(X)" "(f X X)") "((5))" 0 Failed
    × gives (plain "(X)" "(f X)") "((5))" 0 "5"
unfolding without_sign_bytes shortest_atom followed applied operator_of operator_named evaluation token_of word_token scanned forms_of head_of meaning
operators = (refl, refl, refl, refl, refl, refl, refl, refl, refl)

-- `a` runs its first value on its second, with each count of the fuel as the count is.
runs :
    gives (plain "(X)" "(a (q + 2 (q . 1)) (list X))") "(5)" 824 "6"
    × means (plain "(X)" "(a (q + 2 (q . 1)) (list X))") "(5)" 823 Out
    × means (plain "(X)" "(a (q + 2 (q . 1)))") "(5)" 823 Failed
    × means (plain "(X)" "(a (q x) 1)") "(5)" 1 Failed
    × means (plain "(X)" "(a (q * 1 1) X)") "(0x40000000000000000000000000000000)" 9999 Wide
unfolding without_sign_bytes shortest_atom followed applied operator_of operator_named evaluation token_of word_token scanned forms_of head_of meaning
runs = (refl, refl, refl, refl, refl)

abbrev one_of_two : Module
one_of_two = source "(A)" [] [] (definition "one" "(X Y)" "X" ∷ []) "(one A (x))"

abbrev one_of_two_values : Module
one_of_two_values = source "(A)" [] (definition "one" "(X Y)" "X" ∷ []) [] "(one A (x))"

-- An inline's operand is evaluated at each use, and not at all without use; a function's once, used or not.
unused_operands :
    gives one_of_two "(7)" 2 "7"
    × means one_of_two "(7)" 1 Out
    × means one_of_two "(7)" 0 Out
    × means one_of_two_values "(7)" 1 Failed
    × means one_of_two_values "(7)" 0 Failed
unfolding without_sign_bytes shortest_atom followed applied operator_of operator_named evaluation token_of word_token scanned forms_of head_of meaning
unused_operands = (refl, refl, refl, refl, refl)

abbrev square_of_next : Module
square_of_next = source "(A)" [] [] (definition "next" "(X)" "(square (+ X 1))" ∷ definition "square" "(X)" "(* X X)" ∷ []) "(next A)"

abbrev by_inline : String → String → Module
by_inline params body = source "(A B C)" [] [] (definition "part" params body ∷ []) "(part A B C)"

-- What a parameter of an inline stands for: an expression of its caller, a part of one, the operands from there on, or,
-- past their end, nothing.
inlines :
    gives square_of_next "(2)" 4 "9"
    × means square_of_next "(2)" 3 Out
    × gives (by_inline "(X . more)" "more") "(1 2 3)" 2 "(2 3)"
    × gives (by_inline "(X Y Z . more)" "more") "(1 2 3)" 2 "()"
    × gives (by_inline "all" "all") "(1 2 3)" 2 "(1 2 3)"
    × gives (by_inline "(X (Y Z))" "Z") "(1 (4 5) 3)" 2 "5"
    × gives (by_inline "(X (Y . Z))" "Z") "(1 (4 5) 3)" 2 "(5)"
    × means (by_inline "(X (Y Z))" "Z") "(1 (4) 3)" 2 Failed
    × gives (by_inline "(X (Y Z) W V)" "W") "(1 2 3)" 2 "3"
    × means (by_inline "(X (Y Z) W V)" "V") "(1 2 3)" 2 Failed
unfolding without_sign_bytes shortest_atom followed applied operator_of operator_named evaluation token_of word_token scanned forms_of head_of meaning
inlines = (refl, refl, refl, refl, refl, refl, refl, refl, refl, refl)

abbrev factorial : Module
factorial = source "(N)" [] (definition "fact" "(K)" "(if (> K 1) (* K (fact (- K 1))) 1)" ∷ []) [] "(fact N)"

-- Each call hands on one less.
functions :
    gives factorial "(5)" 5 "120"
    × means factorial "(5)" 4 Out
    × gives factorial "(5)" 6 "120"
    × means factorial "(34)" 34 Wide
    × gives factorial "(())" 1 "1"
unfolding without_sign_bytes shortest_atom followed applied operator_of operator_named evaluation token_of word_token scanned forms_of head_of meaning
functions = (refl, refl, refl, refl, refl)

abbrev with_constant : String → String → Module
with_constant params body = source params (constant "SEVEN" "7" ∷ []) [] [] body

-- A symbol is a parameter, else a constant.
constants :
    gives (with_constant "(X)" "(+ X SEVEN)") "(5)" 0 "12"
    × gives (with_constant "(SEVEN)" "SEVEN") "(5)" 0 "5"
    × means (with_constant "(X SEVEN)" "SEVEN") "(5)" 0 Failed
    × gives (source "(X)" (constant "SEVEN" "7" ∷ []) [] (definition "g" "(SEVEN)" "SEVEN" ∷ []) "(g X)") "(5)" 2 "5"
    × means (source "(X)" (constant "SEVEN" "7" ∷ []) [] (definition "g" "(A SEVEN)" "SEVEN" ∷ []) "(g X)") "(5)" 2 Failed
unfolding without_sign_bytes shortest_atom followed applied operator_of operator_named evaluation token_of word_token scanned forms_of head_of meaning
constants = (refl, refl, refl, refl, refl)
