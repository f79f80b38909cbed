-- Bodies of macros and expansion at known forms: the outcomes are computed by hand or by an independent program.
use Rattle.std.specs.Prelude.{◌≡◌, ℕ, zero, suc, refl, replicate, List, [], ◌∷◌, codes}
use Rattle.clvm_spec.specs.Numbers.{shortest_atom, without_sign_bytes}
use Rattle.clvm_spec.specs.Tokens.{token_of, word_token}
use Rattle.clvm_spec.specs.OperatorTable.{operator_named}
use Rattle.lisp_read.specs.Grammar.{forms_of}
use Rattle.lisp_spec.specs.Forms.{Form, Atom, Symbol, Pair}
use Rattle.lisp_spec.specs.Heads.{head_of}
use Rattle.lisp_spec.specs.Macros.{Macro, TurnsSpent, BadMacro, TooLarge, turns_of_a_module}
use Rattle.lisp_spec.specs.MacroBodies.{body_head, body_value}
use Rattle.lisp_spec.specs.Expansion.{Expands, Breaks, expanded_part, expansion}
use Rattle.lisp_spec.proofs.MacroCases.{defmacro, expands, breaks, body_gives, body_stops, placed, at}

asserting : List Macro
asserting = defmacro "assert" "items" "(if (r items) (list if (f items) (c assert (r items)) (q . (x))) (f items))" ∷ []

endless : List Macro
endless = defmacro "again" "A" "(list again)" ∷ []

two : List Macro
two = defmacro "two" "()" "2" ∷ []

wrapping : List Macro
wrapping = defmacro "two" "()" "2" ∷ defmacro "quoted" "(A)" "(list quote A)" ∷ defmacro "same" "(A)" "A" ∷ defmacro "both" "(A . B)" "(list list A B)" ∷ defmacro "named" "(N . X)" "(c N X)" ∷ []

templates : List Macro
templates = defmacro "m" "(A B)" "(qq (list (unquote A) B . (unquote B)))" ∷ defmacro "deep" "(A)" "(qq (qq (unquote (qq (unquote A)))))" ∷ defmacro "rest" "A" "(qq (+ . (unquote A)))" ∷ defmacro "plain" "()" "(qq (q . (x y)))" ∷ []

lazy : List Macro
lazy = defmacro "first" "(A B)" "A" ∷ defmacro "branch" "(A)" "(if () (quote A) A)" ∷ defmacro "other" "(A)" "(if x A (f 5))" ∷ []

-- The asserting macro takes one operand or more: the last is the value, each before it a condition.
assertions :
    expands asserting 100 "(assert B)" "B" 94
    × expands asserting 100 "(assert (= A 1) B)" "(if (= A 1) B (x))" 81
    × expands asserting 1000 "(assert (= A 1) (> B 2) B)" "(if (= A 1) (if (> B 2) B (x)) (x))" 968
    × expands asserting 100 "(list (assert B) (f (assert A B)))" "(list B (f (if A B (x))))" 75
    × breaks asserting 100 "(assert)" BadMacro 0 96
    × breaks asserting 100 "(list (assert B) (assert))" BadMacro 17 90
    × expands asserting 0 "(assert . A)" "(assert . A)" 0
    × expands asserting 0 "(assert B . A)" "(assert B . A)" 0
    × expands asserting 0 "assert" "assert" 0
    × expands asserting 0 "5" "5" 0
unfolding asserting without_sign_bytes shortest_atom token_of word_token forms_of operator_named head_of body_head body_value expanded_part
assertions = (refl, refl, refl, refl, refl, refl, refl, refl, refl, refl)

-- A macro without end takes all turns, however many there are. A call takes one, and each expression of its body one.
ends :
    breaks endless 0 "(again)" TurnsSpent 0 0
    × breaks endless 1 "(again)" TurnsSpent 0 0
    × breaks endless 2 "(again)" TurnsSpent 0 0
    × breaks endless 3 "(again)" TurnsSpent 0 0
    × breaks endless 4 "(again)" TurnsSpent 0 0
    × breaks endless 100 "(list 1 (again))" TurnsSpent 8 0
unfolding endless without_sign_bytes shortest_atom token_of word_token forms_of operator_named head_of body_head body_value expanded_part
ends = (refl, refl, refl, refl, refl, refl)

-- Nothing is expanded in what is quoted, nor in a template but under `unquote`, and not in a template that is none. A
-- head that is a pair, a list's rest, and a name before a list that isn't proper are no calls.
where_calls_are :
    expands two 9 "(list (two) (two))" "(list 2 2)" 5
    × expands two 9 "(q two)" "(q two)" 9
    × expands two 9 "(q . (two))" "(q two)" 9
    × expands two 9 "(q (two))" "(q (two))" 9
    × expands two 9 "(quote (two))" "(quote (two))" 9
    × expands two 9 "(quote (two) (two))" "(quote (two) (two))" 9
    × expands two 9 "(qq ((two) (unquote (two)) . (unquote (two))))" "(qq ((two) (unquote 2) unquote 2))" 5
    × expands two 9 "(qq (two) (two))" "(qq (two) (two))" 9
    × expands two 9 "(qq (unquote (two)))" "(qq (unquote 2))" 7
    × expands two 9 "(qq (qq (unquote (two))))" "(qq (qq (unquote 2)))" 7
    × expands two 9 "(qq (q . (unquote (two))))" "(qq (q unquote 2))" 7
    × expands two 9 "(qq (unquote (two) (two)))" "(qq (unquote 2 2))" 5
    × expands two 9 "(qq (unquote (two) . 5))" "(qq (unquote 2 . 5))" 7
    × expands two 9 "(qq ((unquote) (unquote (two))))" "(qq ((unquote) (unquote 2)))" 7
    × expands two 9 "(qq)" "(qq)" 9
    × expands two 9 "(qq . two)" "(qq . two)" 9
    × expands two 9 "(unquote (two))" "(unquote 2)" 7
    × expands two 9 "((two) (two))" "((two) 2)" 7
    × expands two 9 "(5 (two))" "(5 2)" 7
    × expands two 9 "(f (two) . (two))" "(f 2 two)" 7
    × expands two 9 "(two . two)" "(two . two)" 9
    × expands two 9 "(f (two) . x)" "(f 2 . x)" 7
    × expands two 9 "(if (two) (two) (f (two)))" "(if 2 2 (f 2))" 3
    × expands two 9 "(two (two) (two))" "2" 7
unfolding two without_sign_bytes shortest_atom token_of word_token forms_of operator_named head_of body_head body_value expanded_part
where_calls_are = (refl, refl, refl, refl, refl, refl, refl, refl, refl, refl, refl, refl, refl, refl, refl, refl, refl, refl, refl, refl, refl, refl, refl, refl)

-- Calls are replaced from the outside in, before their operands are looked at, and what is given is expanded again.
outside_in :
    expands wrapping 9 "(quoted (two))" "(quote (two))" 5
    × expands wrapping 9 "(same (two))" "2" 5
    × expands wrapping 20 "(same (same (two)))" "2" 14
    × expands wrapping 20 "(same (quoted (two)))" "(quote (two))" 14
    × expands wrapping 30 "(both (two) (two) (two))" "(list 2 ((two) 2))" 21
    × expands wrapping 9 "(named two)" "2" 3
    × expands wrapping 20 "(named same (two))" "2" 12
    × expands wrapping 20 "(named quote (two))" "(quote (two))" 16
    × expands wrapping 9 "(list (same 1) (same (two)))" "(list 1 2)" 3
    × expands wrapping 20 "(same (again (two)))" "(again 2)" 16
    × breaks wrapping 9 "(same)" BadMacro 0 7
    × breaks wrapping 9 "(list (same . 5) (same))" BadMacro 17 7
unfolding wrapping without_sign_bytes shortest_atom token_of word_token forms_of operator_named head_of body_head body_value expanded_part
outside_in = (refl, refl, refl, refl, refl, refl, refl, refl, refl, refl, refl, refl)

-- A template of a body keeps what stands in it, but each pair with the head `unquote`, at every level.
body_templates :
    expands templates 9 "(m x y)" "(list x B . y)" 5
    × expands templates 9 "(m (x) (y z))" "(list (x) B y z)" 5
    × expands templates 9 "(deep x)" "(qq x)" 5
    × expands templates 9 "(rest 1 2)" "(+ 1 2)" 6
    × expands templates 9 "(plain)" "(q x y)" 7
    × breaks templates 9 "(m x)" BadMacro 0 6
unfolding templates without_sign_bytes shortest_atom token_of word_token forms_of operator_named head_of body_head body_value expanded_part
body_templates = (refl, refl, refl, refl, refl, refl)

-- A body is evaluated as far as it is met.
met :
    expands lazy 9 "(first x)" "x" 7
    × expands lazy 9 "(first x y)" "x" 7
    × breaks lazy 9 "(first)" BadMacro 0 7
    × expands lazy 9 "(branch x)" "x" 5
    × expands lazy 9 "(other x)" "x" 5
unfolding lazy without_sign_bytes shortest_atom token_of word_token forms_of operator_named head_of body_head body_value expanded_part
met = (refl, refl, refl, refl, refl)

-- What the operators on forms give.
operators :
    body_gives "(A)" "(f A)" "((x y))" 20 "x" 18
    × body_gives "(A)" "(r A)" "((x y))" 20 "(y)" 18
    × body_gives "(A B)" "(c A B)" "(x (y))" 20 "(x y)" 17
    × body_gives "(A B)" "(c A B)" "(x y)" 20 "(x . y)" 17
    × body_gives "(A)" "(l A)" "((x))" 20 "1" 18
    × body_gives "(A)" "(l A)" "(x)" 20 "()" 18
    × body_gives "(A)" "(l A)" "(())" 20 "()" 18
    × body_gives "(A)" "(i A 5 6)" "(x)" 20 "5" 16
    × body_gives "(A)" "(i A 5 6)" "(())" 20 "6" 16
    × body_gives "(A)" "(i A 5 6)" "(0x00)" 20 "5" 16
    × body_gives "(A)" "(i A 5 6)" "((()))" 20 "5" 16
    × body_gives "(A B)" "(= A B)" "(x x)" 20 "1" 17
    × body_gives "(A B)" "(= A B)" "(x y)" 20 "()" 17
    × body_gives "(A B)" "(= A B)" "(1 0x01)" 20 "1" 17
    × body_gives "(A B)" "(= A B)" "(1 0x0001)" 20 "()" 17
    × body_gives "(A B)" "(= A B)" "(x 0x78)" 20 "()" 17
    × body_gives "(A B)" "(= A B)" "((x) (x))" 20 "()" 17
    × body_gives "(A B)" "(= A B)" "(() 0)" 20 "1" 17
    × body_gives "A" "(list)" "()" 20 "()" 19
    × body_gives "(A . B)" "(list A B 7)" "(x y z)" 20 "(x (y z) 7)" 16
    × body_gives "(A)" "(if A 5 6)" "(x)" 20 "5" 17
    × body_gives "(A)" "(if A 5 6)" "(())" 20 "6" 17
    × body_gives "()" "x" "()" 20 "x" 19
    × body_gives "()" "()" "()" 20 "()" 19
    × body_gives "(A)" "(q . A)" "(x)" 20 "A" 19
    × body_gives "(A)" "(q A B)" "(x)" 20 "(A B)" 19
    × body_gives "((A B) . C)" "(list C B A)" "((x y) z)" 20 "((z) y x)" 16
    × body_gives "(q)" "(list q (q . q))" "(x)" 20 "(x q)" 17
unfolding without_sign_bytes shortest_atom token_of word_token forms_of operator_named head_of body_head body_value expanded_part
operators = (refl, refl, refl, refl, refl, refl, refl, refl, refl, refl, refl, refl, refl, refl, refl, refl, refl, refl, refl, refl, refl, refl, refl, refl, refl, refl, refl, refl)

-- What no body can do: another head, a wrong count, a step into what is no pair.
bad_bodies :
    body_stops "(A)" "(+ A 1)" "(x)" 20 BadMacro 19
    × body_stops "(A)" "(quote A)" "(x)" 20 BadMacro 19
    × body_stops "(A)" "(unquote A)" "(x)" 20 BadMacro 19
    × body_stops "(A)" "(A)" "(x)" 20 BadMacro 19
    × body_stops "(A)" "(5 A)" "(x)" 20 BadMacro 19
    × body_stops "(A)" "((f) A)" "(x)" 20 BadMacro 19
    × body_stops "(A)" "(f)" "((x))" 20 BadMacro 19
    × body_stops "(A)" "(f A A)" "((x))" 20 BadMacro 19
    × body_stops "(A)" "(f . A)" "((x))" 20 BadMacro 19
    × body_stops "(A)" "(f A . A)" "((x))" 20 BadMacro 19
    × body_stops "(A)" "(r)" "((x))" 20 BadMacro 19
    × body_stops "(A)" "(c A)" "((x))" 20 BadMacro 19
    × body_stops "(A)" "(l)" "((x))" 20 BadMacro 19
    × body_stops "(A)" "(i A A)" "(x)" 20 BadMacro 19
    × body_stops "(A)" "(= A)" "(x)" 20 BadMacro 19
    × body_stops "(A)" "(if A A)" "(x)" 20 BadMacro 19
    × body_stops "(A)" "(if A A A A)" "(x)" 20 BadMacro 19
    × body_stops "(A)" "(list A . A)" "(x)" 20 BadMacro 19
    × body_stops "(A)" "(qq)" "(x)" 20 BadMacro 19
    × body_stops "(A)" "(qq A A)" "(x)" 20 BadMacro 19
    × body_stops "(A)" "(qq (unquote))" "(x)" 20 BadMacro 19
    × body_stops "(A)" "(qq (1 unquote A A))" "(x)" 20 BadMacro 19
    × body_stops "(A)" "(f A)" "(x)" 20 BadMacro 18
    × body_stops "(A)" "(f A)" "(())" 20 BadMacro 18
    × body_stops "(A)" "(r A)" "(5)" 20 BadMacro 18
    × body_stops "(A B)" "B" "(x)" 20 BadMacro 19
    × body_stops "((A))" "A" "(x)" 20 BadMacro 19
unfolding without_sign_bytes shortest_atom token_of word_token forms_of operator_named head_of body_head body_value expanded_part
bad_bodies = (refl, refl, refl, refl, refl, refl, refl, refl, refl, refl, refl, refl, refl, refl, refl, refl, refl, refl, refl, refl, refl, refl, refl, refl, refl, refl, refl)

-- A turn is taken before the head and the count are looked at, and these before the operands, which are evaluated
-- from the last to the first; `if` evaluates its condition, and then one branch.
turn_order :
    body_stops "(A)" "(f A A)" "(x)" 0 TurnsSpent 0
    × body_stops "(A)" "(f A A)" "(x)" 1 BadMacro 0
    × body_stops "(A)" "(+ A)" "(x)" 0 TurnsSpent 0
    × body_stops "(A)" "(+ A)" "(x)" 1 BadMacro 0
    × body_stops "(A)" "(list (+ A) A)" "(x)" 1 TurnsSpent 0
    × body_stops "(A)" "(list (+ A) A)" "(x)" 2 TurnsSpent 0
    × body_stops "(A)" "(list (+ A) A)" "(x)" 3 BadMacro 0
    × body_stops "(A)" "(list A (+ A))" "(x)" 2 BadMacro 0
    × body_stops "(A)" "(i (f A) 5 6)" "(x)" 3 TurnsSpent 0
    × body_stops "(A)" "(i (f A) 5 6)" "(x)" 4 TurnsSpent 0
    × body_stops "(A)" "(i (f A) 5 6)" "(x)" 5 BadMacro 0
    × body_stops "(A)" "(if (f A) 5 6)" "(x)" 3 BadMacro 0
    × body_gives "(A)" "(if A 5 (f A))" "(x)" 3 "5" 0
    × body_stops "(A)" "(if () 5 (f A))" "(x)" 3 TurnsSpent 0
    × body_stops "(A)" "(if () 5 (f A))" "(x)" 4 BadMacro 0
    × body_stops "(A)" "(qq ((unquote (f A)) (unquote A)))" "(x)" 1 TurnsSpent 0
    × body_stops "(A)" "(qq ((unquote (f A)) (unquote A)))" "(x)" 3 TurnsSpent 0
    × body_stops "(A)" "(qq ((unquote (f A)) (unquote A)))" "(x)" 4 BadMacro 0
    × body_stops "(A)" "(qq ((unquote) (unquote A)))" "(x)" 1 TurnsSpent 0
    × body_stops "(A)" "(qq ((unquote) (unquote A)))" "(x)" 2 BadMacro 0
    × body_stops "(A)" "(qq ((unquote A) (unquote)))" "(x)" 1 BadMacro 0
    × body_stops "(A)" "A" "(x)" 0 TurnsSpent 0
    × body_stops "(A)" "5" "(x)" 0 TurnsSpent 0
    × body_stops "(A)" "(q . 5)" "(x)" 0 TurnsSpent 0
    × body_gives "(A)" "(list)" "(x)" 1 "()" 0
unfolding without_sign_bytes shortest_atom token_of word_token forms_of operator_named head_of body_head body_value expanded_part
turn_order = (refl, refl, refl, refl, refl, refl, refl, refl, refl, refl, refl, refl, refl, refl, refl, refl, refl, refl, refl, refl, refl, refl, refl, refl, refl)

-- The fault of a call that a macro made stands at the call that is written, and so do those of a call that stood in its
-- operands.
whole_text : breaks endless turns_of_a_module "(mod (X) (defmacro again A (list again)) (again))" TurnsSpent 41 0
unfolding endless without_sign_bytes shortest_atom token_of word_token forms_of operator_named head_of body_head body_value expanded_part
whole_text = refl

making : List Macro
making = defmacro "makes" "(A)" "(c (l A) (qq (k (unquote A))))" ∷ defmacro "outer" "A" "(qq (inner . (unquote A)))" ∷ defmacro "inner" "(A)" "(list (= A 5) A (q y))" ∷ []

fault_places :
    breaks making 20 "(list (inner 1) (outer))" BadMacro 16 6
    × breaks making 20 "(list 7 (makes (inner)))" BadMacro 8 10
unfolding making without_sign_bytes shortest_atom token_of word_token forms_of operator_named head_of body_head body_value expanded_part
fault_places = (refl, refl)

-- What stands in the operands or in the body keeps its place. What `c`, `list`, `=` and `l` make has the place at which
-- the faults of the call would stand.
list_at : ℕ → Form → Form → Form
list_at n first second = Pair (at n) first (Pair (at n) second (Atom (at n) []))

form_places :
    (expansion making (placed "(list (makes (x)))") 20 ≡ Expands
    (list_at 0 (Symbol (at 1) (codes "list"))
    (Pair (at 6) (Atom (at 6) (1 ∷ [])) (list_at 13 (Symbol (at 14) (codes "k")) (Pair (at 13) (Symbol (at 14) (codes "x")) (Atom (at 13) []))))) 14)
    × (expansion making (placed "(list (outer (x)))") 20 ≡ Expands
    (list_at 0 (Symbol (at 1) (codes "list"))
    (Pair (at 6) (Atom (at 6) []) (list_at 6 (Pair (at 13) (Symbol (at 14) (codes "x")) (Atom (at 13) [])) (Pair (at 16) (Symbol (at 19) (codes "y")) (Atom (at 16) []))))) 10)
unfolding making list_at without_sign_bytes shortest_atom token_of word_token forms_of operator_named head_of body_head body_value expanded_part
form_places = (refl, refl)

-- What a body gives is nested no deeper than 1,024 lists and weighs no more than 262,144; a form that is both too deep
-- and too heavy is a bad macro.
nested : ℕ → Form
nested zero = Atom (at 3) []
nested (suc n) = Pair (at 3) (nested n) (Atom (at 3) [])

heavy : ℕ → Form
heavy n = Atom (at 3) (replicate n 0)

call_of_same : Form → Form
call_of_same operand = list_at 5 (Symbol (at 6) (codes "same")) operand

limits :
    (expansion wrapping (call_of_same (nested 1_024)) 9 ≡ Expands (nested 1_024) 7)
    × (expansion wrapping (call_of_same (nested 1_025)) 9 ≡ Breaks BadMacro (at 5) 7)
    × (expansion wrapping (call_of_same (heavy 262_143)) 9 ≡ Expands (heavy 262_143) 7)
    × (expansion wrapping (call_of_same (heavy 262_144)) 9 ≡ Breaks TooLarge (at 5) 7)
    × (expansion wrapping (call_of_same (Pair (at 4) (nested 1_025) (heavy 262_144))) 9 ≡ Breaks BadMacro (at 5) 7)
unfolding wrapping nested heavy call_of_same list_at without_sign_bytes shortest_atom token_of word_token forms_of operator_named head_of body_head body_value expanded_part
limits = (refl, refl, refl, refl, refl)
