-- Evaluation at known programs: the outcomes are computed by hand or by an independent program.
use Rattle.std.specs.Prelude.{◌≡◌, refl}
use Rattle.clvm_spec.specs.declared.fuel.Which.TheVariants.{Cost, Pairs, Bytes, Depth}
use Rattle.clvm_spec.specs.Outcomes.{NoStep, NotAList, WrongCount, WrongOperand, Raised, ZeroDivisor, NoOperator, Done, Failed}
use Rattle.clvm_spec.specs.Numbers.{shortest_atom, without_sign_bytes}
use Rattle.clvm_spec.specs.Path.{followed}
use Rattle.clvm_spec.specs.OperatorTable.{applied, operator_of, operator_named}
use Rattle.clvm_spec.specs.Evaluation.{evaluation}
use Rattle.clvm_spec.specs.Tokens.{token_of, word_token}
use Rattle.clvm_spec.specs.Text.{scanned}
use Rattle.clvm_spec.proofs.Cases.{tree, run, gives, fails, spent, less, with_cost, with_pairs, with_bytes, with_depth}

-- An atom is a path: its bits from the lowest up, its cost by its leading zero bytes and its steps.
paths :
    gives "1" "(5)" "(f)" 44 0 0
    × gives "2" "(5)" "5" 48 0 0
    × gives "3" "(5)" "()" 48 0 0
    × gives "5" "(5 6)" "6" 52 0 0
    × gives "11" "(5 6 7)" "7" 56 0 0
    × gives "()" "(5)" "()" 44 0 0
    × gives "0" "5" "()" 44 0 0
    × gives "0x00" "5" "()" 48 0 0
    × gives "0x000000" "5" "()" 56 0 0
    × gives "0x0002" "(5)" "5" 52 0 0
    × gives "0x000001" "(5)" "(f)" 52 0 0
    × gives "0x80" "((((((((4))))))))" "(c)" 72 0 0
    × gives "0x0100" "(((((((((4)))))))))" "(c)" 76 0 0
    × fails "2" "7" NoStep "2"
    × fails "0x0003" "()" NoStep "0x0003"
    × fails "6" "(5)" NoStep "6"
unfolding without_sign_bytes shortest_atom followed applied operator_of operator_named evaluation token_of word_token scanned
paths = (refl, refl, refl, refl, refl, refl, refl, refl, refl, refl, refl, refl, refl, refl, refl, refl)

-- Quotes, operator forms and their faults. Operands are evaluated from the last to the first.
forms :
    gives "(+ 2 (q . 1))" "(5)" "6" 824 0 9
    × gives "1" "()" "()" 44 0 0
    × gives "(q . 7)" "()" "7" 20 0 0
    × gives "(q 1 2)" "()" "(q 2)" 20 0 0
    × gives "(q)" "()" "()" 20 0 0
    × fails "((q . 1) 2)" "()" NoOperator "((q . 1) 2)"
    × fails "(0x0001 (q . 5))" "()" NoOperator "(0x0001 (q . 5))"
    × fails "(0x0001 2)" "()" NoStep "2"
    × fails "(+ 1 . 2)" "()" NotAList "(+ 1 . 2)"
    × fails "(+ . 5)" "()" NotAList "(+ . 5)"
    × fails "(() 2)" "(3)" NoOperator "(() 2)"
    × fails "(15)" "()" NoOperator "(15)"
    × fails "(0xff)" "()" NoOperator "(-1)"
    × fails "(+ (x) 2)" "7" NoStep "2"
    × fails "(+ 2 (x))" "7" (Raised (tree "()")) "(x)"
    × fails "(+ (x 1) (/ 1 ()))" "7" ZeroDivisor "(/ 1 ())"
    × fails "(+ (x (q . 1)) (q . 2))" "7" (Raised (tree "(q)")) "(x (q . 1))"
unfolding without_sign_bytes shortest_atom followed applied operator_of operator_named evaluation token_of word_token scanned
forms = (refl, refl, refl, refl, refl, refl, refl, refl, refl, refl, refl, refl, refl, refl, refl, refl, refl)

-- `a` goes on with its first operand as the program and its second as the environment.
applications :
    gives "(a (q . 2) 1)" "(9)" "9" 203 0 0
    × gives "(a (q + 2 (q . 1)) (c (q . 5) 1))" "()" "6" 1050 1 9
    × fails "(a (q . 1))" "()" WrongCount "(a (q . 1))"
    × fails "(a)" "()" WrongCount "(a)"
    × fails "(a 1 1 1)" "(3)" WrongCount "(a 1 1 1)"
    × gives "(a (q a 2 3) 1)" "((+ 2 (q . 1)) 7)" "8" 1166 0 9
    × fails "(a (q . 2) (q . 7))" "()" NoStep "2"
    × fails "(0x0002 (q . 1) (q . 1))" "()" NoOperator "(0x0002 (q . 1) (q . 1))"
unfolding without_sign_bytes shortest_atom followed applied operator_of operator_named evaluation token_of word_token scanned
applications = (refl, refl, refl, refl, refl, refl, refl, refl)

-- A cost equal to what is left is enough, and a step that fails does so before its lack of cost.
costs :
    (run "(+ 2 (q . 1))" "(5)" (with_cost 824) ≡ Done (tree "6") (less 824 0 9 (with_cost 824)))
    × spent "(+ 2 (q . 1))" "(5)" (with_cost 823) Cost
    × (run "1" "7" (with_cost 44) ≡ Done (tree "7") (less 44 0 0 (with_cost 44)))
    × spent "1" "7" (with_cost 43) Cost
    × (run "(q . 7)" "()" (with_cost 20) ≡ Done (tree "7") (less 20 0 0 (with_cost 20)))
    × spent "(q . 7)" "()" (with_cost 19) Cost
    × (run "(a (q . 1) (q . 1))" "()" (with_cost 175) ≡ Done (tree "1") (less 175 0 0 (with_cost 175)))
    × spent "(a (q . 1) (q . 1))" "()" (with_cost 174) Cost
    × spent "(a (q . 1) (q . 1))" "()" (with_cost 130) Cost
    × (run "(a (q . 2) (q . 9))" "()" (with_cost 131) ≡ Failed NoStep (tree "2"))
    × spent "(a (q . 2) (q . 9))" "()" (with_cost 130) Cost
    × (run "(a (q . 2) 1)" "(9)" (with_cost 203) ≡ Done (tree "9") (less 203 0 0 (with_cost 203)))
    × spent "(a (q . 2) 1)" "(9)" (with_cost 202) Cost
    × spent "(x)" "()" (with_cost 0) Cost
    × (run "(x)" "()" (with_cost 1) ≡ Failed (Raised (tree "()")) (tree "(x)"))
    × spent "(a)" "()" (with_cost 0) Cost
    × (run "(a)" "()" (with_cost 1) ≡ Failed WrongCount (tree "(a)"))
    × spent "(15)" "()" (with_cost 0) Cost
    × (run "(15)" "()" (with_cost 1) ≡ Failed NoOperator (tree "(15)"))
    × (run "2" "7" (with_cost 0) ≡ Failed NoStep (tree "2"))
    × (run "(+ 1 . 2)" "()" (with_cost 0) ≡ Failed NotAList (tree "(+ 1 . 2)"))
    × (run "((q . 1) 2)" "()" (with_cost 0) ≡ Failed NoOperator (tree "((q . 1) 2)"))
    × (run "(f (q . 1))" "()" (with_cost 21) ≡ Failed (WrongOperand 0) (tree "(f (q . 1))"))
    × spent "(f (q . 1))" "()" (with_cost 20) Cost
unfolding without_sign_bytes shortest_atom followed applied operator_of operator_named evaluation token_of word_token scanned
costs = (refl, refl, refl, refl, refl, refl, refl, refl, refl, refl, refl, refl, refl, refl, refl, refl, refl, refl, refl, refl, refl, refl, refl, refl)

-- New pairs, and bytes of new atoms.
pairs :
    (run "(c 1 1)" "()" (with_pairs 1) ≡ Done (tree "(())") (less 139 1 0 (with_pairs 1)))
    × spent "(c 1 1)" "()" (with_pairs 0) Pairs
    × spent "(c (c 1 1) 1)" "()" (with_pairs 1) Pairs
    × (run "(+ (q . 1) (q . 2))" "()" (with_bytes 9) ≡ Done (tree "3") (less 796 0 9 (with_bytes 9)))
    × spent "(+ (q . 1) (q . 2))" "()" (with_bytes 8) Bytes
    × (run "(> (q . 1) (q . 2))" "()" (with_bytes 0) ≡ Done (tree "()") (less 543 0 0 (with_bytes 0)))
    × (run "(divmod (q . 7) (q . 2))" "()" (with_bytes 18) ≡ Done (tree "(i . 1)") (less 1189 1 18 (with_bytes 18)))
    × spent "(divmod (q . 7) (q . 2))" "()" (with_bytes 17) Bytes
    × spent "(divmod (q . 7) (q . 2))" "()" (with_pairs 0) Pairs
unfolding without_sign_bytes shortest_atom followed applied operator_of operator_named evaluation token_of word_token scanned
pairs = (refl, refl, refl, refl, refl, refl, refl, refl, refl)

-- Operands stand one deeper than their form.
depths :
    (run "(+ (q . 1) (q . 2))" "()" (with_depth 1) ≡ Done (tree "3") (less 796 0 9 (with_depth 1)))
    × spent "(+ (q . 1) (q . 2))" "()" (with_depth 0) Depth
    × (run "(+)" "()" (with_depth 0) ≡ Done (tree "()") (less 100 0 8 (with_depth 0)))
    × (run "(+ (+ (q . 1)) (q . 2))" "()" (with_depth 2) ≡ Done (tree "3") (less 1229 0 18 (with_depth 2)))
    × spent "(+ (+ (q . 1)) (q . 2))" "()" (with_depth 1) Depth
    × (run "(a (q + (q . 1)) 1)" "()" (with_depth 1) ≡ Done (tree "1") (less 608 0 9 (with_depth 1)))
    × (run "(q 1 2)" "()" (with_depth 0) ≡ Done (tree "(q 2)") (less 20 0 0 (with_depth 0)))
    × (run "(+ 1 . 2)" "()" (with_depth 0) ≡ Failed NotAList (tree "(+ 1 . 2)"))
unfolding without_sign_bytes shortest_atom followed applied operator_of operator_named evaluation token_of word_token scanned
depths = (refl, refl, refl, refl, refl, refl, refl, refl)
