-- Operators and evaluation at their borders: the outcomes are computed by an independent program.
use Rattle.std.specs.Prelude.{◌≡◌, [], ◌∷◌, refl}
use Rattle.sha2.specs.Sha256.{sha256, digest_bytes, hash_after, compress, rounds, schedule, first_words}
use Rattle.clvm_spec.specs.declared.fuel.Which.TheVariants.{Cost, Pairs, Bytes, Depth}
use Rattle.clvm_spec.specs.Tree.{nil}
use Rattle.clvm_spec.specs.Outcomes.{NoStep, WrongCount, WrongOperand, ZeroDivisor, WrongShift, NoOperator, Fails, Done, Failed, Wide}
use Rattle.clvm_spec.specs.Numbers.{shortest_atom, without_sign_bytes}
use Rattle.clvm_spec.specs.Path.{followed}
use Rattle.clvm_spec.specs.OperatorTable.{applied, operator_of, operator_named}
use Rattle.clvm_spec.specs.Evaluation.{evaluation}
use Rattle.clvm_spec.specs.Tokens.{token_of, word_token}
use Rattle.clvm_spec.specs.Text.{scanned}
use Rattle.clvm_spec.proofs.Cases.{tree, run, gives, fails, wide, spent, exactly, with_cost, with_depth, with_fuel}

-- Codes of no row, beside those of the table.
no_operators :
    fails "(28)" "()" NoOperator "(28)"
    × fails "(31)" "()" NoOperator "(31)"
    × fails "(35)" "()" NoOperator "(35)"
    × fails "(0x00)" "()" NoOperator "(0x00)"
    × (applied (1 ∷ []) [] ≡ Fails NoOperator)
    × (applied (2 ∷ []) (nil ∷ nil ∷ []) ≡ Fails NoOperator)
unfolding without_sign_bytes shortest_atom followed applied operator_of operator_named evaluation token_of word_token scanned
no_operators = (refl, refl, refl, refl, refl, refl)

-- One operand too many, and pairs where atoms are needed.
counts_and_places :
    fails "(>s (q . 1) (q . 2) (q . 3))" "()" WrongCount "(>s (q . 1) (q . 2) (q . 3))"
    × fails "(> (q . 1) (q . 2) (q . 3))" "()" WrongCount "(> (q . 1) (q . 2) (q . 3))"
    × fails "(divmod (q . 1) (q . 2) (q . 3))" "()" WrongCount "(divmod (q . 1) (q . 2) (q . 3))"
    × fails "(ash (q . 1) (q . 2) (q . 3))" "()" WrongCount "(ash (q . 1) (q . 2) (q . 3))"
    × fails "(lsh (q . 1) (q . 2) (q . 3))" "()" WrongCount "(lsh (q . 1) (q . 2) (q . 3))"
    × fails "(r)" "()" WrongCount "(r)"
    × fails "(divmod (q . (7)) (q . 1))" "()" (WrongOperand 0) "(divmod (q 7) (q . 1))"
    × fails "(concat (q . (7)))" "()" (WrongOperand 0) "(concat (q 7))"
unfolding without_sign_bytes shortest_atom followed applied operator_of operator_named evaluation token_of word_token scanned
counts_and_places = (refl, refl, refl, refl, refl, refl, refl, refl)

-- Operands of 17 bytes, and operands before what is asked of them together.
wide_operands :
    wide "(+ (q . 0x0000000000000000000000000000000005))" "()"
    × wide "(/ (q . 5) (q . 0x0000000000000000000000000000000005))" "()"
    × wide "(divmod (q . 5) (q . 0x0000000000000000000000000000000005))" "()"
    × wide "(> (q . 5) (q . 0x0000000000000000000000000000000005))" "()"
    × wide "(lsh (q . 1) (q . 0x0000000000000000000000000000000005))" "()"
    × fails "(substr (q . 'abcd') (q . 5) (q . (7)))" "()" (WrongOperand 2) "(substr (q . 0x61626364) (q . 5) (q 7))"
    × wide "(substr (q . 'abcd') (q . 5) (q . 0x0000000000000000000000000000000005))" "()"
unfolding without_sign_bytes shortest_atom followed applied operator_of operator_named evaluation token_of word_token scanned
wide_operands = (refl, refl, refl, refl, refl, refl, refl)

-- lsh at both limits.
logical_shifts :
    gives "(lsh (q . 1) (q . -65535))" "()" "()" 321 0 8
    × gives "(lsh (q . -1) (q . -65535))" "()" "()" 321 0 8
    × wide "(lsh (q . 1) (q . 65535))" "()"
    × gives "(lsh (q . 1) (q . 126))" "()" "0x40000000000000000000000000000000" 529 0 24
    × wide "(lsh (q . 1) (q . 127))" "()"
unfolding without_sign_bytes shortest_atom followed applied operator_of operator_named evaluation token_of word_token scanned
logical_shifts = (refl, refl, refl, refl, refl)

-- Operands of 16 bytes are short enough, and any length is where bytes are asked for.
sixteen_bytes :
    gives "(substr (q . 'abcd') (q . 1) (q . 0x00000000000000000000000000000003))" "()" "25187" 62 0 10
    × gives "(- (q . 0x00000000000000000000000000000005) (q . 2))" "()" "3" 841 0 9
    × gives "(> (q . 0x00000000000000000000000000000005) (q . 2))" "()" "1" 573 0 0
    × gives "(divmod (q . 0x00000000000000000000000000000005) (q . 2))" "()" "(a . 1)" 1279 1 18
    × gives "(logand (q . 0x00000000000000000000000000000005) (q . 2))" "()" "()" 720 0 8
    × gives "(logior (q . 0x00000000000000000000000000000005) (q . 2))" "()" "7" 730 0 9
    × gives "(logxor (q . 0x00000000000000000000000000000005) (q . 2))" "()" "7" 730 0 9
    × gives "(ash (q . 0x00000000000000000000000000000005) (q . 2))" "()" "20" 698 0 9
    × gives "(ash (q . 1) (q . 0x00000000000000000000000000000005))" "()" "32" 653 0 9
    × gives "(lsh (q . 1) (q . 0x00000000000000000000000000000005))" "()" "32" 334 0 9
    × gives "(= (q . 0x0000000000000000000000000000000005) (q . 0x0000000000000000000000000000000005))" "()" "1" 192 0 0
    × gives "(>s (q . 0x0000000000000000000000000000000005) (q . 0x00000000000000000000000000000005))" "()" "()" 191 0 0
    × gives "(concat (q . 0x0000000000000000000000000000000005) (q . 1))" "()" "0x000000000000000000000000000000000501" 687 0 26
    × gives "(substr (q . 0x0000000000000000000000000000000005) (q . 16))" "()" "5" 42 0 9
unfolding without_sign_bytes shortest_atom followed applied operator_of operator_named evaluation token_of word_token scanned
sixteen_bytes = (refl, refl, refl, refl, refl, refl, refl, refl, refl, refl, refl, refl, refl, refl)

-- A cost that is enough and one that isn't, on paths with leading zero bytes, and the order of what is lacking.
short_of_fuel :
    (run "0x0002" "(5)" (with_cost 52) ≡ Done (tree "5") (with_cost 0))
    × spent "0x0002" "(5)" (with_cost 51) Cost
    × (run "0x000000" "()" (with_cost 56) ≡ Done nil (with_cost 0))
    × spent "0x000000" "()" (with_cost 55) Cost
    × (run "0x0003" "()" (with_cost 0) ≡ Failed NoStep (tree "0x0003"))
    × spent "(divmod (q . 7) (q . 2))" "()" (with_fuel 1188 0 17 1) Cost
    × spent "(divmod (q . 7) (q . 2))" "()" (with_fuel 1189 0 17 1) Pairs
    × spent "(divmod (q . 7) (q . 2))" "()" (with_fuel 1189 1 17 1) Bytes
    × (run "(divmod (q . 7) (q . 2))" "()" (with_fuel 1189 1 18 1) ≡ Done (tree "(3 . 1)") (with_fuel 0 0 0 1))
    × spent "(divmod (q . 7) (q . 2))" "()" (with_fuel 0 1 18 0) Cost
    × spent "(divmod (q . 7) (q . 2))" "()" (with_fuel 1 0 0 0) Depth
    × (run "(+ (q . 170141183460469231731687303715884105727) (q . 1))" "()" (with_cost 41) ≡ Wide)
    × spent "(+ (q . 170141183460469231731687303715884105727) (q . 1))" "()" (with_cost 40) Cost
    × (run "(/ (q . 5) (q . 0))" "()" (with_cost 41) ≡ Failed ZeroDivisor (tree "(/ (q . 5) (q . 0))"))
    × (run "(ash (q . 1) (q . 65536))" "()" (with_cost 41) ≡ Failed WrongShift (tree "(ash (q . 1) (q . 65536))"))
    × (run "(a (q . 1))" "()" (with_cost 21) ≡ Failed WrongCount (tree "(a (q . 1))"))
    × spent "(a (q + (q . 1)) 1)" "()" (with_depth 0) Depth
unfolding without_sign_bytes shortest_atom followed applied operator_of operator_named evaluation token_of word_token scanned
short_of_fuel = (refl, refl, refl, refl, refl, refl, refl, refl, refl, refl, refl, refl, refl, refl, refl, refl, refl)

-- With just enough of each count an operator gives its value, and with one less of the cost none.
just_enough :
    exactly "(i (q . ()) (q . 5) (q . 6))" "()" "6" 94 0 0
    × exactly "(c (q . 5) (q . (6)))" "()" "(f 6)" 91 1 0
    × exactly "(f (q . (5 6)))" "()" "5" 51 0 0
    × exactly "(r (q . (5 6)))" "()" "(r)" 51 0 0
    × exactly "(l (q . (5)))" "()" "1" 40 0 0
    × exactly "(= (q . 5) (q . 5))" "()" "1" 160 0 0
    × exactly "(>s (q . 2) (q . 1))" "()" "1" 160 0 0
    × exactly "(substr (q . 'abcd') (q . 1) (q . 3))" "()" "25187" 62 0 10
    × exactly "(strlen (q . ()))" "()" "()" 194 0 8
    × exactly "(concat)" "()" "()" 143 0 8
    × exactly "(+)" "()" "()" 100 0 8
    × exactly "(-)" "()" "()" 100 0 8
    × exactly "(*)" "()" "1" 103 0 9
    × exactly "(/ (q . 7) (q . 2))" "()" "3" 1047 0 9
    × exactly "(divmod (q . 7) (q . 2))" "()" "(i . 1)" 1189 1 18
    × exactly "(> (q . 2) (q . 1))" "()" "1" 543 0 0
    × exactly "(ash (q . 1) (q . 4))" "()" "16" 653 0 9
    × exactly "(lsh (q . 1) (q . 4))" "()" "16" 334 0 9
    × exactly "(logand)" "()" "-1" 111 0 9
    × exactly "(logior)" "()" "()" 101 0 8
    × exactly "(logxor)" "()" "()" 101 0 8
    × exactly "(lognot (q . 0))" "()" "-1" 362 0 9
    × exactly "(not (q . ()))" "()" "1" 221 0 0
    × exactly "(any)" "()" "()" 201 0 0
    × exactly "(all)" "()" "1" 201 0 0
unfolding without_sign_bytes shortest_atom followed applied operator_of operator_named evaluation token_of word_token scanned
just_enough = ((refl, refl), (refl, refl), (refl, refl), (refl, refl), (refl, refl), (refl, refl), (refl, refl), (refl, refl), (refl, refl), (refl, refl), (refl, refl), (refl, refl), (refl, refl), (refl, refl), (refl, refl), (refl, refl), (refl, refl), (refl, refl), (refl, refl), (refl, refl), (refl, refl), (refl, refl), (refl, refl), (refl, refl), (refl, refl))

-- With one pair less, or one byte less, there is none, either.
one_less :
    spent "(c (q . 5) (q . (6)))" "()" (with_fuel 91 0 0 1) Pairs
    × spent "(substr (q . 'abcd') (q . 1) (q . 3))" "()" (with_fuel 62 0 9 1) Bytes
    × spent "(strlen (q . ()))" "()" (with_fuel 194 0 7 1) Bytes
    × spent "(concat)" "()" (with_fuel 143 0 7 1) Bytes
    × spent "(+)" "()" (with_fuel 100 0 7 1) Bytes
    × spent "(-)" "()" (with_fuel 100 0 7 1) Bytes
    × spent "(*)" "()" (with_fuel 103 0 8 1) Bytes
    × spent "(/ (q . 7) (q . 2))" "()" (with_fuel 1047 0 8 1) Bytes
    × spent "(divmod (q . 7) (q . 2))" "()" (with_fuel 1189 0 18 1) Pairs
    × spent "(divmod (q . 7) (q . 2))" "()" (with_fuel 1189 1 17 1) Bytes
    × spent "(ash (q . 1) (q . 4))" "()" (with_fuel 653 0 8 1) Bytes
    × spent "(lsh (q . 1) (q . 4))" "()" (with_fuel 334 0 8 1) Bytes
    × spent "(logand)" "()" (with_fuel 111 0 8 1) Bytes
    × spent "(logior)" "()" (with_fuel 101 0 7 1) Bytes
    × spent "(logxor)" "()" (with_fuel 101 0 7 1) Bytes
    × spent "(lognot (q . 0))" "()" (with_fuel 362 0 8 1) Bytes
unfolding without_sign_bytes shortest_atom followed applied operator_of operator_named evaluation token_of word_token scanned
one_less = (refl, refl, refl, refl, refl, refl, refl, refl, refl, refl, refl, refl, refl, refl, refl, refl)

-- The hash of nothing.
no_text :
    gives "(sha256)" "()" "0xe3b0c44298fc1c149afbf4c8996fb92427ae41e4649b934ca495991b7852b855" 408 0 40
unfolding without_sign_bytes shortest_atom followed applied operator_of operator_named evaluation token_of word_token scanned sha256 digest_bytes hash_after compress rounds schedule first_words
no_text = refl
