-- Each operator at known operands, with its faults: the outcomes are computed by an independent program.
use Rattle.std.specs.Prelude.{refl}
use Rattle.sha2.specs.Sha256.{sha256, digest_bytes, hash_after, compress, rounds, schedule, first_words}
use Rattle.clvm_spec.specs.Outcomes.{WrongCount, WrongOperand, Raised, ZeroDivisor, WrongShift}
use Rattle.clvm_spec.specs.Numbers.{shortest_atom, without_sign_bytes}
use Rattle.clvm_spec.specs.Path.{followed}
use Rattle.clvm_spec.specs.OperatorTable.{applied, operator_of, operator_named}
use Rattle.clvm_spec.specs.Evaluation.{evaluation}
use Rattle.clvm_spec.specs.Tokens.{token_of, word_token}
use Rattle.clvm_spec.specs.Text.{scanned}
use Rattle.clvm_spec.proofs.Cases.{tree, gives, fails, wide}

-- i, c, f, r, l, x.
trees :
    gives "(i (q . ()) (q . 5) (q . 6))" "()" "6" 94 0 0
    × gives "(i (q . 0x00) (q . 5) (q . 6))" "()" "5" 94 0 0
    × gives "(i (q . (1)) (q . 5) (q . 6))" "()" "5" 94 0 0
    × fails "(i (q . 1) (q . 2))" "()" WrongCount "(i (q . 1) (q . 2))"
    × fails "(i (q . 1) (q . 2) (q . 3) (q . 4))" "()" WrongCount "(i (q . 1) (q . 2) (q . 3) (q . 4))"
    × gives "(c (q . 5) (q . (6)))" "()" "(f 6)" 91 1 0
    × gives "(c (q . 5) (q . ()))" "()" "(f)" 91 1 0
    × fails "(c (q . 5))" "()" WrongCount "(c (q . 5))"
    × fails "(c (q . 1) (q . 2) (q . 3))" "()" WrongCount "(c (q . 1) (q . 2) (q . 3))"
    × gives "(f (q . (5 6)))" "()" "5" 51 0 0
    × fails "(f (q . 5))" "()" (WrongOperand 0) "(f (q . 5))"
    × fails "(f)" "()" WrongCount "(f)"
    × fails "(f (q . (7)) (q . (7)))" "()" WrongCount "(f (q 7) (q 7))"
    × gives "(r (q . (5 6)))" "()" "(r)" 51 0 0
    × fails "(r (q . ()))" "()" (WrongOperand 0) "(r (q))"
    × fails "(r (q . (7)) (q . (7)))" "()" WrongCount "(r (q 7) (q 7))"
    × gives "(l (q . (5)))" "()" "1" 40 0 0
    × gives "(l (q . 5))" "()" "()" 40 0 0
    × fails "(l)" "()" WrongCount "(l)"
    × fails "(l (q . 1) (q . 2))" "()" WrongCount "(l (q . 1) (q . 2))"
    × fails "(x)" "()" (Raised (tree "()")) "(x)"
    × fails "(x (q . 5) (q . (6)))" "()" (Raised (tree "(f (r))")) "(x (q . 5) (q 6))"
unfolding without_sign_bytes shortest_atom followed applied operator_of operator_named evaluation token_of word_token scanned
trees = (refl, refl, refl, refl, refl, refl, refl, refl, refl, refl, refl, refl, refl, refl, refl, refl, refl, refl, refl, refl, refl, refl)

-- =, >s, substr, strlen, concat.
bytes_of_atoms :
    gives "(= (q . 5) (q . 5))" "()" "1" 160 0 0
    × gives "(= (q . 5) (q . 0x0005))" "()" "()" 161 0 0
    × gives "(= (q . ()) (q . ()))" "()" "1" 158 0 0
    × fails "(= (q . 5))" "()" WrongCount "(= (q . 5))"
    × fails "(= (q . 5) (q . (7)))" "()" (WrongOperand 1) "(= (q . 5) (q 7))"
    × fails "(= (q . (7)) (q . 5))" "()" (WrongOperand 0) "(= (q 7) (q . 5))"
    × fails "(= (q . 1) (q . 2) (q . 3))" "()" WrongCount "(= (q . 1) (q . 2) (q . 3))"
    × gives "(>s (q . 2) (q . 1))" "()" "1" 160 0 0
    × gives "(>s (q . 1) (q . 2))" "()" "()" 160 0 0
    × gives "(>s (q . 0x0101) (q . 1))" "()" "1" 161 0 0
    × gives "(>s (q . 1) (q . 0x0101))" "()" "()" 161 0 0
    × gives "(>s (q . 1) (q . 1))" "()" "()" 160 0 0
    × gives "(>s (q . 0xff) (q . 0x7fff))" "()" "1" 161 0 0
    × fails "(>s (q . (7)) (q . 1))" "()" (WrongOperand 0) "(>s (q 7) (q . 1))"
    × fails "(>s (q . 1) (q . (7)))" "()" (WrongOperand 1) "(>s (q . 1) (q 7))"
    × fails "(>s (q . 1))" "()" WrongCount "(>s (q . 1))"
    × gives "(substr (q . 'abcd') (q . 1) (q . 3))" "()" "25187" 62 0 10
    × gives "(substr (q . 'abcd') (q . 1))" "()" "0x626364" 42 0 11
    × gives "(substr (q . 'abcd') (q . 0) (q . 4))" "()" "0x61626364" 62 0 12
    × gives "(substr (q . 'abcd') (q . 4) (q . 4))" "()" "()" 62 0 8
    × gives "(substr (q . 'abcd') (q . 4))" "()" "()" 42 0 8
    × fails "(substr (q . 'abcd') (q . 5))" "()" (WrongOperand 1) "(substr (q . 0x61626364) (q . 5))"
    × fails "(substr (q . 'abcd') (q . 3) (q . 2))" "()" (WrongOperand 1) "(substr (q . 0x61626364) (q . 3) (q . 2))"
    × fails "(substr (q . 'abcd') (q . 0) (q . 5))" "()" (WrongOperand 1) "(substr (q . 0x61626364) (q) (q . 5))"
    × fails "(substr (q . 'abcd') (q . -1) (q . 2))" "()" (WrongOperand 1) "(substr (q . 0x61626364) (q . -1) (q . 2))"
    × fails "(substr (q . 'abcd') (q . 0) (q . -1))" "()" (WrongOperand 1) "(substr (q . 0x61626364) (q) (q . -1))"
    × gives "(substr (q . ()) (q . 0) (q . 0))" "()" "()" 62 0 8
    × fails "(substr (q . 'abcd'))" "()" WrongCount "(substr (q . 0x61626364))"
    × fails "(substr (q . 'abcd') (q . 1) (q . 2) (q . 3))" "()" WrongCount "(substr (q . 0x61626364) (q . 1) (q . 2) (q . 3))"
    × fails "(substr (q . (7)) (q . 1) (q . (7)))" "()" (WrongOperand 0) "(substr (q 7) (q . 1) (q 7))"
    × fails "(substr (q . 'abcd') (q . (7)) (q . 0x0000000000000000000000000000000005))" "()" (WrongOperand 1) "(substr (q . 0x61626364) (q 7) (q . 0x0000000000000000000000000000000005))"
    × wide "(substr (q . 'abcd') (q . 0x0000000000000000000000000000000005) (q . (7)))" "()"
    × fails "(substr (q . 'abcd') (q . 1) (q . (7)))" "()" (WrongOperand 2) "(substr (q . 0x61626364) (q . 1) (q 7))"
    × wide "(substr (q . 'abcd') (q . 1) (q . 0x0000000000000000000000000000000005))" "()"
    × fails "(substr (q . 'abcd') (q . 0x00000000000000000000000000000005))" "()" (WrongOperand 1) "(substr (q . 0x61626364) (q . 0x00000000000000000000000000000005))"
    × gives "(strlen (q . ()))" "()" "()" 194 0 8
    × gives "(strlen (q . 'abcd'))" "()" "4" 208 0 9
    × gives "(strlen (q . 0x61616161616161616161616161616161616161616161616161616161616161616161616161616161616161616161616161616161616161616161616161616161616161616161616161616161616161616161616161616161616161616161616161616161616161616161616161616161616161616161616161616161616161616161))" "()" "130" 344 0 10
    × fails "(strlen (q . (7)))" "()" (WrongOperand 0) "(strlen (q 7))"
    × fails "(strlen)" "()" WrongCount "(strlen)"
    × fails "(strlen (q . 1) (q . 2))" "()" WrongCount "(strlen (q . 1) (q . 2))"
    × gives "(concat)" "()" "()" 143 0 8
    × gives "(concat (q . 'ab') (q . ()) (q . 'cd'))" "()" "0x61626364" 660 0 12
    × fails "(concat (q . 1) (q . (7)) (q . (1)))" "()" (WrongOperand 1) "(concat (q . 1) (q 7) (q 1))"
unfolding without_sign_bytes shortest_atom followed applied operator_of operator_named evaluation token_of word_token scanned
bytes_of_atoms = (refl, refl, refl, refl, refl, refl, refl, refl, refl, refl, refl, refl, refl, refl, refl, refl, refl, refl, refl, refl, refl, refl, refl, refl, refl, refl, refl, refl, refl, refl, refl, refl, refl, refl, refl, refl, refl, refl, refl, refl, refl, refl, refl, refl)

-- +, -, >.
sums :
    gives "(+)" "()" "()" 100 0 8
    × gives "(+ (q . 5))" "()" "5" 453 0 9
    × gives "(+ (q . 5) (q . -7))" "()" "-2" 796 0 9
    × gives "(+ (q . 0x0005) (q . 1))" "()" "6" 799 0 9
    × wide "(+ (q . 170141183460469231731687303715884105727) (q . 1))" "()"
    × wide "(+ (q . 170141183460469231731687303715884105727) (q . 1) (q . -1))" "()"
    × wide "(+ (q . -170141183460469231731687303715884105728) (q . -1))" "()"
    × gives "(+ (q . 170141183460469231731687303715884105727) (q . -170141183460469231731687303715884105728))" "()" "-1" 886 0 9
    × wide "(+ (q . 0x0000000000000000000000000000000005) (q . (7)))" "()"
    × fails "(+ (q . (7)) (q . 0x0000000000000000000000000000000005))" "()" (WrongOperand 0) "(+ (q 7) (q . 0x0000000000000000000000000000000005))"
    × fails "(+ (q . 1) (q . (7)))" "()" (WrongOperand 1) "(+ (q . 1) (q 7))"
    × gives "(+ (q . 0x00000000000000000000000000000005))" "()" "5" 498 0 9
    × gives "(-)" "()" "()" 100 0 8
    × gives "(- (q . 5))" "()" "5" 453 0 9
    × gives "(- (q . 5) (q . 7))" "()" "-2" 796 0 9
    × gives "(- (q . 5) (q . 1) (q . 1))" "()" "3" 1139 0 9
    × wide "(- (q . -170141183460469231731687303715884105728) (q . 1))" "()"
    × wide "(- (q . 0) (q . -170141183460469231731687303715884105728))" "()"
    × wide "(- (q . 0) (q . -170141183460469231731687303715884105728) (q . 1))" "()"
    × fails "(- (q . (7)))" "()" (WrongOperand 0) "(- (q 7))"
    × fails "(- (q . 1) (q . (7)))" "()" (WrongOperand 1) "(- (q . 1) (q 7))"
    × wide "(- (q . 1) (q . 0x0000000000000000000000000000000005))" "()"
    × gives "(> (q . 2) (q . 1))" "()" "1" 543 0 0
    × gives "(> (q . 1) (q . 2))" "()" "()" 543 0 0
    × gives "(> (q . 1) (q . 1))" "()" "()" 543 0 0
    × gives "(> (q . 0) (q . -1))" "()" "1" 541 0 0
    × gives "(> (q . -2) (q . -1))" "()" "()" 543 0 0
    × gives "(> (q . 0x0002) (q . 1))" "()" "1" 545 0 0
    × fails "(> (q . 1))" "()" WrongCount "(> (q . 1))"
    × fails "(> (q . (7)) (q . 1))" "()" (WrongOperand 0) "(> (q 7) (q . 1))"
    × fails "(> (q . 1) (q . (7)))" "()" (WrongOperand 1) "(> (q . 1) (q 7))"
    × wide "(> (q . 0x0000000000000000000000000000000005) (q . 1))" "()"
unfolding without_sign_bytes shortest_atom followed applied operator_of operator_named evaluation token_of word_token scanned
sums = (refl, refl, refl, refl, refl, refl, refl, refl, refl, refl, refl, refl, refl, refl, refl, refl, refl, refl, refl, refl, refl, refl, refl, refl, refl, refl, refl, refl, refl, refl, refl, refl)

-- *, /, divmod.
products :
    gives "(*)" "()" "1" 103 0 9
    × gives "(* (q . 5))" "()" "5" 123 0 9
    × gives "(* (q . 5) (q . -7))" "()" "-35" 1040 0 9
    × gives "(* (q . 0x0005) (q . 0x000002))" "()" "10" 1058 0 9
    × gives "(* (q . 1000) (q . 1000) (q . 1000))" "()" "0x3b9aca00" 2017 0 12
    × gives "(* (q . 0) (q . 5))" "()" "()" 1024 0 8
    × gives "(* (q . 170141183460469231731687303715884105727) (q . 1))" "()" "0x7fffffffffffffffffffffffffffffff" 1280 0 24
    × wide "(* (q . 170141183460469231731687303715884105727) (q . 2))" "()"
    × wide "(* (q . 170141183460469231731687303715884105727) (q . 2) (q . 0))" "()"
    × wide "(* (q . -170141183460469231731687303715884105728) (q . -1))" "()"
    × gives "(* (q . 0x7fffffffffffffffffffffffffffffff) (q . 0x00000000000000000000000000000001))" "()" "0x7fffffffffffffffffffffffffffffff" 1372 0 24
    × fails "(* (q . 1) (q . (7)))" "()" (WrongOperand 1) "(* (q . 1) (q 7))"
    × fails "(* (q . (7)) (q . 1))" "()" (WrongOperand 0) "(* (q 7) (q . 1))"
    × wide "(* (q . 0x0000000000000000000000000000000005) (q . (7)))" "()"
    × gives "(/ (q . 7) (q . 2))" "()" "3" 1047 0 9
    × gives "(/ (q . -7) (q . 2))" "()" "-4" 1047 0 9
    × gives "(/ (q . 7) (q . -2))" "()" "-4" 1047 0 9
    × gives "(/ (q . -7) (q . -2))" "()" "3" 1047 0 9
    × gives "(/ (q . 6) (q . -2))" "()" "-3" 1047 0 9
    × gives "(/ (q . -6) (q . 2))" "()" "-3" 1047 0 9
    × gives "(/ (q . 0) (q . -5))" "()" "()" 1033 0 8
    × gives "(/ (q . 0) (q . 5))" "()" "()" 1033 0 8
    × gives "(/ (q . -1) (q . 5))" "()" "-1" 1047 0 9
    × gives "(/ (q . 1) (q . -5))" "()" "-1" 1047 0 9
    × fails "(/ (q . 5) (q . 0))" "()" ZeroDivisor "(/ (q . 5) (q))"
    × fails "(/ (q . 5) (q . 0x0000))" "()" ZeroDivisor "(/ (q . 5) (q . 0x0000))"
    × wide "(/ (q . -170141183460469231731687303715884105728) (q . -1))" "()"
    × gives "(/ (q . -170141183460469231731687303715884105728) (q . 1))" "()" "0x80000000000000000000000000000000" 1257 0 24
    × gives "(/ (q . 170141183460469231731687303715884105727) (q . -1))" "()" "0x80000000000000000000000000000001" 1257 0 24
    × fails "(/ (q . 1))" "()" WrongCount "(/ (q . 1))"
    × fails "(/ (q . 1) (q . 2) (q . 3))" "()" WrongCount "(/ (q . 1) (q . 2) (q . 3))"
    × fails "(/ (q . (7)) (q . 0))" "()" (WrongOperand 0) "(/ (q 7) (q))"
    × fails "(/ (q . 1) (q . (7)))" "()" (WrongOperand 1) "(/ (q . 1) (q 7))"
    × wide "(/ (q . 0x0000000000000000000000000000000005) (q . 0))" "()"
    × gives "(divmod (q . 7) (q . 2))" "()" "(i . 1)" 1189 1 18
    × gives "(divmod (q . -7) (q . 2))" "()" "(-4 . 1)" 1189 1 18
    × gives "(divmod (q . 7) (q . -2))" "()" "(-4 . -1)" 1189 1 18
    × gives "(divmod (q . -7) (q . -2))" "()" "(i . -1)" 1189 1 18
    × gives "(divmod (q . 0) (q . 3))" "()" "(())" 1163 1 16
    × gives "(divmod (q . 6) (q . 3))" "()" "(a)" 1179 1 17
    × fails "(divmod (q . 5) (q . 0))" "()" ZeroDivisor "(divmod (q . 5) (q))"
    × wide "(divmod (q . -170141183460469231731687303715884105728) (q . -1))" "()"
    × fails "(divmod (q . 1))" "()" WrongCount "(divmod (q . 1))"
    × fails "(divmod (q . 1) (q . (7)))" "()" (WrongOperand 1) "(divmod (q . 1) (q 7))"
    × wide "(divmod (q . 0x0000000000000000000000000000000005) (q . 1))" "()"
unfolding without_sign_bytes shortest_atom followed applied operator_of operator_named evaluation token_of word_token scanned
products = (refl, refl, refl, refl, refl, refl, refl, refl, refl, refl, refl, refl, refl, refl, refl, refl, refl, refl, refl, refl, refl, refl, refl, refl, refl, refl, refl, refl, refl, refl, refl, refl, refl, refl, refl, refl, refl, refl, refl, refl, refl, refl, refl, refl, refl)

-- ash, lsh.
shifts :
    gives "(ash (q . 1) (q . 4))" "()" "16" 653 0 9
    × gives "(ash (q . -1) (q . 4))" "()" "-16" 653 0 9
    × gives "(ash (q . -7) (q . -1))" "()" "-4" 653 0 9
    × gives "(ash (q . 7) (q . -1))" "()" "3" 653 0 9
    × gives "(ash (q . 1) (q . -65535))" "()" "()" 640 0 8
    × gives "(ash (q . -1) (q . -65535))" "()" "-1" 653 0 9
    × fails "(ash (q . 1) (q . -65536))" "()" WrongShift "(ash (q . 1) (q . 0xff0000))"
    × gives "(ash (q . 0) (q . 65535))" "()" "()" 637 0 8
    × fails "(ash (q . 0) (q . 65536))" "()" WrongShift "(ash (q) (q . 0x010000))"
    × wide "(ash (q . 1) (q . 65535))" "()"
    × gives "(ash (q . 1) (q . 126))" "()" "0x40000000000000000000000000000000" 848 0 24
    × wide "(ash (q . 1) (q . 127))" "()"
    × gives "(ash (q . -1) (q . 127))" "()" "0x80000000000000000000000000000000" 848 0 24
    × wide "(ash (q . -1) (q . 128))" "()"
    × gives "(ash (q . 0x0001) (q . 0))" "()" "1" 656 0 9
    × fails "(ash (q . 1))" "()" WrongCount "(ash (q . 1))"
    × fails "(ash (q . (7)) (q . 1))" "()" (WrongOperand 0) "(ash (q 7) (q . 1))"
    × fails "(ash (q . 1) (q . (7)))" "()" (WrongOperand 1) "(ash (q . 1) (q 7))"
    × wide "(ash (q . 0x0000000000000000000000000000000005) (q . 1))" "()"
    × wide "(ash (q . 1) (q . 0x0000000000000000000000000000000005))" "()"
    × gives "(lsh (q . 1) (q . 4))" "()" "16" 334 0 9
    × gives "(lsh (q . -1) (q . 4))" "()" "4080" 347 0 10
    × gives "(lsh (q . -1) (q . -1))" "()" "127" 334 0 9
    × gives "(lsh (q . 0xffffffffffffffffffffffffffffffff) (q . -1))" "()" "0x7fffffffffffffffffffffffffffffff" 574 0 24
    × wide "(lsh (q . 0xffffffffffffffffffffffffffffffff) (q . 0))" "()"
    × wide "(lsh (q . 0x80000000000000000000000000000000) (q . 0))" "()"
    × gives "(lsh (q . 0x80000000000000000000000000000000) (q . -1))" "()" "0x40000000000000000000000000000000" 574 0 24
    × fails "(lsh (q . 1) (q . -65536))" "()" WrongShift "(lsh (q . 1) (q . 0xff0000))"
    × fails "(lsh (q . 1) (q . 65536))" "()" WrongShift "(lsh (q . 1) (q . 0x010000))"
    × gives "(lsh (q . 0) (q . 65535))" "()" "()" 318 0 8
    × gives "(lsh (q . 0x0001) (q . 0))" "()" "1" 337 0 9
    × fails "(lsh (q . (7)) (q . 1))" "()" (WrongOperand 0) "(lsh (q 7) (q . 1))"
    × fails "(lsh (q . 1) (q . (7)))" "()" (WrongOperand 1) "(lsh (q . 1) (q 7))"
    × wide "(lsh (q . 0x0000000000000000000000000000000005) (q . 1))" "()"
    × fails "(lsh (q . 1))" "()" WrongCount "(lsh (q . 1))"
unfolding without_sign_bytes shortest_atom followed applied operator_of operator_named evaluation token_of word_token scanned
shifts = (refl, refl, refl, refl, refl, refl, refl, refl, refl, refl, refl, refl, refl, refl, refl, refl, refl, refl, refl, refl, refl, refl, refl, refl, refl, refl, refl, refl, refl, refl, refl, refl, refl, refl, refl)

-- logand, logior, logxor, lognot, not, any, all.
bits_and_truth :
    gives "(logand)" "()" "-1" 111 0 9
    × gives "(logand (q . 12) (q . 10))" "()" "8" 685 0 9
    × gives "(logand (q . -1) (q . 0x00ff))" "()" "255" 698 0 10
    × gives "(logand (q . -256) (q . -1))" "()" "-256" 698 0 10
    × fails "(logand (q . (7)))" "()" (WrongOperand 0) "(logand (q 7))"
    × wide "(logand (q . 1) (q . 0x0000000000000000000000000000000005))" "()"
    × gives "(logior)" "()" "()" 101 0 8
    × gives "(logior (q . 12) (q . 10))" "()" "14" 685 0 9
    × gives "(logior (q . -256) (q . 1))" "()" "-255" 698 0 10
    × fails "(logior (q . 1) (q . (7)))" "()" (WrongOperand 1) "(logior (q . 1) (q 7))"
    × wide "(logior (q . 0x0000000000000000000000000000000005))" "()"
    × gives "(logxor)" "()" "()" 101 0 8
    × gives "(logxor (q . 12) (q . 10))" "()" "6" 685 0 9
    × gives "(logxor (q . -1) (q . 1))" "()" "-2" 685 0 9
    × fails "(logxor (q . (7)))" "()" (WrongOperand 0) "(logxor (q 7))"
    × wide "(logxor (q . 0x0000000000000000000000000000000005))" "()"
    × gives "(lognot (q . 0))" "()" "-1" 362 0 9
    × gives "(lognot (q . 5))" "()" "-6" 365 0 9
    × gives "(lognot (q . -1))" "()" "()" 355 0 8
    × gives "(lognot (q . 170141183460469231731687303715884105727))" "()" "0x80000000000000000000000000000000" 560 0 24
    × gives "(lognot (q . 0x0005))" "()" "-6" 368 0 9
    × fails "(lognot)" "()" WrongCount "(lognot)"
    × fails "(lognot (q . (7)))" "()" (WrongOperand 0) "(lognot (q 7))"
    × wide "(lognot (q . 0x0000000000000000000000000000000005))" "()"
    × fails "(lognot (q . 1) (q . 2))" "()" WrongCount "(lognot (q . 1) (q . 2))"
    × gives "(not (q . ()))" "()" "1" 221 0 0
    × gives "(not (q . 5))" "()" "()" 221 0 0
    × gives "(not (q . (7)))" "()" "()" 221 0 0
    × gives "(not (q . 0x00))" "()" "()" 221 0 0
    × fails "(not)" "()" WrongCount "(not)"
    × fails "(not (q . 1) (q . 2))" "()" WrongCount "(not (q . 1) (q . 2))"
    × gives "(any)" "()" "()" 201 0 0
    × gives "(any (q . ()) (q . ()))" "()" "()" 841 0 0
    × gives "(any (q . ()) (q . 5))" "()" "1" 841 0 0
    × gives "(any (q . (1)) (q . ()))" "()" "1" 841 0 0
    × gives "(all)" "()" "1" 201 0 0
    × gives "(all (q . 1) (q . (2)))" "()" "1" 841 0 0
    × gives "(all (q . 1) (q . ()))" "()" "()" 841 0 0
unfolding without_sign_bytes shortest_atom followed applied operator_of operator_named evaluation token_of word_token scanned
bits_and_truth = (refl, refl, refl, refl, refl, refl, refl, refl, refl, refl, refl, refl, refl, refl, refl, refl, refl, refl, refl, refl, refl, refl, refl, refl, refl, refl, refl, refl, refl, refl, refl, refl, refl, refl, refl, refl, refl, refl)

-- sha256. The digests are of the standard.
hashes :
    gives "(sha256 (q . 'abc'))" "()" "0xba7816bf8f01cfea414140de5dae2223b00361a396177a9cb410ff61f20015ad" 568 0 40
    × gives "(sha256 (q . 'a') (q . 'bc'))" "()" "0xba7816bf8f01cfea414140de5dae2223b00361a396177a9cb410ff61f20015ad" 722 0 40
    × gives "(sha256 (q . 0x0000000000000000000000000000000005))" "()" "0x94e6c67630c0b5fd9b3aee76be2b21ce49b1aa285055ce81cffe8bab8053af77" 596 0 40
    × fails "(sha256 (q . (7)) (q . 1))" "()" (WrongOperand 0) "(sha256 (q 7) (q . 1))"
    × fails "(sha256 (q . 1) (q . (7)))" "()" (WrongOperand 1) "(sha256 (q . 1) (q 7))"
unfolding without_sign_bytes shortest_atom followed applied operator_of operator_named evaluation token_of word_token scanned sha256 digest_bytes hash_after compress rounds schedule first_words
hashes = (refl, refl, refl, refl, refl)
