-- Text at known trees and texts: the outcomes are computed by an independent program.
use Rattle.std.specs.Prelude.{◌≡◌, ℕ, zero, suc, true, false, List, [], ◌∷◌, codes, refl}
use Prim.Native.String.{String}
use Rattle.std.specs.Fmt.{digits}
use Rattle.hex.specs.Hex.{encode_with}
use Rattle.clvm_spec.specs.declared.scan_kind.ScanKind.{ScanKind}
use Rattle.clvm_spec.specs.declared.scan_kind.ScanKind.TheVariants.{End, Close, Dot, Hex, Number, Text, Byte, Deep}
use Rattle.clvm_spec.specs.Tree.{Tree, Pair, nil}
use Rattle.clvm_spec.specs.Reading.{head_at, tree_at_front}
use Rattle.clvm_spec.specs.Numbers.{shortest_atom, without_sign_bytes}
use Rattle.clvm_spec.specs.OperatorTable.{operator_of, operator_named}
use Rattle.clvm_spec.specs.Tokens.{token_of, word_token}
use Rattle.clvm_spec.specs.Text.{Scans, Unreadable, Unnamed, LeftOver, scanned, printed}
use Rattle.clvm_spec.specs.TextLaws.{nests_within}
use Rattle.clvm_spec.proofs.Cases.{spelled}

abbrev prints : String → String → Type 0
prints spelling text = printed (spelled spelling) ≡ codes text

abbrev scans : String → String → Type 0
scans text spelling = scanned (codes text) ≡ Scans (spelled spelling)

abbrev unreadable : String → ScanKind → ℕ → Type 0
unreadable text kind place = scanned (codes text) ≡ Unreadable kind place

abbrev unnamed : String → ℕ → Type 0
unnamed text place = scanned (codes text) ≡ Unnamed place

abbrev left_over : String → ℕ → Type 0
left_over text place = scanned (codes text) ≡ LeftOver place

-- Names stand at the front of lists alone. Short numbers are decimal, other atoms hexadecimal.
printing :
    prints "ff02ffff0102ff0180" "(a (q . 2) 1)"
    × prints "80" "()"
    × prints "02" "2"
    × prints "ff0280" "(a)"
    × prints "ff80ff80ff0280" "(() () 2)"
    × prints "ff0105" "(q . 5)"
    × prints "00" "0x00"
    × prints "820001" "0x0001"
    × prints "8200ff" "255"
    × prints "820080" "128"
    × prints "8180" "-128"
    × prints "81ff" "-1"
    × prints "83ffffff" "0xffffff"
    × prints "83010000" "0x010000"
    × prints "827fff" "32767"
    × prints "828000" "-32768"
    × prints "82ff7f" "-129"
    × prints "82ff80" "0xff80"
    × prints "ff0fff1fff2380" "(15 31 35)"
    × prints "ffff1080ff1010" "((+) 16 . 16)"
    × prints "ff0dff0cff0eff0bff0a80" "(strlen 12 14 11 10)"
    × prints "8a00112233445566778899" "0x00112233445566778899"
    × prints "ff82ffff80" "(0xffff)"
    × prints "ff81ff80" "(-1)"
    × prints "ff0502" "(f . 2)"
unfolding encode_with digits without_sign_bytes shortest_atom operator_of operator_named token_of word_token scanned head_at tree_at_front
printing = (refl, refl, refl, refl, refl, refl, refl, refl, refl, refl, refl, refl, refl, refl, refl, refl, refl, refl, refl, refl, refl, refl, refl, refl, refl)

-- What the texts of trees give, and other spellings of them.
scanning :
    scans "(a (q . 2) 1)" "ff02ffff0102ff0180"
    × scans "()" "80"
    × scans "0" "80"
    × scans "-0" "80"
    × scans "007" "07"
    × scans "-1" "81ff"
    × scans "128" "820080"
    × scans "255" "8200ff"
    × scans "-129" "82ff7f"
    × scans "''" "80"
    × scans "'a(b'" "83612862"
    × scans "\"it's\"" "8469742773"
    × scans "0x0Aff" "820aff"
    × scans "0x00" "00"
    × scans "+" "10"
    × scans "( + 2 ; two\n 3 )" "ff10ff02ff0380"
    × scans "\t(\r\n)\n" "80"
    × scans ";\n5" "05"
    × scans "(1 . 2)" "ff0102"
    × scans "(1 2 . 3)" "ff01ff0203"
    × scans "(1 . (2 3))" "ff01ff02ff0380"
    × scans "(1 . ())" "ff0180"
    × scans "(sha256 substr)" "ff0bff0c80"
    × scans "(> >s = - / *)" "ff15ff0aff09ff11ff13ff1280"
    × scans "170141183460469231731687303715884105727" "907fffffffffffffffffffffffffffffff"
    × scans "-170141183460469231731687303715884105728" "9080000000000000000000000000000000"
    × scans "(1'a'5)" "ff01ff61ff0580"
unfolding encode_with digits without_sign_bytes shortest_atom operator_of operator_named token_of word_token scanned head_at tree_at_front
scanning = (refl, refl, refl, refl, refl, refl, refl, refl, refl, refl, refl, refl, refl, refl, refl, refl, refl, refl, refl, refl, refl, refl, refl, refl, refl, refl, refl)

-- The first fault from the front, at its place.
faults :
    unreadable "" End 0
    × unreadable "  " End 2
    × unreadable "; c" End 3
    × unreadable "(" End 1
    × unreadable "(1" End 2
    × unreadable "(1 " End 3
    × unreadable ")" Close 0
    × left_over "(1))" 3
    × left_over "()(" 2
    × left_over "1 2" 2
    × left_over "1 )" 2
    × left_over "1 ." 2
    × unreadable "1 0x" Hex 2
    × unreadable "1 \"" Text 2
    × unreadable ". 1" Dot 0
    × unreadable "(. 1)" Dot 1
    × unreadable "(1 ." Dot 3
    × unreadable "(1 . )" Dot 3
    × unreadable "(1 . 2" Dot 3
    × unreadable "(1 . 2 3)" Dot 3
    × unreadable "(1 . 2 . 3)" Dot 3
    × unreadable "(1 . 0x5)" Dot 3
    × unreadable "(1 . (2 0x5))" Dot 3
    × unreadable "(1 . (2 . ))" Dot 3
    × unnamed "(1 . foo)" 5
    × unreadable "(1 . foo 0x5)" Dot 3
    × unnamed "(foo 0x5)" 1
    × unnamed "foo" 0
    × unnamed "foo )" 0
    × unreadable "(0x5 foo)" Hex 1
    × unreadable "0x" Hex 0
    × unreadable "0x1" Hex 0
    × unreadable "0xg0" Hex 0
    × unreadable "0X00" Number 0
    × unreadable "5a" Number 0
    × unreadable "-5a" Number 0
    × unreadable "-0x5" Number 0
    × unnamed "--5" 0
    × scans "-" "11"
    × unnamed ".a" 0
    × unnamed ".." 0
    × unreadable "170141183460469231731687303715884105728" Number 0
    × unreadable "-170141183460469231731687303715884105729" Number 0
    × unreadable "'a" Text 0
    × unreadable "\"a'" Text 0
    × unreadable "(1 \"" Text 3
    × unreadable "é" Byte 0
    × unreadable "1é" Byte 1
    × unnamed "a.b" 0
    × unnamed "q.1" 0
unfolding encode_with digits without_sign_bytes shortest_atom operator_of operator_named token_of word_token scanned head_at tree_at_front
faults = (refl, refl, refl, refl, refl, refl, refl, refl, refl, refl, refl, refl, refl, refl, refl, refl, refl, refl, refl, refl, refl, refl, refl, refl, refl, refl, refl, refl, refl, refl, refl, refl, refl, refl, refl, refl, refl, refl, refl, refl, refl, refl, refl, refl, refl, refl, refl, refl, refl, refl)

more_texts :
    (scanned (0x27 ∷ 0xc3 ∷ 0xa9 ∷ 0x27 ∷ []) ≡ Scans (spelled "82c3a9"))
    × scans "5 ;é" "05"
    × unnamed "~" 0
    × unnamed "!" 0
    × unnamed "+5" 0
    × unreadable "0x12." Hex 0
    × unnamed "(foo . 0x5)" 1
    × unreadable "(1 . (foo" Dot 3
    × left_over "1 foo" 2
    × unnamed "((1 . foo) 0x5)" 6
    × unreadable "(1 . (foo . 0x5))" Dot 3
    × unreadable "((1 . foo 2) 5)" Dot 4
    × unnamed "(foo (1 . ))" 1
    × unnamed "((5 foo) . (bar" 4
    × unnamed "(1 . foo) 0x5" 5
unfolding encode_with digits without_sign_bytes shortest_atom operator_of operator_named token_of word_token scanned head_at tree_at_front
more_texts = (refl, refl, refl, refl, refl, refl, refl, refl, refl, refl, refl, refl, refl, refl, refl)

-- 1,024 lists in one another are read, and one more is too deep, also behind a dot.
opening : ℕ → List ℕ → List ℕ
opening zero text = text
opening (suc n) text = 0x28 ∷ opening n text

closing : ℕ → List ℕ
closing zero = []
closing (suc n) = 0x29 ∷ closing n

nested : ℕ → Tree
nested zero = nil
nested (suc n) = Pair (nested n) nil

depths :
    (scanned (opening 1024 (closing 1024)) ≡ Scans (nested 1023))
    × (scanned (opening 1025 (closing 1025)) ≡ Unreadable Deep 1024)
    × (scanned (opening 1024 (codes "1 . ()")) ≡ Unreadable Deep 1028)
    × (scanned (opening 1024 (codes "foo")) ≡ Unnamed 1024)
    × (scanned (printed (nested 1023)) ≡ Scans (nested 1023))
    × (scanned (printed (nested 1024)) ≡ Unreadable Deep 1024)
    × (scanned (opening 1022 (codes "(1 . (foo ())")) ≡ Unnamed 1028)
    × (scanned (opening 1022 (codes "(1 . (+ ())")) ≡ Unreadable Deep 1030)
    × (scanned (0x61 ∷ 0x7f ∷ []) ≡ Unreadable Byte 1)
    × (scanned (0x01 ∷ []) ≡ Unreadable Byte 0)
unfolding encode_with digits without_sign_bytes shortest_atom operator_of operator_named token_of word_token scanned head_at tree_at_front opening closing nested
depths = (refl, refl, refl, refl, refl, refl, refl, refl, refl, refl)

-- No more parentheses are open at once than so many.
nestings :
    (nests_within 0 (codes "5") ≡ true)
    × (nests_within 1 (codes "(1 2 3)") ≡ true)
    × (nests_within 1 (codes "() () ()") ≡ true)
    × (nests_within 0 (codes "()") ≡ false)
    × (nests_within 2 (codes "(a (q . 2) 1)") ≡ true)
    × (nests_within 1 (codes "(a (q . 2) 1)") ≡ false)
    × (nests_within 1024 (printed (nested 1023)) ≡ true)
    × (nests_within 1024 (printed (nested 1024)) ≡ false)
unfolding nested operator_of shortest_atom without_sign_bytes digits encode_with
nestings = (refl, refl, refl, refl, refl, refl, refl, refl)
