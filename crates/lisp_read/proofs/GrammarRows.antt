-- Texts of which the forms, or the first fault, are known.
use Rattle.std.specs.Prelude.{◌≡◌, ℕ, List, [], ◌∷◌, ◌++◌, codes, replicate, refl}
use Prim.Native.String.{String}
use Rattle.std.specs.Fmt.{digits}
use Rattle.clvm_spec.specs.declared.scan_kind.ScanKind.{ScanKind}
use Rattle.clvm_spec.specs.declared.scan_kind.ScanKind.TheVariants.{End, Close, Dot, Hex, Number, Text, Byte, Deep}
use Rattle.clvm_spec.specs.Numbers.{shortest_atom, without_sign_bytes}
use Rattle.clvm_spec.specs.Tokens.{token_of, word_token}
use Rattle.lisp_read.specs.Forms.{Form, Atom, Symbol, Pair}
use Rattle.lisp_read.specs.Grammar.{Reads, Unreadable, forms_of}

abbrev atom : ℕ → List ℕ → Form
atom at bytes = Atom (record { text = 7; at = at }) bytes

abbrev symbol : ℕ → String → Form
symbol at name = Symbol (record { text = 7; at = at }) (codes name)

abbrev pair : ℕ → Form → Form → Form
pair at first rest = Pair (record { text = 7; at = at }) first rest

abbrev reads : String → List Form → Type 0
reads text forms = forms_of 7 (codes text) ≡ Reads forms

abbrev breaks : String → ScanKind → ℕ → Type 0
breaks text kind at = forms_of 7 (codes text) ≡ Unreadable kind at

-- ---- forms

no_forms : reads "" [] × reads " \t\r\n" [] × reads " ; (" [] × reads ";\n" []
unfolding forms_of token_of word_token
no_forms = (refl, refl, refl, refl)

-- The empty atom is written in three ways.
atoms :
    reads "()" (atom 0 [] ∷ []) × reads " 0 " (atom 1 [] ∷ []) × reads "''" (atom 0 [] ∷ []) × reads "\"\"" (atom 0 [] ∷ [])
    × reads "-0" (atom 0 [] ∷ []) × reads "00" (atom 0 [] ∷ []) × reads "-007" (atom 0 (0xf9 ∷ []) ∷ [])
    × reads "128" (atom 0 (0x00 ∷ 0x80 ∷ []) ∷ []) × reads "-1" (atom 0 (0xff ∷ []) ∷ [])
    × reads "0x0aFf" (atom 0 (0x0a ∷ 0xff ∷ []) ∷ []) × reads "0x00" (atom 0 (0 ∷ []) ∷ [])
    × reads "'a\"(;'" (atom 0 (codes "a\"(;") ∷ []) × reads "\"it's\"" (atom 0 (codes "it's") ∷ [])
    × reads "170141183460469231731687303715884105727" (atom 0 (0x7f ∷ replicate 15 0xff) ∷ [])
    × reads "-170141183460469231731687303715884105728" (atom 0 (0x80 ∷ replicate 15 0) ∷ [])
unfolding digits without_sign_bytes shortest_atom forms_of token_of word_token
atoms = (refl, refl, refl, refl, refl, refl, refl, refl, refl, refl, refl, refl, refl, refl, refl)

symbols :
    reads "-" (symbol 0 "-" ∷ []) × reads "+5" (symbol 0 "+5" ∷ []) × reads ".." (symbol 0 ".." ∷ []) × reads ".5" (symbol 0 ".5" ∷ [])
    × reads "a.b" (symbol 0 "a.b" ∷ []) × reads "--5" (symbol 0 "--5" ∷ []) × reads "-a" (symbol 0 "-a" ∷ [])
    × reads "a b;c\n  d" (symbol 0 "a" ∷ symbol 2 "b" ∷ symbol 8 "d" ∷ [])
    × reads "a'b'c" (symbol 0 "a" ∷ atom 1 (codes "b") ∷ symbol 4 "c" ∷ [])
unfolding forms_of token_of word_token
symbols = (refl, refl, refl, refl, refl, refl, refl, refl, refl)

-- A list's pairs and the empty atom that ends it have the place of its `(`. What stands behind a dot has its own.
lists :
    reads "(a b)" (pair 0 (symbol 1 "a") (pair 0 (symbol 3 "b") (atom 0 [])) ∷ [])
    × reads " (a . b)" (pair 1 (symbol 2 "a") (symbol 6 "b") ∷ [])
    × reads "(a b . c)" (pair 0 (symbol 1 "a") (pair 0 (symbol 3 "b") (symbol 7 "c")) ∷ [])
    × reads "(a . (b c))" (pair 0 (symbol 1 "a") (pair 5 (symbol 6 "b") (pair 5 (symbol 8 "c") (atom 5 []))) ∷ [])
    × reads "(a . ())" (pair 0 (symbol 1 "a") (atom 5 []) ∷ [])
    × reads "((a) ())" (pair 0 (pair 1 (symbol 2 "a") (atom 1 [])) (pair 0 (atom 5 []) (atom 0 [])) ∷ [])
    × reads "(a)(b)c" (pair 0 (symbol 1 "a") (atom 0 []) ∷ pair 3 (symbol 4 "b") (atom 3 []) ∷ symbol 6 "c" ∷ [])
unfolding forms_of token_of word_token
lists = (refl, refl, refl, refl, refl, refl, refl)

-- ---- faults

of_tokens :
    breaks "5a" Number 0 × breaks "-5a" Number 0 × breaks "-0x5" Number 0 × breaks "0X05" Number 0
    × breaks "170141183460469231731687303715884105728" Number 0 × breaks "-170141183460469231731687303715884105729" Number 0
    × breaks " 0x" Hex 1 × breaks "0x5" Hex 0 × breaks "0xg0" Hex 0 × breaks "0x0g" Hex 0
    × breaks "(a \"b" Text 3 × breaks "'a\"" Text 0 × (forms_of 7 (codes "a" ++ 0x7f ∷ []) ≡ Unreadable Byte 1) × (forms_of 7 (0 ∷ []) ≡ Unreadable Byte 0)
unfolding digits without_sign_bytes shortest_atom forms_of token_of word_token
of_tokens = (refl, refl, refl, refl, refl, refl, refl, refl, refl, refl, refl, refl, refl, refl)

of_lists :
    breaks "(" End 1 × breaks "(a ; )" End 6 × breaks "((a)" End 4 × breaks ")" Close 0 × breaks "a (b)) 0x" Close 5
    × breaks "." Dot 0 × breaks "( . a)" Dot 2 × breaks "(a .)" Dot 3 × breaks "(a . )" Dot 3 × breaks "(a ." Dot 3 × breaks "(a . b" Dot 3
    × breaks "(a . b c)" Dot 3 × breaks "(a . b . c)" Dot 3 × breaks "(a . b (c))" Dot 3 × breaks "(a . 0x5)" Dot 3 × breaks "(a . (b 0x5))" Dot 3
    × breaks "(a . (b . c d))" Dot 3 × breaks "(a . (b . 'c" Dot 3 × breaks "((a . 5a))" Dot 4 × breaks "(a (. b) . 5a)" Dot 4
unfolding forms_of token_of word_token
of_lists = (refl, refl, refl, refl, refl, refl, refl, refl, refl, refl, refl, refl, refl, refl, refl, refl, refl, refl, refl, refl)

-- 1,024 parentheses in one another are read, and one more is too deep, also behind a dot.
of_depth :
    (forms_of 7 (replicate 1024 0x28) ≡ Unreadable End 1024)
    × (forms_of 7 (replicate 1025 0x28) ≡ Unreadable Deep 1024)
    × (forms_of 7 (codes "(a . " ++ replicate 1024 0x28) ≡ Unreadable Deep 1028)
    × (forms_of 7 (codes "(a . " ++ replicate 1023 0x28) ≡ Unreadable Dot 3)
unfolding forms_of token_of word_token
of_depth = (refl, refl, refl, refl)
