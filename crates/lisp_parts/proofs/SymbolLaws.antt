-- The symbols of a text are of ASCII characters.
use Rattle.std.proofs.Common.{◌≡◌, ℕ, suc, ◌+◌, Bool, true, false, ◌&&◌, cond, List, [], ◌∷◌, take, drop, Option, Some, None, Result, Ok, Err, refl, sym, ap, ◌∙◌, subst, arith}
use Rattle.std.specs.Prelude.{option_map, ℤ, bytes_eq, codes, nat_lt, not, ◌==◌, ◌||◌, length}
use Rattle.std.specs.Str.Parse.{signed_digits_value}
use Rattle.clvm_spec.specs.declared.scan_kind.ScanKind.TheVariants as scan
use Rattle.clvm_spec.specs.Arithmetic.{fits_128}
use Rattle.clvm_spec.specs.Numbers.{shortest_atom}
use Rattle.std.specs.List.{list_all, prefix_len}
use Rattle.std.proofs.lemmas.Bool.Decides.{nat_tests}
use Rattle.hex.specs.Hex.{decode_of}
use Rattle.hex.specs.declared.error.FromHexError.{FromHexError}
use Rattle.clvm_spec.specs.declared.scan_kind.ScanKind.{ScanKind}
use Rattle.clvm_spec.specs.Tokens as tokens
use Rattle.clvm_spec.specs.Tokens.{Token, Opening, Closing, Point, Literal, Front, Took, Unread, AtEnd, is_word_byte, number_token, hex_literal, hex_token, from_symbol, from_digit, from_hex, word_token, word_front, word_at, quoted_of, quoted, at_word, at_quote, at_closing, at_opening, at_front, token_of}
use Rattle.lisp_read.specs.Laws.{IsPlaced, ArePlaced}
use Rattle.lisp_read.specs.Grammar.{Reads, forms_of}
use Rattle.lisp_read.proofs.PlaceLaws.{places_law}
use Rattle.lisp_spec.specs.Forms.{Form, Atom, Symbol, Pair}
use Rattle.lisp_read.specs.FormLists.{form_elements}
use Rattle.lisp_spec.specs.Definitions.{is_ascii}
use Rattle.lisp_parts.specs.Symbols.{IsAsciiName, HasAsciiSymbols, HaveAsciiSymbols}

byte_is_ascii : (b : ℕ) → is_word_byte b ≡ true → is_ascii b ≡ true
byte_is_ascii b e = grind (arith, nat_tests, e)

both : (a b : Bool) → a ≡ true → b ≡ true → (a && b) ≡ true
both a b e f = ap (λ t. t && b) e ∙ f

word_is_ascii : (bytes : List ℕ) → IsAsciiName (take (prefix_len is_word_byte bytes) bytes)
word_is_ascii [] = refl
word_is_ascii (b ∷ bytes) = by (is_word_byte b) refl (word_is_ascii bytes)
  where
    by : (t : Bool) → is_word_byte b ≡ t → IsAsciiName (take (prefix_len is_word_byte bytes) bytes) → IsAsciiName (take (cond t (1 + prefix_len is_word_byte bytes) 0) (b ∷ bytes))
    by true e more =
        let one : 1 + prefix_len is_word_byte bytes ≡ suc (prefix_len is_word_byte bytes) = omega arith in
        subst (λ n. IsAsciiName (take n (b ∷ bytes))) (sym one) (both (is_ascii b) (list_all is_ascii (take (prefix_len is_word_byte bytes) bytes)) (byte_is_ascii b e) more)
    by false e more = refl

-- a symbol is its word
abbrev IsWordOf : List ℕ → Result Token ScanKind → Type 0
IsWordOf word (Ok Opening) = Unit {0}
IsWordOf word (Ok Closing) = Unit {0}
IsWordOf word (Ok Point) = Unit {0}
IsWordOf word (Ok (Literal bytes)) = Unit {0}
IsWordOf word (Ok (tokens.Symbol name)) = name ≡ word
IsWordOf word (Err kind) = Unit {0}

either : (word : List ℕ) (b : Bool) (x y : Result Token ScanKind) → IsWordOf word x → IsWordOf word y → IsWordOf word (cond b x y)
either word true x y p q = p
either word false x y p q = q

hex_is_word : (word : List ℕ) (decoded : Result (List ℕ) FromHexError) → IsWordOf word (hex_literal decoded)
hex_is_word word (Ok bytes) = tt
hex_is_word word (Err why) = tt

digits_are_word : (word digits : List ℕ) → IsWordOf word (hex_token digits)
digits_are_word word [] = tt
digits_are_word word (b ∷ digits) = hex_is_word word (decode_of (b ∷ digits))

number_is_word : (word : List ℕ) (n : ℤ) → IsWordOf word (number_token n)
number_is_word word n = either word (fits_128 n) (Ok (Literal (shortest_atom n))) (Err scan.Number) tt tt

symbol_is_word : (word : List ℕ) → IsWordOf word (from_symbol word)
symbol_is_word word = either word (bytes_eq word (codes ".")) (Ok Point) (Ok (tokens.Symbol word)) tt refl

other_is_word : (word : List ℕ) → IsWordOf word (from_digit word)
other_is_word word = either word (tokens.begins_with_digit (tokens.without_minus word)) (Err scan.Number) (from_symbol word) tt (symbol_is_word word)

hexadecimal_is_word : (word : List ℕ) → IsWordOf word (from_hex word)
hexadecimal_is_word word = either word (bytes_eq (take 2 word) (codes "0x")) (hex_token (drop 2 word)) (from_digit word) (digits_are_word word (drop 2 word)) (other_is_word word)

token_is_word : (word : List ℕ) → IsWordOf word (word_token word)
unfolding word_token
token_is_word word =
    either word (tokens.is_number (tokens.without_minus word)) (number_token (signed_digits_value 10 word)) (from_hex word)
    (number_is_word word (signed_digits_value 10 word)) (hexadecimal_is_word word)

-- the symbol at the front, if one stands there
abbrev IsAsciiFront : Front → Type 0
IsAsciiFront (Took Opening from rest) = Unit {0}
IsAsciiFront (Took Closing from rest) = Unit {0}
IsAsciiFront (Took Point from rest) = Unit {0}
IsAsciiFront (Took (Literal bytes) from rest) = Unit {0}
IsAsciiFront (Took (tokens.Symbol name) from rest) = IsAsciiName name
IsAsciiFront (Unread kind from) = Unit {0}
IsAsciiFront AtEnd = Unit {0}

one_front : (b : Bool) (x y : Front) → IsAsciiFront x → IsAsciiFront y → IsAsciiFront (cond b x y)
one_front true x y p q = p
one_front false x y p q = q

front_of_word : (bytes : List ℕ) (size : ℕ) (word : List ℕ) (found : Result Token ScanKind) → IsAsciiName word → IsWordOf word found → IsAsciiFront (word_front bytes size found)
front_of_word bytes size word (Ok Opening) a w = tt
front_of_word bytes size word (Ok Closing) a w = tt
front_of_word bytes size word (Ok Point) a w = tt
front_of_word bytes size word (Ok (Literal b)) a w = tt
front_of_word bytes size word (Ok (tokens.Symbol name)) a w = subst IsAsciiName (sym w) a
front_of_word bytes size word (Err kind) a w = tt

front_of_text : (quote size : ℕ) (bytes : List ℕ) → IsAsciiFront (quoted_of quote size bytes)
front_of_text quote size bytes = one_front (nat_lt size (length bytes)) (Took (Literal (take size bytes)) (quote ∷ bytes) (drop (suc size) bytes)) (Unread scan.Text (quote ∷ bytes)) tt tt

front_at_word : (b : ℕ) (bytes : List ℕ) → IsAsciiFront (at_word b bytes)
front_at_word b bytes =
    let size = prefix_len is_word_byte (b ∷ bytes) in
    let word = take size (b ∷ bytes) in
    one_front (tokens.is_plain b) (word_at (b ∷ bytes)) (Unread scan.Byte (b ∷ bytes))
    (front_of_word (b ∷ bytes) size word (word_token word) (word_is_ascii (b ∷ bytes)) (token_is_word word)) tt

front_at_quote : (b : ℕ) (bytes : List ℕ) → IsAsciiFront (at_quote b bytes)
front_at_quote b bytes = one_front (b == 0x22 || b == 0x27) (quoted b bytes) (at_word b bytes) (front_of_text b (prefix_len (λ c. not (c == b)) bytes) bytes) (front_at_word b bytes)

front_is_ascii : (bytes : List ℕ) → IsAsciiFront (at_front bytes)
front_is_ascii [] = tt
front_is_ascii (b ∷ bytes) =
    one_front (b == 0x28) (Took Opening (b ∷ bytes) bytes) (at_closing b bytes) tt
    (one_front (b == 0x29) (Took Closing (b ∷ bytes) bytes) (at_quote b bytes) tt (front_at_quote b bytes))

token_is_ascii : (text : List ℕ) → IsAsciiFront (token_of text)
unfolding token_of
token_is_ascii text = front_is_ascii (tokens.without_blanks false text)

placed_is_ascii : (number : ℕ) (text : List ℕ) (form : Form) → IsPlaced number text form → HasAsciiSymbols form
placed_is_ascii number text (Atom place bytes) p = tt
placed_is_ascii number text (Symbol place name) p = subst IsAsciiFront p.stands.1 (token_is_ascii (drop place.at text))
placed_is_ascii number text (Pair place first rest) p = (placed_is_ascii number text first p.1, placed_is_ascii number text rest p.2)

all_ascii : (number : ℕ) (text : List ℕ) (forms : List Form) → ArePlaced number text forms → HaveAsciiSymbols forms
all_ascii number text [] p = tt
all_ascii number text (form ∷ forms) p = (placed_is_ascii number text form p.0, all_ascii number text forms p.1)

pub symbols_are_ascii : (number : ℕ) (text : List ℕ) (forms : List Form) → forms_of number text ≡ Reads forms → HaveAsciiSymbols forms
symbols_are_ascii number text forms e = all_ascii number text forms (places_law number text forms e)

-- the elements of a list have the list's symbols
with_first : (first : Form) (more : Option (List Form)) (elements : List Form) → ((others : List Form) → more ≡ Some others → HaveAsciiSymbols others) → HasAsciiSymbols first →
    option_map (λ m. first ∷ m) more ≡ Some elements → HaveAsciiSymbols elements
with_first first None elements h a e = absurd cc
with_first first (Some others) elements h a e = let same : first ∷ others ≡ elements = cc in subst HaveAsciiSymbols same (a, h others refl)

pub elements_are_ascii : (list : Form) (elements : List Form) → HasAsciiSymbols list → form_elements list ≡ Some elements → HaveAsciiSymbols elements
elements_are_ascii (Atom place []) elements a e = let same : [] ≡ elements = cc in subst HaveAsciiSymbols same tt
elements_are_ascii (Atom place (b ∷ bytes)) elements a e = absurd cc
elements_are_ascii (Symbol place name) elements a e = absurd cc
elements_are_ascii (Pair place first rest) elements a e = with_first first (form_elements rest) elements (λ others f. elements_are_ascii rest others a.1 f) a.0 e
