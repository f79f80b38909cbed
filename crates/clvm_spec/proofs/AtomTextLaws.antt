-- What is printed of an atom is one word, and its token is that atom's.
use Rattle.std.proofs.Common.{◌≡◌, ℕ, zero, suc, ◌+◌, ◌*◌, ◌-◌, ◌/◌, ◌%◌, ◌^◌, ◌<◌, ◌≤◌, ◌==◌, ℤ, pos, negsuc, neg_ℤ, Bool, true, false, cond, ◌&&◌, nat_lt, nat_le, List, [], ◌∷◌, ◌++◌, length, map, Option, None, Some, Ok, Err, refl, sym, ◌∙◌, ap, subst, arith}
use Rattle.std.specs.Prelude.{bytes_eq, codes, find, slice_index}
use Rattle.std.specs.List.{list_all}
use Rattle.std.specs.Fmt.{decimal, digits, signed_decimal}
use Rattle.std.specs.Str.{all_ascii_digits}
use Rattle.std.specs.Char.{is_ascii_digit, digit_value}
use Rattle.std.specs.Str.Parse.{digits_value, digits_value_after, signed_digits_value}
use Rattle.hex.specs.Hex.{IsBytes, lower_digits, encode_with, encode_lower, decode_of}
use Rattle.hex.proofs.HexLemmas.{decode_of-encode_lower}
use Rattle.std.specs.Int.Digits.{AllBelowBase, digits_of, number_from_digits_after}
use Rattle.std.proofs.lemmas.Int.Digits.{all_below_base_digits_of, number_digits_of}
use Rattle.std.proofs.lemmas.Fmt.{decimal-digits_of}
use Rattle.std.proofs.lemmas.Bool.Decides.{nat_tests}
use Rattle.std.proofs.lemmas.Slice.Eq.{bytes_eq-Decides}
use Rattle.std.proofs.lemmas.Bool.{and_parts}
use Rattle.clvm_spec.specs.declared.scan_kind.ScanKind.TheVariants.{Number}
use Rattle.clvm_spec.specs.Tree.{Atom}
use Rattle.clvm_spec.specs.Numbers.{number, unsigned, shortest_atom}
use Rattle.clvm_spec.specs.Arithmetic.{fits_128}
use Rattle.clvm_spec.specs.OperatorTable.{Operator, operators, operator_of, operator_named}
use Rattle.clvm_spec.specs.Tokens.{Token, Literal, Symbol, Took, is_word_byte, without_minus, is_number, number_token, hex_literal, word_token}
use Rattle.clvm_spec.specs.Text.{is_decimal, atom_text, name_or_text, head_text, Named, Names, named, clvm}
use Rattle.clvm_spec.specs.Grammar.{Parses, InList, form_at}

-- the text is a word whose token is that of the atom
pub record IsWordOf (atom text : List ℕ) : Type 0 where
  pub word : list_all is_word_byte text ≡ true
  pub some : 0 < length text
  pub token : Token
  pub token_is : word_token text ≡ Ok token
  pub form : (list : InList Named (List ℕ)) (depth : ℕ) (from rest : List ℕ) → form_at clvm list depth (Took token from rest) ≡ Parses (Names (Atom atom)) rest

literal_word : (atom text : List ℕ) → list_all is_word_byte text ≡ true → 0 < length text → word_token text ≡ Ok (Literal atom) → IsWordOf atom text
literal_word atom text w s e = record { word = w; some = s; token = Literal atom; token_is = e; form = λ list depth from rest. refl }

-- ---- hexadecimal

-- A digit stands in a word.
hex_digit : (d : ℕ) → d < 16 → is_word_byte (slice_index lower_digits d) ≡ true
hex_digit zero h = refl
hex_digit (suc zero) h = refl
hex_digit (suc (suc zero)) h = refl
hex_digit (suc (suc (suc zero))) h = refl
hex_digit (suc (suc (suc (suc zero)))) h = refl
hex_digit (suc (suc (suc (suc (suc zero))))) h = refl
hex_digit (suc (suc (suc (suc (suc (suc zero)))))) h = refl
hex_digit (suc (suc (suc (suc (suc (suc (suc zero))))))) h = refl
hex_digit (suc (suc (suc (suc (suc (suc (suc (suc zero)))))))) h = refl
hex_digit (suc (suc (suc (suc (suc (suc (suc (suc (suc zero))))))))) h = refl
hex_digit (suc (suc (suc (suc (suc (suc (suc (suc (suc (suc zero)))))))))) h = refl
hex_digit (suc (suc (suc (suc (suc (suc (suc (suc (suc (suc (suc zero))))))))))) h = refl
hex_digit (suc (suc (suc (suc (suc (suc (suc (suc (suc (suc (suc (suc zero)))))))))))) h = refl
hex_digit (suc (suc (suc (suc (suc (suc (suc (suc (suc (suc (suc (suc (suc zero))))))))))))) h = refl
hex_digit (suc (suc (suc (suc (suc (suc (suc (suc (suc (suc (suc (suc (suc (suc zero)))))))))))))) h = refl
hex_digit (suc (suc (suc (suc (suc (suc (suc (suc (suc (suc (suc (suc (suc (suc (suc zero))))))))))))))) h = refl
hex_digit (suc (suc (suc (suc (suc (suc (suc (suc (suc (suc (suc (suc (suc (suc (suc (suc d)))))))))))))))) h = absurd (omega arith)

hex_is_word : (bytes : List ℕ) → AllBelowBase 256 bytes → list_all is_word_byte (encode_lower bytes) ≡ true
unfolding encode_with
hex_is_word [] h = refl
hex_is_word (b ∷ bytes) h = let below = h.0 in rw (hex_digit (b / 16) (omega arith), hex_digit (b % 16) (omega arith), hex_is_word bytes h.1) refl

are_bytes : (bytes : List ℕ) → AllBelowBase 256 bytes → IsBytes bytes
are_bytes [] h i = omega arith
are_bytes (b ∷ bytes) h zero = h.0
are_bytes (b ∷ bytes) h (suc i) = are_bytes bytes h.1 i

hex_word_token : (b c : ℕ) (digits bytes : List ℕ) → decode_of (b ∷ c ∷ digits) ≡ Ok bytes → word_token (0x30 ∷ 0x78 ∷ b ∷ c ∷ digits) ≡ Ok (Literal bytes)
unfolding word_token
hex_word_token b c digits bytes e = ap hex_literal e

hex_word : (b : ℕ) (bytes : List ℕ) → AllBelowBase 256 (b ∷ bytes) → IsWordOf (b ∷ bytes) (codes "0x" ++ encode_lower (b ∷ bytes))
unfolding encode_with
hex_word b bytes h =
    literal_word (b ∷ bytes) (codes "0x" ++ encode_lower (b ∷ bytes)) (hex_is_word (b ∷ bytes) h) (omega arith)
    (hex_word_token (slice_index lower_digits (b / 16)) (slice_index lower_digits (b % 16)) (encode_lower bytes) (b ∷ bytes) (decode_of-encode_lower (b ∷ bytes) (are_bytes (b ∷ bytes) h)))

-- ---- decimal

-- A word of digits: each of its bytes stands in a word, none is a sign, and it writes the number.
abbrev AreDigits : List ℕ → ℕ → Type 0
AreDigits text n = (list_all is_word_byte text ≡ true) × (is_number text ≡ true) × (without_minus text ≡ text) × (signed_digits_value 10 text ≡ pos n) × (digits_value 10 text ≡ n) × (0 < length text)

digit_byte : (d : ℕ) → d < 10 → (is_word_byte (48 + d) ≡ true) × (is_ascii_digit (48 + d) ≡ true) × ((48 + d == 0x2d) ≡ false) × ((48 + d == 0x2b) ≡ false) × (digit_value (48 + d) ≡ d)
digit_byte zero h = (refl, refl, refl, refl, refl)
digit_byte (suc zero) h = (refl, refl, refl, refl, refl)
digit_byte (suc (suc zero)) h = (refl, refl, refl, refl, refl)
digit_byte (suc (suc (suc zero))) h = (refl, refl, refl, refl, refl)
digit_byte (suc (suc (suc (suc zero)))) h = (refl, refl, refl, refl, refl)
digit_byte (suc (suc (suc (suc (suc zero))))) h = (refl, refl, refl, refl, refl)
digit_byte (suc (suc (suc (suc (suc (suc zero)))))) h = (refl, refl, refl, refl, refl)
digit_byte (suc (suc (suc (suc (suc (suc (suc zero))))))) h = (refl, refl, refl, refl, refl)
digit_byte (suc (suc (suc (suc (suc (suc (suc (suc zero)))))))) h = (refl, refl, refl, refl, refl)
digit_byte (suc (suc (suc (suc (suc (suc (suc (suc (suc zero))))))))) h = (refl, refl, refl, refl, refl)
digit_byte (suc (suc (suc (suc (suc (suc (suc (suc (suc (suc d)))))))))) h = absurd (omega arith)

digits_are : (high : ℕ) (ds : List ℕ) → AllBelowBase 10 ds → (list_all is_word_byte (map (λ d. 48 + d) ds) ≡ true) × (all_ascii_digits (map (λ d. 48 + d) ds) ≡ true) × (digits_value_after 10 high (map (λ d. 48 + d) ds) ≡ number_from_digits_after 10 high ds)
digits_are high [] h = (refl, refl, refl)
digits_are high (d ∷ ds) h =
    let byte = digit_byte d h.0 in
    let more = digits_are (high * 10 + d) ds h.1 in (
      rw (byte.0, more.0) refl,
      rw (byte.1, more.1) refl,
      ap (λ n. digits_value_after 10 (high * 10 + n) (map (λ d. 48 + d) ds)) byte.4 ∙ more.2,
    )

-- without a sign
signed_is : (d : ℕ) (text : List ℕ) (n : ℕ) → d < 10 → digits_value 10 ((48 + d) ∷ text) ≡ n → signed_digits_value 10 ((48 + d) ∷ text) ≡ pos n
signed_is d text n h e = let byte = digit_byte d h in rw (byte.2, byte.3) (ap pos e)

digits_word : (n : ℕ) (ds : List ℕ) → AllBelowBase 10 ds → number_from_digits_after 10 0 ds ≡ n → 0 < n → AreDigits (map (λ d. 48 + d) ds) n
digits_word n [] h e some = absurd (omega (arith, e, some))
digits_word n (d ∷ ds) h e some =
    let byte = digit_byte d h.0 in
    let read = digits_are 0 (d ∷ ds) h in
    (read.0, read.1, rw byte.2 refl, signed_is d (map (λ d. 48 + d) ds) n h.0 (read.2 ∙ e), read.2 ∙ e, omega arith)

decimal_word : (n : ℕ) → n < 2 ^ 64 → AreDigits (decimal n) n
unfolding digits
decimal_word zero small = (refl, refl, refl, refl, refl, omega arith)
decimal_word (suc n) small =
    subst (λ text. AreDigits text (suc n)) (sym (decimal-digits_of (suc n) (omega arith) small))
    (digits_word (suc n) (digits_of 10 (suc n)) (all_below_base_digits_of 10 (suc n) (omega arith)) (number_digits_of 10 (suc n) (omega arith)) (omega arith))

word_pos : (n : ℕ) (text : List ℕ) → AreDigits text n → word_token text ≡ number_token (pos n)
unfolding word_token
word_pos n text h = rw (h.2, h.1, h.3) refl

word_neg : (n : ℕ) (text : List ℕ) → AreDigits text n → word_token (0x2d ∷ text) ≡ number_token (neg_ℤ (pos n))
unfolding word_token
word_neg n text h = rw (h.1, h.4) refl

abbrev IsSmall : ℤ → Type 0
IsSmall (pos n) = n < 2 ^ 32
IsSmall (negsuc n) = n < 2 ^ 32

small_fits : (z : ℤ) → IsSmall z → fits_128 z ≡ true
small_fits (pos n) h = grind (arith, nat_tests)
small_fits (negsuc n) h = grind (arith, nat_tests)

token_of_number : (z : ℤ) → fits_128 z ≡ true → number_token z ≡ Ok (Literal (shortest_atom z))
token_of_number z e = ap (λ t. cond t (Ok (Literal (shortest_atom z))) (Err Number)) e

signed_word : (atom : List ℕ) (z : ℤ) → IsSmall z → shortest_atom z ≡ atom → IsWordOf atom (signed_decimal z)
signed_word atom (pos n) h e =
    let word = decimal_word n (omega (arith, h)) in
    literal_word atom (decimal n) word.0 word.5 (word_pos n (decimal n) word ∙ token_of_number (pos n) (small_fits (pos n) h) ∙ ap (λ a. Ok (Literal a)) e)
signed_word atom (negsuc n) h e =
    let word = decimal_word (suc n) (omega (arith, h)) in
    literal_word atom (0x2d ∷ decimal (suc n)) word.0 (omega arith)
    (word_neg (suc n) (decimal (suc n)) word ∙ token_of_number (negsuc n) (small_fits (negsuc n) h) ∙ ap (λ a. Ok (Literal a)) e)

small_if : (test : Bool) (a b : ℕ) → a < 2 ^ 32 → b < 2 ^ 32 → IsSmall (cond test (pos a) (negsuc b))
small_if true a b ha hb = ha
small_if false a b ha hb = hb

small_number : (bytes : List ℕ) → AllBelowBase 256 bytes → nat_le (length bytes) 2 ≡ true → IsSmall (number bytes)
small_number [] h e = omega arith
small_number (b ∷ []) h e = let below = h.0 in small_if (nat_lt b 0x80) (unsigned (b ∷ [])) (unsigned ((255 - b) ∷ [])) (omega arith) (omega arith)
small_number (b ∷ c ∷ []) h e =
    let below = h.0 in let below' = h.1.0 in
    small_if (nat_lt b 0x80) (unsigned (b ∷ c ∷ [])) (unsigned ((255 - b) ∷ (255 - c) ∷ [])) (omega arith) (omega arith)
small_number (b ∷ c ∷ d ∷ bytes) h e = let short : length (b ∷ c ∷ d ∷ bytes) ≤ 2 = grind (arith, nat_tests) in absurd (omega arith)

number_word : (bytes : List ℕ) → AllBelowBase 256 bytes → is_decimal bytes ≡ true → IsWordOf bytes (signed_decimal (number bytes))
number_word bytes h e =
    signed_word bytes (number bytes) (small_number bytes h (and_parts (nat_le (length bytes) 2) (bytes_eq (shortest_atom (number bytes)) bytes) e).0)
    ((bytes_eq-Decides (shortest_atom (number bytes)) bytes).0 (and_parts (nat_le (length bytes) 2) (bytes_eq (shortest_atom (number bytes)) bytes) e).1)

word_if : (atom : List ℕ) (test : Bool) (a b : List ℕ) → (test ≡ true → IsWordOf atom a) → IsWordOf atom b → IsWordOf atom (cond test a b)
word_if atom true a b ha hb = ha refl
word_if atom false a b ha hb = hb

-- What is printed of an atom that isn't nil is its word.
pub atom_word : (b : ℕ) (bytes : List ℕ) → AllBelowBase 256 (b ∷ bytes) → IsWordOf (b ∷ bytes) (atom_text (b ∷ bytes))
atom_word b bytes h =
    word_if (b ∷ bytes) (is_decimal (b ∷ bytes)) (signed_decimal (number (b ∷ bytes))) (codes "0x" ++ encode_lower (b ∷ bytes)) (number_word (b ∷ bytes) h) (hex_word b bytes h)

-- ---- names

abbrev NameIsWord : Operator → Type 0
NameIsWord row = (list_all is_word_byte row.name ≡ true) × (0 < length row.name) × (word_token row.name ≡ Ok (Symbol row.name)) × (operator_named row.name ≡ Some row)

abbrev NamesAreWords : List Operator → Type 0
NamesAreWords [] = Unit {0}
NamesAreWords (row ∷ rows) = NameIsWord row × NamesAreWords rows

names_are_words : NamesAreWords operators
unfolding word_token operator_named
names_are_words = ((refl, omega arith, refl, refl), ((refl, omega arith, refl, refl), ((refl, omega arith, refl, refl), ((refl, omega arith, refl, refl), ((refl, omega arith, refl, refl), ((refl, omega arith, refl, refl), ((refl, omega arith, refl, refl), ((refl, omega arith, refl, refl), ((refl, omega arith, refl, refl), ((refl, omega arith, refl, refl), ((refl, omega arith, refl, refl), ((refl, omega arith, refl, refl), ((refl, omega arith, refl, refl), ((refl, omega arith, refl, refl), ((refl, omega arith, refl, refl), ((refl, omega arith, refl, refl), ((refl, omega arith, refl, refl), ((refl, omega arith, refl, refl), ((refl, omega arith, refl, refl), ((refl, omega arith, refl, refl), ((refl, omega arith, refl, refl), ((refl, omega arith, refl, refl), ((refl, omega arith, refl, refl), ((refl, omega arith, refl, refl), ((refl, omega arith, refl, refl), ((refl, omega arith, refl, refl), ((refl, omega arith, refl, refl), ((refl, omega arith, refl, refl), ((refl, omega arith, refl, refl), tt)))))))))))))))))))))))))))))

-- what is found by its code, and that it has this code
found_name : (code : ℕ) (rows : List Operator) (row : Operator) → NamesAreWords rows → find (λ row. row.code == code) rows ≡ Some row → NameIsWord row × (row.code ≡ code)
found_name code [] row h e = cc
found_name code (first ∷ rows) row h e =
    elim (first.code == code) as (λ t. (first.code == code) ≡ t → cond t (Some first) (find (λ row. row.code == code) rows) ≡ Some row → NameIsWord row × (row.code ≡ code)) [
      | true ↦ (λ t f. let same : first ≡ row = some_same first row f in (subst NameIsWord same h.0, sym (ap (λ (r : Operator). r.code) same) ∙ code_same t))
      | false ↦ (λ t f. found_name code rows row h.1 f)
    ] refl e
  where
    some_same : (a b : Operator) → Some a ≡ Some b → a ≡ b
    some_same a b e = cc

    code_same : (first.code == code) ≡ true → first.code ≡ code
    code_same t = grind (arith, nat_tests)

operator_name : (code : ℕ) (row : Operator) → operator_of code ≡ Some row → NameIsWord row × (row.code ≡ code)
unfolding operator_of
operator_name code row e = found_name code operators row names_are_words e

name_word : (code : ℕ) (row : Operator) → operator_of code ≡ Some row → IsWordOf (code ∷ []) row.name
name_word code row e =
    let h = operator_name code row e in
    record {
      word = h.0.0;
      some = h.0.1;
      token = Symbol row.name;
      token_is = h.0.2;
      form = λ list depth from rest. ap (λ o. Parses (named from o) rest) h.0.3 ∙ ap (λ c. Parses (Names (Atom (c ∷ []))) rest) h.1;
    }

by_name : (code : ℕ) (found : Option Operator) → AllBelowBase 256 (code ∷ []) → operator_of code ≡ found → IsWordOf (code ∷ []) (name_or_text found (code ∷ []))
by_name code None h e = atom_word code [] h
by_name code (Some row) h e = name_word code row e

-- the same of the first element of a list
pub head_word : (b : ℕ) (bytes : List ℕ) → AllBelowBase 256 (b ∷ bytes) → IsWordOf (b ∷ bytes) (head_text (b ∷ bytes))
head_word b [] h = by_name b (operator_of b) h refl
head_word b (c ∷ bytes) h = atom_word b (c ∷ bytes) h
