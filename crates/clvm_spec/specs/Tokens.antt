-- The tokens of a text, of CLVM's and of Chialisp's. Source: Chialisp reference; that an odd number of digits behind
-- `0x` or none is refused, the width of numbers, and the faults, are this project's own.
use Rattle.std.specs.Prelude.{ℕ, suc, ◌==◌, ℤ, Bool, true, false, not, ◌&&◌, ◌||◌, List, [], ◌∷◌, length, take, drop, bytes_eq, codes, nat_lt, nat_le, if◌then◌else◌, Result, Ok, Err}
use Rattle.std.specs.List.{prefix_len}
use Rattle.std.specs.Char.{is_ascii_digit}
use Rattle.std.specs.Str.{all_ascii_digits}
use Rattle.std.specs.Str.Parse.{signed_digits_value}
use Rattle.hex.specs.Hex.{decode_of, decode_pairs}
use Rattle.hex.specs.declared.error.FromHexError.{FromHexError}
use Rattle.clvm_spec.specs.declared.scan_kind.ScanKind.{ScanKind}
use Rattle.clvm_spec.specs.declared.scan_kind.ScanKind.TheVariants.{Hex, Number, Text, Byte}
use Rattle.clvm_spec.specs.Numbers.{shortest_atom}
use Rattle.clvm_spec.specs.Arithmetic.{fits_128}

pub data Token : Type 0 where
  -- ( and )
  Opening : Token
  Closing : Token
  -- a lone dot
  Point : Token
  -- the atom of a number, of `0x` and digits, or of a quoted text
  Literal : List ℕ → Token
  Symbol : List ℕ → Token

-- what stands at the front of a text
pub data Front : Type 0 where
  -- a token, the text from its first byte on, and the text behind it
  Took : (token : Token) (from rest : List ℕ) → Front
  -- No token can be read. The text from the place of the fault on.
  Unread : (kind : ScanKind) (from : List ℕ) → Front
  AtEnd : Front

-- ---- bytes

-- space, tab, CR and LF
abbrev pub is_separator : ℕ → Bool
is_separator b = b == 0x20 || b == 0x09 || b == 0x0d || b == 0x0a

-- 21 to 7e: other bytes stand in texts and comments alone, or separate
abbrev pub is_plain : ℕ → Bool
is_plain b = nat_le 0x21 b && nat_le b 0x7e

-- ( and )
abbrev pub is_opening : ℕ → Bool
is_opening b = b == 0x28

abbrev pub is_closing : ℕ → Bool
is_closing b = b == 0x29

-- `;`
abbrev pub begins_comment : ℕ → Bool
begins_comment b = b == 0x3b

abbrev pub ends_comment : ℕ → Bool
ends_comment b = b == 0x0a

-- `"` and `'`
abbrev pub is_quote : ℕ → Bool
is_quote b = b == 0x22 || b == 0x27

abbrev pub is_mark : ℕ → Bool
is_mark b = is_opening b || is_closing b || begins_comment b || is_quote b

abbrev pub is_word_byte : ℕ → Bool
is_word_byte b = is_plain b && not (is_mark b)

-- The text from its first byte on that is no separator and in no comment. `;` begins a comment, up to LF.
abbrev pub without_blanks : Bool → List ℕ → List ℕ
without_blanks in_comment [] = []
without_blanks true (b ∷ bytes) = without_blanks (not (ends_comment b)) bytes
without_blanks false (b ∷ bytes) = if is_separator b || begins_comment b then without_blanks (begins_comment b) bytes else b ∷ bytes

-- ---- numbers

abbrev pub without_minus : List ℕ → List ℕ
without_minus [] = []
without_minus (b ∷ bytes) = if b == 0x2d then bytes else b ∷ bytes

abbrev pub is_number : List ℕ → Bool
is_number [] = false
is_number (b ∷ digits) = all_ascii_digits (b ∷ digits)

-- the number that digits write behind a minus or none
abbrev pub word_number : List ℕ → ℤ
word_number word = signed_digits_value 10 word

abbrev pub number_token : ℤ → Result Token ScanKind
number_token n = if fits_128 n then Ok (Literal (shortest_atom n)) else Err Number

-- ---- hexadecimal digits, in either case

abbrev pub hex_literal : Result (List ℕ) FromHexError → Result Token ScanKind
hex_literal (Ok bytes) = Ok (Literal bytes)
hex_literal (Err why) = Err Hex

-- at least two digits
abbrev pub hex_token : List ℕ → Result Token ScanKind
hex_token [] = Err Hex
hex_token (b ∷ digits) = hex_literal (decode_of (b ∷ digits))

-- ---- words

abbrev pub begins_with_digit : List ℕ → Bool
begins_with_digit [] = false
begins_with_digit (b ∷ bytes) = is_ascii_digit b

abbrev pub from_symbol : List ℕ → Result Token ScanKind
from_symbol word = if bytes_eq word (codes ".") then Ok Point else Ok (Symbol word)

abbrev pub from_digit : List ℕ → Result Token ScanKind
from_digit word = if begins_with_digit (without_minus word) then Err Number else from_symbol word

abbrev pub hex_mark : List ℕ
hex_mark = codes "0x"

abbrev pub has_hex_mark : List ℕ → Bool
has_hex_mark word = bytes_eq (take 2 word) hex_mark

abbrev pub from_hex : List ℕ → Result Token ScanKind
from_hex word = if has_hex_mark word then hex_token (drop 2 word) else from_digit word

-- what a word is: a number, bytes behind `0x`, a dot or a symbol
unfoldable pub word_token : List ℕ → Result Token ScanKind
unfolding decode_pairs
word_token word = if is_number (without_minus word) then number_token (word_number word) else from_hex word

-- ---- the token at the front

abbrev pub word_front : List ℕ → ℕ → Result Token ScanKind → Front
word_front bytes size (Ok token) = Took token bytes (drop size bytes)
word_front bytes size (Err kind) = Unread kind bytes

-- how many bytes the word at the front has
abbrev pub word_size : List ℕ → ℕ
word_size bytes = prefix_len is_word_byte bytes

abbrev pub word_at : List ℕ → Front
word_at bytes = let size = word_size bytes in word_front bytes size (word_token (take size bytes))

-- a text between two quotes of one kind, without escapes
abbrev pub quoted_of : ℕ → ℕ → List ℕ → Front
quoted_of quote size bytes = if nat_lt size (length bytes) then Took (Literal (take size bytes)) (quote ∷ bytes) (drop (suc size) bytes) else Unread Text (quote ∷ bytes)

-- how many bytes stand before the next quote of this kind
abbrev pub quoted_size : ℕ → List ℕ → ℕ
quoted_size quote bytes = prefix_len (λ b. not (b == quote)) bytes

abbrev pub quoted : ℕ → List ℕ → Front
quoted quote bytes = quoted_of quote (quoted_size quote bytes) bytes

abbrev pub at_word : ℕ → List ℕ → Front
at_word b bytes = if is_plain b then word_at (b ∷ bytes) else Unread Byte (b ∷ bytes)

abbrev pub at_quote : ℕ → List ℕ → Front
at_quote b bytes = if is_quote b then quoted b bytes else at_word b bytes

abbrev pub at_closing : ℕ → List ℕ → Front
at_closing b bytes = if is_closing b then Took Closing (b ∷ bytes) bytes else at_quote b bytes

abbrev pub at_opening : ℕ → List ℕ → Front
at_opening b bytes = if is_opening b then Took Opening (b ∷ bytes) bytes else at_closing b bytes

abbrev pub at_front : List ℕ → Front
at_front [] = AtEnd
at_front (b ∷ bytes) = at_opening b bytes

unfoldable pub token_of : List ℕ → Front
token_of text = at_front (without_blanks false text)
