-- The bytes that a CLVM input or a CLVM word stands for: hexadecimal. Source: this project's own.
use Rattle.std.specs.Prelude.{ℕ, List, [], ◌∷◌, drop, reverse, Option, if◌then◌else◌}
use Rattle.std.specs.Result.{result_ok}
use Rattle.hex.specs.Hex.{decode_of}
use Rattle.clvm_spec.specs.Tokens.{is_separator, has_hex_mark}

abbrev pub without_front_blanks : List ℕ → List ℕ
without_front_blanks [] = []
without_front_blanks (b ∷ bytes) = if is_separator b then without_front_blanks bytes else b ∷ bytes

abbrev pub without_end_blanks : List ℕ → List ℕ
without_end_blanks text = reverse (without_front_blanks (reverse text))

-- without the blanks at both ends
abbrev pub trimmed : List ℕ → List ℕ
trimmed text = without_end_blanks (without_front_blanks text)

-- without an optional `0x` in front
abbrev pub digits_of : List ℕ → List ℕ
digits_of text = if has_hex_mark text then drop 2 text else text

-- the bytes of hexadecimal digits in either case
abbrev pub bytes_of : List ℕ → Option (List ℕ)
bytes_of text = result_ok (decode_of (digits_of text))
