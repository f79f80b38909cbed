-- Words of what is written for a history. Source: this project's own.
use Rattle.std.specs.Prelude.{ℕ, List, ◌∷◌, Option, Some, None, codes}
use Rattle.std.specs.Fmt.{decimal}
use Rattle.hex.specs.Hex.{encode_lower}
use Rattle.coin_facts.specs.declared.hash32.Hash32.{Hash32}

-- a word behind a space
abbrev pub spaced : List ℕ → List ℕ
spaced word = 32 ∷ word

-- bytes in hexadecimal
abbrev pub bytes_word : List ℕ → List ℕ
bytes_word bytes = spaced (encode_lower bytes)

abbrev pub id_word : Hash32 → List ℕ
id_word id = bytes_word id.bytes

abbrev pub number_word : ℕ → List ℕ
number_word n = spaced (decimal n)

-- the height at which a coin was spent, or `-`
abbrev pub spent_word : Option ℕ → List ℕ
spent_word None = spaced (codes "-")
spent_word (Some height) = number_word height
