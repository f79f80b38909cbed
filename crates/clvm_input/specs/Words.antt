-- What a CLVM word is: the hexadecimal of exactly one spelled tree, with no blank around it. Source: this project's own.
use Rattle.std.specs.Prelude.{ℕ, Bool, List, [], ◌∷◌, length, sum_by, nat_le, Option, Some, None, option_map, option_and_then, if◌then◌else◌}
use Rattle.clvm_spec.specs.Spelled.{most_spelled, if_spelled}
use Rattle.clvm_input.specs.Texts.{bytes_of}

-- the bytes that a word stands for, where it is a CLVM word
abbrev pub word_of : List ℕ → Option (List ℕ)
word_of word = option_and_then if_spelled (bytes_of word)

-- ---- several words

-- the bytes that each stands for, where each is a CLVM word
abbrev pub each_of : List (List ℕ) → Option (List (List ℕ))
each_of [] = Some []
each_of (word ∷ words) = option_and_then (λ bytes. option_map (λ later. bytes ∷ later) (each_of words)) (word_of word)

-- together no more bytes than one may have
abbrev pub are_few : List (List ℕ) → Bool
are_few words = nat_le (sum_by length words) most_spelled

abbrev pub if_few : List (List ℕ) → Option (List (List ℕ))
if_few words = if are_few words then Some words else None

-- the same, where they are not too many
abbrev pub words_of : List (List ℕ) → Option (List (List ℕ))
words_of words = option_and_then if_few (each_of words)
