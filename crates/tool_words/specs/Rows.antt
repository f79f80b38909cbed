-- What the words behind a command's name say. This project's own.
use Rattle.std.specs.Prelude.{ℕ, Bool, true, not, ◌==◌, ◌&&◌, List, [], ◌∷◌, length, Option, Some, None, option_map, option_and_then, if◌then◌else◌, nat_le, bytes_eq}
use Rattle.std.specs.List.{list_any, list_all, before_first, after_first}
use Rattle.std.specs.Char.{is_ascii_digit}
use Rattle.tool_words.specs.declared.limits.TheConstants.{MOST_DIGITS}

abbrev pub Text : Type 0
Text = List ℕ

-- What stands behind a command's name: its flags and its numbers, each by its name without hyphens, and the least and the
-- most of other words.
pub record Row : Type 0 where
  pub flags : List Text
  pub numbers : List Text
  pub least : ℕ
  pub most : ℕ

-- what a word is that isn't the value of the option before it
pub data Sort : Type 0 where
  Flag : Text → Sort
  -- the name of a number, and its value behind an equals sign
  Number : Text → Text → Sort
  -- the name of a number, whose value is the next word
  Opening : Text → Sort
  Other : Text → Sort
  -- it begins with a hyphen, and is no option of the row
  Wrong : Sort

-- what stands behind a hyphen
abbrev pub behind_hyphen : Text → Option Text
behind_hyphen [] = None
behind_hyphen (byte ∷ bytes) = if byte == 45 then Some bytes else None

abbrev pub is_equals_sign : ℕ → Bool
is_equals_sign byte = byte == 61

abbrev pub name_in : Text → Text
name_in text = before_first is_equals_sign text

abbrev pub value_in : Text → Option Text
value_in text = if list_any is_equals_sign text then Some (after_first is_equals_sign text) else None

abbrev pub is_among : List Text → Text → Bool
is_among names name = list_any (λ other. bytes_eq other name) names

abbrev pub option_of : Row → Text → Option Text → Sort
option_of row name None = if is_among row.flags name then Flag name else (if is_among row.numbers name then Opening name else Wrong)
option_of row name (Some value) = if is_among row.numbers name then Number name value else Wrong

-- a word by what stands behind its first two hyphens
abbrev pub hyphened : Row → Option Text → Sort
hyphened row None = Wrong
hyphened row (Some text) = option_of row (name_in text) (value_in text)

-- a word by what stands behind its first hyphen
abbrev pub sorted : Row → Text → Option Text → Sort
sorted row word None = Other word
sorted row word (Some rest) = hyphened row (behind_hyphen rest)

abbrev pub sort_of : Row → Text → Sort
sort_of row word = sorted row word (behind_hyphen word)

-- what the words say one after the other
pub data Item : Type 0 where
  IsFlag : Text → Item
  IsNumber : Text → Text → Item
  IsOther : Text → Item

-- the number that waits for its value behind a word
abbrev pub waits : Sort → Option Text
waits (Opening name) = Some name
waits _ = None

-- what the words say, by the first of them and what those behind it say
abbrev pub joined : Sort → Option (List Item) → Option (List Item)
joined (Flag name) items = option_map (λ later. IsFlag name ∷ later) items
joined (Number name value) items = option_map (λ later. IsNumber name value ∷ later) items
joined (Opening name) items = items
joined (Other word) items = option_map (λ later. IsOther word ∷ later) items
joined Wrong items = None

-- what the words say, where a number may wait for its value
abbrev pub items_from : Row → Option Text → List Text → Option (List Item)
items_from row None [] = Some []
items_from row None (word ∷ words) = joined (sort_of row word) (items_from row (waits (sort_of row word)) words)
items_from row (Some name) [] = None
items_from row (Some name) (value ∷ words) = option_map (λ later. IsNumber name value ∷ later) (items_from row None words)

abbrev pub flags_in : List Item → List Text
flags_in [] = []
flags_in (IsFlag name ∷ items) = name ∷ flags_in items
flags_in (IsNumber name value ∷ items) = flags_in items
flags_in (IsOther word ∷ items) = flags_in items

-- the numbers, each with the text of its value
abbrev pub numbers_in : List Item → List (Text × Text)
numbers_in [] = []
numbers_in (IsFlag name ∷ items) = numbers_in items
numbers_in (IsNumber name value ∷ items) = (name, value) ∷ numbers_in items
numbers_in (IsOther word ∷ items) = numbers_in items

abbrev pub others_in : List Item → List Text
others_in [] = []
others_in (IsFlag name ∷ items) = others_in items
others_in (IsNumber name value ∷ items) = others_in items
others_in (IsOther word ∷ items) = word ∷ others_in items

-- the text of the number of this name
abbrev pub value_of : Text → List Item → Option Text
value_of name [] = None
value_of name (IsFlag other ∷ items) = value_of name items
value_of name (IsNumber other value ∷ items) = if bytes_eq other name then Some value else value_of name items
value_of name (IsOther word ∷ items) = value_of name items

-- the names of flags and numbers, in order
abbrev pub options_in : List Item → List Text
options_in [] = []
options_in (IsFlag name ∷ items) = name ∷ options_in items
options_in (IsNumber name value ∷ items) = name ∷ options_in items
options_in (IsOther word ∷ items) = options_in items

-- whether no name is among those before it, or twice there
abbrev pub are_new : List Text → List Text → Bool
are_new before [] = true
are_new before (name ∷ names) = not (is_among before name) && are_new (name ∷ before) names

-- whether a text is 1 to 20 ASCII digits
abbrev pub is_digits : Text → Bool
is_digits text = nat_le 1 (length text) && (nat_le (length text) MOST_DIGITS && list_all is_ascii_digit text)

abbrev pub have_digits : List Item → Bool
have_digits items = list_all (λ number. is_digits number.1) (numbers_in items)

-- whether there are as many other words as the row has
abbrev pub has_count : Row → List Text → Bool
has_count row words = nat_le row.least (length words) && nat_le (length words) row.most

-- each option is said once, the value of each number is 1 to 20 digits, and there are as many other words as the row has
abbrev pub is_whole : Row → List Item → Bool
is_whole row items = are_new [] (options_in items)
    && (have_digits items && has_count row (others_in items))

abbrev pub whole : Row → List Item → Option (List Item)
whole row items = if is_whole row items then Some items else None

-- what the words of a row say, where they are its words
abbrev pub said_in : Row → List Text → Option (List Item)
said_in row words = option_and_then (whole row) (items_from row None words)
