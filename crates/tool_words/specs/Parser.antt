-- The command that `clap` reads the words behind a command's name with. This project's own.
use Rattle.std.specs.Prelude.{◌≡◌, ℕ, Bool, true, false, not, ◌&&◌, List, [], ◌∷◌, ◌++◌, map, Option, Some, None, Result, Ok, Err, codes}
use Rattle.std.specs.List.{list_all}
use Rattle.std.specs.Option.{option_map_or, unwrap_or}
use Rattle.std.specs.Borrow.{Bor}
use Rattle.clap.specs.Walk.{Rule, all_of, first_of, one_of, rows_of}
use Rattle.clap.specs.Walk.{Row as Found}
use Rattle.clap.specs.Simple.{App, new_app, new_rule, on_top, with_rule}
use Rattle.clap.specs.Faults.{is_simple_and_free}
use Rattle.clap.specs.declared.builder.action.ArgAction.TheVariants.{Append, Set, SetTrue}
use Rattle.clap.specs.Matches.{found_of}
use Rattle.clap.specs.declared.parser.matches.ArgMatches.{ArgMatches}
use Rattle.tool_words.specs.declared.said.WordsFault.{WordsFault}
use Rattle.tool_words.specs.declared.said.WordsFault.TheVariants.{Words, OutOfMemory}
use Rattle.tool_words.specs.Rows.{Text, Row, Item, behind_hyphen, is_among, flags_in, value_of, others_in, options_in, are_new, items_from, said_in, is_digits}

-- the name by which the other words are asked for
abbrev pub word_id : Text
word_id = codes "WORD"

abbrev pub flag_rule : Text → Rule
flag_rule name = record (new_rule name) { long = Some name; action = Some SetTrue }

abbrev pub number_rule : Text → Rule
number_rule name = record (new_rule name) { long = Some name; action = Some Set }

abbrev pub word_rule : Rule
word_rule = record (new_rule word_id) { action = Some Append }

abbrev pub rules : List Text → List Text → List Rule
rules flags numbers = map flag_rule flags ++ (map number_rule numbers ++ word_rule ∷ [])

abbrev pub bare : App
bare = on_top (λ s. record s { no_binary_name = true; disable_help_flag = true; disable_version_flag = true }) (new_app (codes "words"))

abbrev pub with_rules : App → List Rule → App
with_rules app [] = app
with_rules app (rule ∷ later) = with_rules (with_rule app rule) later

abbrev pub parser : List Text → List Text → App
parser flags numbers = with_rules bare (rules flags numbers)

abbrev pub is_long : Option Text → Bool
is_long None = false
is_long (Some []) = false
is_long (Some (byte ∷ bytes)) = true

-- whether a word begins with no hyphen, or with two and has something behind them
abbrev pub is_readable : Text → Bool
is_readable word = option_map_or (λ rest. is_long (behind_hyphen rest)) (behind_hyphen word) true

-- whether a name is no option
abbrev pub is_free : List Text → List Text → Text → Bool
is_free flags numbers name = not (is_among flags name) && not (is_among numbers name)

-- whether no number is a flag, and the options are none of the names that have another meaning
abbrev pub is_good : List Text → List Text → Bool
is_good flags numbers = is_simple_and_free (parser flags numbers)
    && (list_all (λ name. not (is_among flags name)) numbers && (is_free flags numbers [] && is_free flags numbers word_id))

abbrev pub flag_text : Bool → Text
flag_text true = codes "true"
flag_text false = codes "false"

-- the other words that are found
abbrev pub words_in : List Found → List Text
words_in found = unwrap_or (all_of word_id found) []

-- what is asked of the matches of words that say these items
pub record HasItems (flags numbers : List Text) (items : List Item) (found : List Found) : Type 0 where
  pub flag : (name : Text) → is_among flags name ≡ true → one_of name found ≡ Some (flag_text (is_among (flags_in items) name))
  pub number : (name : Text) → is_among numbers name ≡ true → first_of name found ≡ value_of name items
  pub others : words_in found ≡ others_in items
  pub only : (name : Text) → is_among numbers name ≡ false → value_of name items ≡ None

-- The words of a row say items with new options, and the matches have them. Neither digits nor the count of other words
-- are looked at.
pub record IsTaken (row : Row) (words : List Text) (found : List Found) : Type 0 where
  pub items : List Item
  pub says : items_from row None words ≡ Some items
  pub new : are_new [] (options_in items) ≡ true
  pub has : HasItems row.flags row.numbers items found

-- The words are those of the row, and the matches have what they say.
pub record IsRead (row : Row) (words : List Text) (found : List Found) : Type 0 where
  pub items : List Item
  pub says : said_in row words ≡ Some items
  pub has : HasItems row.flags row.numbers items found

abbrev pub texts_of : List (Bor Text) → List Text
texts_of = map (λ text. text.now)

-- the row of a table of the program
abbrev pub row_of : List (Bor Text) → List (Bor Text) → ℕ → ℕ → Row
row_of flags numbers least most = record {
  flags = texts_of flags;
  numbers = texts_of numbers;
  least = least;
  most = most;
}

abbrev pub digits_at : Option Text → Bool
digits_at text = option_map_or is_digits text true

-- Want of memory says nothing.
abbrev pub Takes : Row → List Text → Result ArgMatches WordsFault → Type 0
Takes row words (Ok matches) = IsTaken row words (rows_of (found_of matches))
Takes row words (Err Words) = said_in row words ≡ None
Takes row words (Err OutOfMemory) = Unit {0}

abbrev pub Reads : Row → List Text → Result ArgMatches WordsFault → Type 0
Reads row words (Ok matches) = IsRead row words (rows_of (found_of matches))
Reads row words (Err Words) = said_in row words ≡ None
Reads row words (Err OutOfMemory) = Unit {0}
