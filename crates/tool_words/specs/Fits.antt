-- Whether what `clap` found has digits, and as many other words as the row has. This project's own.
use Rattle.std.specs.Prelude.{Bool, ◌&&◌, List}
use Rattle.std.specs.List.{list_all}
use Rattle.clap.specs.Walk.{first_of}
use Rattle.clap.specs.Walk.{Row as Found}
use Rattle.tool_words.specs.Rows.{Text, Row, has_count}
use Rattle.tool_words.specs.Parser.{digits_at, words_in}

-- whether each of these numbers isn't there or has digits
abbrev pub numbers_fit : List Text → List Found → Bool
numbers_fit names found = list_all (λ name. digits_at (first_of name found)) names

abbrev pub fits : Row → List Found → Bool
fits row found = numbers_fit row.numbers found && has_count row (words_in found)
