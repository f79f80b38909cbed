-- What the words behind `curry` say: the arguments with which to curry. Source: this project's own.
use Rattle.std.specs.Prelude.{List, [], Option, option_map, option_and_then}
use Rattle.clvm_input.specs.Words.{words_of}
use Rattle.tool_words.specs.declared.limits.TheConstants.{MOST_ARGUMENTS}
use Rattle.tool_words.specs.Rows.{Text, Row, Item, others_in, said_in}
use Rattle.tool_words.specs.declared.said.Command.{Command}
use Rattle.tool_words.specs.declared.said.Command.TheVariants.{Curry}

abbrev pub curry_row : Row
curry_row = record { flags = []; numbers = []; least = 0; most = MOST_ARGUMENTS }

abbrev pub curry_in : List Item → Option Command
curry_in items = option_map Curry (words_of (others_in items))

-- the command, by the words behind its name
abbrev pub curry_of : List Text → Option Command
curry_of words = option_and_then curry_in (said_in curry_row words)
