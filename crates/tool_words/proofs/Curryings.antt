-- What is found behind `curry` is what its words say.
use Rattle.std.proofs.Common.{◌≡◌, ◌∙◌, List, Option, ℕ, sym, ap}
use Rattle.std.specs.Option.{option_map, option_and_then}
use Rattle.clap.specs.Walk.{Row as Found}
use Rattle.clvm_input.specs.Words.{words_of}
use Rattle.tool_words.specs.Rows.{Text}
use Rattle.tool_words.specs.Parser.{words_in, IsRead}
use Rattle.tool_words.specs.Curries.{curry_row, curry_in, curry_of}
use Rattle.tool_words.specs.declared.said.Command.TheVariants.{Curry}

pub curry_said : (words : List Text) (found : List Found) (arguments : Option (List (List ℕ))) → IsRead curry_row words found → words_of (words_in found) ≡ arguments → curry_of words ≡ option_map Curry arguments
curry_said words found arguments read is =
    ap (option_and_then curry_in) read.says ∙ ap (option_map Curry) (ap words_of (sym read.has.others) ∙ is)
