use Rattle.std.proofs.Common.{◌∙◌, ap}
use Rattle.clap.proofs.WalkLemmas.{first_value-rows}
use Rattle.clap.specs.Matches.{found_of}
use Rattle.tool_words.specs.Parser.{digits_at}
use Rattle.tool_words.proofs.parse.has_digits.Goals as goal

pub returns-in-Some : goal.returns-in-Some
returns-in-Some c = c.is_digits.ensures ∙ ap digits_at (c.in-Some.ensures ∙ first_value-rows (found_of c.args.matches.now) c.args.name.now)

pub returns-in-None : goal.returns-in-None
returns-in-None c = ap digits_at (c.in-None.ensures ∙ first_value-rows (found_of c.args.matches.now) c.args.name.now)
