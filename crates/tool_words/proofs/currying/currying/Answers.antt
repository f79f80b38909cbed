use Rattle.std.proofs.Common.{map, string_bytes}
use Rattle.clap.specs.Walk.{rows_of}
use Rattle.clap.specs.Matches.{found_of}
use Rattle.tool_words.proofs.Curryings.{curry_said}
use Rattle.tool_words.proofs.currying.currying.Goals as goal

pub returns : goal.returns
returns c = curry_said (map string_bytes c.args.words.now) (rows_of (found_of c.in_ok-matches.matches)) _ c.in_ok-matches.ensures c.in_ok-arguments.ensures
