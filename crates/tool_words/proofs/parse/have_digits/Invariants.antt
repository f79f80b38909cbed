use Rattle.std.proofs.Common.{◌≡◌, drop}
use Rattle.clap.specs.Walk.{rows_of}
use Rattle.clap.specs.Matches.{found_of}
use Rattle.tool_words.specs.Parser.{texts_of}
use Rattle.tool_words.specs.Fits.{numbers_fit}
use Rattle.tool_words.proofs.parse.have_digits.Given as goal

-- the names behind these tell for all
abbrev pub invariant-loop-name : goal.invariant-loop-name
invariant-loop-name l =
    numbers_fit (texts_of (drop l.name-index l.names)) (rows_of (found_of l.matches)) ≡ numbers_fit (texts_of l.names) (rows_of (found_of l.matches))
