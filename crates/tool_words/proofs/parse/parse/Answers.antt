use Rattle.std.proofs.Common.{map, string_bytes, sym}
use Rattle.clap.specs.Walk.{rows_of}
use Rattle.clap.specs.Matches.{found_of}
use Rattle.tool_words.specs.Parser.{row_of}
use Rattle.tool_words.proofs.Answered.{read_law, unread_law}
use Rattle.tool_words.proofs.parse.parse.Goals as goal

pub returns-then-fits : goal.returns-then-fits
returns-then-fits c =
    read_law (row_of c.args.row.flags.now c.args.row.numbers.now c.args.row.least c.args.row.most) (map string_bytes c.args.words.now)
    (rows_of (found_of c.in_ok-matches.matches)) c.in_ok-matches.ensures (sym c.if-fits.ensures)

pub returns : goal.returns
returns c =
    unread_law (row_of c.args.row.flags.now c.args.row.numbers.now c.args.row.least c.args.row.most) (map string_bytes c.args.words.now)
    (rows_of (found_of c.in_ok-matches.matches)) c.in_ok-matches.ensures (sym c.if-fits.ensures)
