use Rattle.std.proofs.Common.{◌∙◌, map, string_bytes, sym}
use Rattle.clap.specs.Simple.{app_of}
use Rattle.tool_words.specs.Parser.{row_of}
use Rattle.tool_words.proofs.Laws.{unreadable}
use Rattle.tool_words.proofs.Answered.{ok_law, err_law}
use Rattle.tool_words.proofs.parse.matches.Goals as goal

pub returns-then-not-are_readable : goal.returns-then-not-are_readable
returns-then-not-are_readable c =
    unreadable (row_of c.args.row.flags.now c.args.row.numbers.now c.args.row.least c.args.row.most) c.requires (map string_bytes c.args.words.now) (sym c.if-not-are_readable.ensures)

pub returns-in-Ok-try_get_matches_from : goal.returns-in-Ok-try_get_matches_from
returns-in-Ok-try_get_matches_from c =
    ok_law (row_of c.args.row.flags.now c.args.row.numbers.now c.args.row.least c.args.row.most) c.requires (map string_bytes c.args.words.now)
    (app_of c.in-Ok.command) c.in-Ok-try_get_matches_from.matches c.in-Ok.ensures (sym c.if-not-are_readable.ensures)
    c.in-Ok-try_get_matches_from.ensures.kinds c.in-Ok-try_get_matches_from.ensures.matches

pub returns : goal.returns
returns c =
    err_law (row_of c.args.row.flags.now c.args.row.numbers.now c.args.row.least c.args.row.most) c.requires (map string_bytes c.args.words.now)
    (app_of c.in-Ok.command) c.in-Err.error c.in-Ok.ensures c.in-Err.ensures.kinds (λ memory. c.in_default-kind.not-OutOfMemory (c.kind.ensures ∙ memory))
