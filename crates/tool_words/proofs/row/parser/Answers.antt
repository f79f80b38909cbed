use Rattle.std.proofs.Common.{◌∙◌, map, Result, Ok, Err, IfOk, ap}
use Rattle.clap.specs.Simple.{app_of, with_rule}
use Rattle.tool_words.specs.Parser.{flag_rule, with_rules, texts_of}
use Rattle.tool_words.proofs.Rules.{parser_from}
use Rattle.tool_words.proofs.row.parser.Goals as goal

if_ok : {T E : Type 0} (P Q : T → Type 0) (r : Result T E) → ((x : T) → P x → Q x) → IfOk r P → IfOk r Q
if_ok P Q (Ok x) f h = f x h
if_ok P Q (Err e) f h = tt

pub returns : goal.returns
returns c = if_ok _ _ c.arg.result
    (λ r added. parser_from (texts_of c.args.row.flags.now) (texts_of c.args.row.numbers.now) (app_of c.in_ok-command.command) (app_of c.in_ok-command-2.command) (app_of r)
    (c.in_ok-command.ensures ∙ ap (λ a. with_rules a (map flag_rule (texts_of c.args.row.flags.now))) c.bare.ensures)
    c.in_ok-command-2.ensures
    (added.shape c.other_words.ensures.local ∙ ap (with_rule (app_of c.in_ok-command-2.command)) c.other_words.ensures.rule))
    c.arg.ensures
