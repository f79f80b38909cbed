use Rattle.std.proofs.Common.{◌≡◌, map, drop}
use Rattle.clap.specs.Simple.{app_of}
use Rattle.tool_words.specs.Parser.{flag_rule, with_rules, texts_of}
use Rattle.tool_words.proofs.row.with_flags.Given as goal

-- the rest of the names gives what all of them give
abbrev pub invariant-loop-name : goal.invariant-loop-name
invariant-loop-name l =
    with_rules (app_of l.command) (map flag_rule (texts_of (drop l.name-index l.names))) ≡ with_rules (app_of l.initial.command) (map flag_rule (texts_of l.names))
