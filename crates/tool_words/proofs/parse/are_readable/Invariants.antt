use Rattle.std.proofs.Common.{◌≡◌, map, drop, string_bytes}
use Rattle.std.specs.List.{list_all}
use Rattle.tool_words.specs.Parser.{is_readable}
use Rattle.tool_words.proofs.parse.are_readable.Given as goal

-- the words behind these tell for all
abbrev pub invariant-loop-word : goal.invariant-loop-word
invariant-loop-word l = list_all is_readable (map string_bytes (drop l.word-index l.words)) ≡ list_all is_readable (map string_bytes l.words)
