use Rattle.std.proofs.Common.{map, string_bytes}
use Rattle.tool_words.proofs.Names.{other_name}
use Rattle.tool_words.proofs.words.command_by.Goals as goal

pub returns-in_default : goal.returns-in_default
returns-in_default c = other_name c.args.name.now (map string_bytes c.args.words.now) c.in_default.not-session c.in_default.not-hash c.in_default.not-eval c.in_default.not-curry
