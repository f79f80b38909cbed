use Rattle.std.proofs.Common.{arith}
use Rattle.std.proofs.lemmas.Str.Pattern.{strip_prefix_char}
use Rattle.bundle_json.proofs.TextLaws.{behind_at-from}
use Rattle.bundle_json.proofs.names.behind_at.Goals as goal

pub returns : goal.returns
returns c =
    behind_at-from c.args.text.now c.strip_prefix.result (strip_prefix_char 64 c.args.text.now c.strip_prefix.result c.strip_prefix.ensures.cases (omega arith))
