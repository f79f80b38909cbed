use Rattle.std.proofs.Common.{◌∙◌}
use Rattle.text_tokens.proofs.WordLaws.{hex_test}
use Rattle.text_tokens.proofs.digits.are_bytes.Goals as goal

pub returns-then-digits-eq0 : goal.returns-then-digits-eq0
returns-then-digits-eq0 c = c.are_digits.ensures ∙ hex_test c.args.digits.now c.if-digits-eq0.true
