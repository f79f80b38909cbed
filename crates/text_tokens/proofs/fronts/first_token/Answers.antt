use Rattle.std.proofs.Common.{sym, ◌∙◌, ap, subst}
use Rattle.clvm_spec.specs.Tokens.{at_front, token_of}
use Rattle.text_tokens.specs.Ends.{AreEnds}
use Rattle.text_tokens.proofs.EndLaws.{ends}
use Rattle.text_tokens.proofs.fronts.first_token.Goals as goal

pub returns-clause-ends : goal.returns-clause-ends
unfolding token_of
returns-clause-ends c = subst (AreEnds c.args.text.now) (sym (c.at_front.ensures ∙ ap at_front c.skip_blanks.ensures)) (ends c.args.text.now)
