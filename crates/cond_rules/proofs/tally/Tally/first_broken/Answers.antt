use Rattle.std.proofs.Common.{◌∙◌}
use Rattle.cond_rules.proofs.RuleLaws.{broken-is}
use Rattle.cond_rules.proofs.tally.Tally.first_broken.Goals as goal

pub returns : goal.returns
returns c = λ list is. c.broken.ensures ∙ broken-is _ list is
