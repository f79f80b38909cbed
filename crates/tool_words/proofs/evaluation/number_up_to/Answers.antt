use Rattle.std.proofs.Common.{sym}
use Rattle.tool_words.proofs.Evaluations.{unparsed}
use Rattle.tool_words.proofs.evaluation.number_up_to.Goals as goal

pub returns-in-Err : goal.returns-in-Err
returns-in-Err c = sym (unparsed c.args.most c.args.digits.now c.in-Err.field-0 c.ranges.most.fits c.requires c.in-Err.ensures.value.0)
