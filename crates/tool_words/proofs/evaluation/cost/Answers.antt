use Rattle.std.proofs.Common.{◌∙◌, IsTrue, codes, sym, ap, subst}
use Rattle.clap.proofs.WalkLemmas.{first_value-rows}
use Rattle.clap.specs.Matches.{found_of}
use Rattle.tool_words.specs.Parser.{digits_at}
use Rattle.tool_words.specs.Evals.{cost_of}
use Rattle.tool_words.proofs.evaluation.cost.Goals as goal

pub number_up_to-requires : goal.number_up_to-requires
number_up_to-requires c =
    subst (λ text. IsTrue (digits_at text)) (sym (c.in-Some.ensures ∙ first_value-rows (found_of c.args.matches.now) (codes "cost"))) c.requires

pub returns-in-Some : goal.returns-in-Some
returns-in-Some c = c.number_up_to.ensures ∙ ap cost_of (c.in-Some.ensures ∙ first_value-rows (found_of c.args.matches.now) (codes "cost"))

pub returns-in-None : goal.returns-in-None
returns-in-None c = ap cost_of (c.in-None.ensures ∙ first_value-rows (found_of c.args.matches.now) (codes "cost"))
