use Rattle.std.proofs.Common.{◌∙◌, [], ap, sym, subst}
use Rattle.std.specs.Option.{unwrap_or}
use Rattle.clap.proofs.WalkLemmas.{raw_values-rows}
use Rattle.clap.specs.Matches.{found_of}
use Rattle.tool_words.specs.Parser.{word_id}
use Rattle.tool_words.specs.Evals.{env_of}
use Rattle.tool_words.specs.Commands.{Says}
use Rattle.tool_words.proofs.evaluation.environment.Goals as goal

pub returns-in-Some : goal.returns-in-Some
returns-in-Some c =
    subst (λ words. Says (env_of words) c.only_word.result) (ap (λ o. unwrap_or o []) (c.in-Some.ensures ∙ raw_values-rows (found_of c.args.matches.now) word_id))
    c.only_word.ensures

pub returns-in-None : goal.returns-in-None
returns-in-None c = sym (ap (λ o. env_of (unwrap_or o [])) (c.in-None.ensures ∙ raw_values-rows (found_of c.args.matches.now) word_id))
