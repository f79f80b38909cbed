use Rattle.std.proofs.Common.{◌∙◌, [], ap, subst}
use Rattle.std.specs.Option.{unwrap_or}
use Rattle.clap.proofs.WalkLemmas.{raw_values-rows}
use Rattle.clap.specs.Matches.{found_of}
use Rattle.clvm_input.specs.Words.{words_of}
use Rattle.tool_words.specs.Parser.{word_id}
use Rattle.tool_words.specs.Commands.{Says}
use Rattle.tool_words.proofs.currying.arguments.Goals as goal

pub returns-in-Some : goal.returns-in-Some
returns-in-Some c =
    subst (λ words. Says (words_of words) c.clvm_words.result) (ap (λ o. unwrap_or o []) (c.in-Some.ensures ∙ raw_values-rows (found_of c.args.matches.now) word_id))
    c.clvm_words.ensures

pub returns-in-None : goal.returns-in-None
returns-in-None c =
    subst (λ words. Says (words_of words) c.clvm_words-in-None.result) (ap (λ o. unwrap_or o []) (c.in-None.ensures ∙ raw_values-rows (found_of c.args.matches.now) word_id))
    c.clvm_words-in-None.ensures
