use Rattle.std.proofs.Common.{◌∙◌, subst}
use Rattle.std.specs.Int.{w128}
use Rattle.std.specs.Str.Parse.{ParsesSigned}
use Rattle.std.proofs.lemmas.Str.{IsUtf8-from_ascii}
use Rattle.text_tokens.proofs.WordLaws.{signed_word, parsed}
use Rattle.text_tokens.proofs.words.number.Goals as goal

pub returns-in-Ok : goal.returns-in-Ok
returns-in-Ok c =
    let word = c.args.word.now in
    c.ok.ensures.value ∙ parsed word c.parse.result (signed_word word c.requires).1 (subst (λ t. ParsesSigned w128 10 t c.parse.result) c.in-Ok.ensures.cases.0 c.parse.ensures.value.0)

pub returns-in-Err : goal.returns-in-Err
returns-in-Err c = let word = c.args.word.now in absurd (c.in-Err.ensures.cases.0 (IsUtf8-from_ascii word (signed_word word c.requires).0))
