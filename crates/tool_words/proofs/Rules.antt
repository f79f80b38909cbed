-- Rules that are added in turn.
use Rattle.std.proofs.Common.{◌≡◌, ◌∙◌, List, [], ◌∷◌, ◌++◌, map, refl, ap}
use Rattle.clap.specs.Walk.{Rule}
use Rattle.clap.specs.Simple.{App, with_rule}
use Rattle.tool_words.specs.Rows.{Text}
use Rattle.tool_words.specs.Parser.{bare, flag_rule, number_rule, word_rule, with_rules, parser}

with_both : (a : App) (xs ys : List Rule) → with_rules (with_rules a xs) ys ≡ with_rules a (xs ++ ys)
with_both a [] ys = refl
with_both a (x ∷ xs) ys = with_both (with_rule a x) xs ys

pub parser_from : (flags numbers : List Text) (a b c : App) → a ≡ with_rules bare (map flag_rule flags) → b ≡ with_rules a (map number_rule numbers)
    → c ≡ with_rule b word_rule → c ≡ parser flags numbers
parser_from flags numbers a b c first second third =
    third ∙ (ap (λ x. with_rule x word_rule) (second ∙ ap (λ x. with_rules x (map number_rule numbers)) first)
    ∙ (with_both (with_rules bare (map flag_rule flags)) (map number_rule numbers) (word_rule ∷ [])
    ∙ with_both bare (map flag_rule flags) (map number_rule numbers ++ word_rule ∷ [])))
