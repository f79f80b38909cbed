use Rattle.std.proofs.Common.{◌≡◌, ◌∙◌, List, [], ◌∷◌, map, length, suc, unwrap_or, refl, sym, ap}
use Rattle.clap.proofs.WalkLemmas.{raw_values-rows}
use Rattle.clap.specs.Matches.{found_of}
use Rattle.tool_words.specs.Parser.{word_id}
use Rattle.tool_words.proofs.parse.count.Goals as goal

map_length : {X Y : Type 0} (f : X → Y) (xs : List X) → length (map f xs) ≡ length xs
map_length f [] = refl
map_length f (x ∷ xs) = ap suc (map_length f xs)

pub returns-in-Some : goal.returns-in-Some
returns-in-Some c = sym (map_length (λ v. v.now) c.in-Some.words.now) ∙ ap (λ o. length (unwrap_or o [])) (c.in-Some.ensures ∙ raw_values-rows (found_of c.args.matches.now) word_id)

pub returns-in-None : goal.returns-in-None
returns-in-None c = ap (λ o. length (unwrap_or o [])) (c.in-None.ensures ∙ raw_values-rows (found_of c.args.matches.now) word_id)
