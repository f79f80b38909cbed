-- Several words, one after the other.
use Rattle.std.proofs.Common.{◌≡◌, ◌∙◌, ℕ, zero, suc, ◌<◌, ◌≤◌, List, [], ◌∷◌, ◌++◌, length, map, drop, get_or, false, Option, Some, None, IsTrue, option_map, Bor, refl, sym, ap, arith, append_assoc, rules, if◌then◌else◌}
use Rattle.std.specs.List.{sum_by}
use Rattle.std.specs.Option.{option_and_then}
use Rattle.std.proofs.lemmas.Bool.Decides.{nat_tests}
use Rattle.std.proofs.lemmas.List.Sums.{sum_by-append}
use Rattle.clvm_spec.specs.Reading.{head_at, tree_at_front}
use Rattle.clvm_spec.specs.Spelled.{most_spelled, is_spelled}
use Rattle.clvm_input.specs.Words.{word_of, each_of, are_few, if_few}

no_tree : is_spelled [] ≡ false
unfolding head_at tree_at_front
no_tree = refl

-- A spelled tree has a byte.
pub spelled-some : (bytes : List ℕ) → IsTrue (is_spelled bytes) → 1 ≤ length bytes
spelled-some [] spelled = absurd (search (rules, no_tree, spelled))
spelled-some (b ∷ bytes) spelled = omega arith

taken : (before : List (List ℕ)) (word : List ℕ) (later : Option (List (List ℕ)))
    → option_map (λ more. before ++ more) (option_map (λ more. word ∷ more) later) ≡ option_map (λ more. (before ++ word ∷ []) ++ more) later
taken before word None = refl
taken before word (Some more) = ap Some (sym (append_assoc before (word ∷ []) more))

first_of : (text : Bor (List ℕ)) (texts : List (Bor (List ℕ))) (word : List ℕ) → word_of text.now ≡ Some word
    → each_of (map (λ t. t.now) (text ∷ texts)) ≡ option_map (λ more. word ∷ more) (each_of (map (λ t. t.now) texts))
first_of text texts word is = ap (option_and_then (λ bytes. option_map (λ later. bytes ∷ later) (each_of (map (λ t. t.now) texts)))) is

-- the words so far, one more, and those of the texts behind it
pub one_more : (texts : List (Bor (List ℕ))) (place : ℕ) (d : Bor (List ℕ)) (before : List (List ℕ)) (word : List ℕ) → place < length texts → word_of (get_or texts place d).now ≡ Some word
    → option_map (λ later. before ++ later) (each_of (map (λ t. t.now) (drop place texts))) ≡ option_map (λ later. (before ++ word ∷ []) ++ later) (each_of (map (λ t. t.now) (drop (suc place) texts)))
one_more [] place d before word within is = absurd (omega (arith, within))
one_more (text ∷ texts) zero d before word within is =
    ap (option_map (λ later. before ++ later)) (first_of text texts word is) ∙ taken before word (each_of (map (λ t. t.now) texts))
one_more (text ∷ texts) (suc place) d before word within is = one_more texts place d before word (omega (arith, within)) is

many : (words more : List (List ℕ)) → most_spelled < sum_by length words → are_few (words ++ more) ≡ false
many words more above = let total = sum_by-append length words more in grind (arith, nat_tests)

-- Where the words so far are too many, so are all.
pub none-few : (words : List (List ℕ)) (later : Option (List (List ℕ))) → most_spelled < sum_by length words → None ≡ option_and_then if_few (option_map (λ more. words ++ more) later)
none-few words None above = refl
none-few words (Some more) above = sym (ap (λ t. if t then Some (words ++ more) else None) (many words more above))
