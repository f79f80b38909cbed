-- Sets of pairs, one pair after another.
use Rattle.std.proofs.Common.{◌≡◌, ℕ, ◌+◌, ◌<◌, ◌&&◌, ◌||◌, Bool, true, false, cond, List, [], ◌∷◌, ◌++◌, length, take, get_or, refl, ap, sym, ◌∙◌}
use Rattle.std.specs.HashSet.{contains}
use Rattle.std.specs.Str.{bytes_eq}
use Rattle.std.proofs.lemmas.List.{take_more}
use Rattle.std.proofs.lemmas.List.Folds.{list_any-append}
use Rattle.block_spec.specs.declared.attested.Signed.{Signed}
use Rattle.cond_spec.specs.Signing.{ToSign}
use Rattle.judge_spec.specs.Checks.{is_attested}
use Rattle.block_judge.specs.declared.signing.Pair.{Pair}
use Rattle.block_judge.specs.Signatures.{PairSet, is_same_pair, pair_of, is_in, HasPairs}

first-or : (b c : Bool) → cond b true c ≡ (c || (b || false))
first-or true true = refl
first-or true false = refl
first-or false true = refl
first-or false false = refl

pub pairs-more : (old new : PairSet) (attested : List Signed) (place : ℕ) (signed : Signed) (pair : Pair) → place < length attested → signed ≡ get_or attested place signed
    → pair.key ≡ signed.key → pair.message ≡ signed.message → HasPairs old (take place attested)
    → ((q : Pair) → contains is_same_pair new q ≡ cond (is_same_pair pair q) true (contains is_same_pair old q)) → HasPairs new (take (place + 1) attested)
pairs-more old new attested place signed pair within there key message has more = λ q.
    more (pair_of q)
    ∙ first-or (is_same_pair pair (pair_of q)) (is_in old q)
    ∙ (λ i. has q i || ((bytes_eq (key i) q.key && bytes_eq (message i) q.message) || false))
    ∙ sym (list_any-append (λ s. bytes_eq s.key q.key && bytes_eq s.message q.message) (take place attested) (signed ∷ []))
    ∙ ap (λ list. is_attested list q) (ap (λ s. take place attested ++ s ∷ []) there ∙ sym (take_more attested place signed within))
