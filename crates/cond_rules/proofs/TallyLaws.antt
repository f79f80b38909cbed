-- A tally with one more spend.
use Rattle.std.proofs.Common.{◌≡◌, ℕ, ◌+◌, ◌||◌, List, [], ◌∷◌, ◌++◌, length, map, refl, ap, sym, ◌∙◌, arith}
use Rattle.std.specs.List.{sum_by, flat_map}
use Rattle.std.proofs.lemmas.List.{length-append}
use Rattle.std.proofs.lemmas.List.Sums.{sum_by-append, sum_by-cons}
use Rattle.coin_facts.specs.declared.coin.Coin.{Coin}
use Rattle.coin_facts.specs.CoinId.{coin_id}
use Rattle.cond_spec.specs.declared.condition.Condition.{Condition}
use Rattle.cond_spec.specs.declared.condition.Condition.TheVariants.{CreateCoin, ReserveFee}
use Rattle.cond_spec.specs.Acts.{Acts, of_spend, coin_made, fee_reserved, spent_amounts, created_amounts, reserved_fees}
use Rattle.cond_rules.specs.Deeds.{announcement_asked, announcement_made, spend_asked, spends_made, creation_asked, creation_made, letters_given, claim}
use Rattle.cond_rules.specs.Wants.{Wanted, AddsWants, asks_at, is_made}
use Rattle.cond_rules.specs.declared.want.Want.{Want}
use Rattle.cond_rules.specs.Letters.{AddsLetters}
use Rattle.cond_rules.specs.TallySeen.{Tallied}
use Rattle.cond_rules.specs.Tallies.{IsTallyOf}
use Rattle.cond_rules.proofs.ListLaws.{flat-push, sum-flat, sum-both}
use Rattle.cond_rules.proofs.LetterLaws.{letters-push}
use Rattle.cond_rules.proofs.WantLaws.{wants-push}

-- The new tally keeps what one more spend asks and makes.
pub record Grows (old : Tallied) (acts : Acts) (new : Tallied) : Type 0 where
  pub count : new.count ≡ old.count + 1
  pub announcements : AddsWants old.announcements old.count (of_spend announcement_asked acts) (of_spend announcement_made acts) new.announcements
  pub spends : AddsWants old.spends old.count (of_spend spend_asked acts) (spends_made acts) new.spends
  pub creations : AddsWants old.creations old.count (of_spend creation_asked acts) (of_spend creation_made acts) new.creations
  pub letters : AddsLetters old.letters old.count (of_spend letters_given acts) new.letters
  pub spent : new.spent ≡ old.spent + acts.coin.amount
  pub claims : new.claims ≡ old.claims + sum_by claim acts.conditions

pub adds-along : {old was : Wanted} {place n : ℕ} {asked asks made makes : List Want} {new : Wanted} → AddsWants old place asked made new
    → old ≡ was → place ≡ n → asked ≡ asks → made ≡ makes → AddsWants was n asks makes new
adds-along adds o p a m = record {
  asks = adds.asks ∙ (λ i. (o i).asked ++ asks_at (p i) (a i));
  makes = λ want. adds.makes want ∙ (λ i. is_made (o i).made want || is_made (m i) want);
}

-- ---- amounts

sum-push : {A : Type 0} (f : A → ℕ) (xs : List A) (x : A) → sum_by f (xs ++ x ∷ []) ≡ sum_by f xs + f x
sum-push f xs x =
    let all = sum_by-append f xs (x ∷ []) in
    let one = sum_by-cons f x [] in
    omega arith

claim-is : (coin : Coin) (c : Condition) → claim c ≡ sum_by (λ made. made.amount) (coin_made coin c) + fee_reserved c
claim-is coin (CreateCoin hash amount) = omega arith
claim-is coin (ReserveFee amount) = omega arith
claim-is coin _ = refl

claims-of : (acts : Acts) → sum_by claim acts.conditions ≡ sum_by (λ made. made.amount) (of_spend coin_made acts) + sum_by fee_reserved acts.conditions
claims-of acts =
    (λ i. sum_by (λ c. claim-is acts.coin c i) acts.conditions)
    ∙ sum-both (λ c. sum_by (λ made. made.amount) (coin_made acts.coin c)) fee_reserved acts.conditions
    ∙ ap (λ n. n + sum_by fee_reserved acts.conditions) (sym (sum-flat (λ made. made.amount) (coin_made acts.coin) acts.conditions))

claims-push : (list : List Acts) (acts : Acts)
    → created_amounts (list ++ acts ∷ []) + reserved_fees (list ++ acts ∷ []) ≡ (created_amounts list + reserved_fees list) + sum_by claim acts.conditions
claims-push list acts =
    let created : created_amounts (list ++ acts ∷ []) ≡ created_amounts list + sum_by (λ made. made.amount) (of_spend coin_made acts) =
    ap (sum_by (λ made. made.amount)) (flat-push (of_spend coin_made) list acts) ∙ sum_by-append (λ made. made.amount) (flat_map (of_spend coin_made) list) (of_spend coin_made acts) in
    let reserved : reserved_fees (list ++ acts ∷ []) ≡ reserved_fees list + sum_by fee_reserved acts.conditions =
    sum-push (λ acts. sum_by fee_reserved acts.conditions) list acts in
    let both = claims-of acts in
    omega arith

-- ---- the tally

pub tally-push : (old new : Tallied) (list : List Acts) (acts : Acts) → Grows old acts new → IsTallyOf old list → IsTallyOf new (list ++ acts ∷ [])
tally-push old new list acts grows is = record {
  count = grows.count ∙ ap (λ n. n + 1) is.count ∙ sym (length-append list (acts ∷ []));
  announcements = wants-push (of_spend announcement_asked) (of_spend announcement_made) old.announcements new.announcements list acts old.count is.count is.announcements grows.announcements;
  spends = wants-push (of_spend spend_asked) spends_made old.spends new.spends list acts old.count is.count is.spends grows.spends;
  creations = wants-push (of_spend creation_asked) (of_spend creation_made) old.creations new.creations list acts old.count is.count is.creations grows.creations;
  letters = letters-push (of_spend letters_given) old.letters new.letters list acts old.count is.count is.letters grows.letters;
  spent = grows.spent ∙ ap (λ n. n + acts.coin.amount) is.spent ∙ sym (sum-push (λ acts. acts.coin.amount) list acts);
  claims = grows.claims ∙ ap (λ n. n + sum_by claim acts.conditions) is.claims ∙ sym (claims-push list acts);
}
