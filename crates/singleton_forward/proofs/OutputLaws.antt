-- Of the coins of an odd amount: how many there are, and whether one is the coin again.
use Rattle.std.proofs.Common.{◌≡◌, ℕ, suc, ◌+◌, ◌==◌, Bool, true, false, ◌&&◌, ◌||◌, cond, List, [], ◌∷◌, length, refl, ap, sym, ◌∙◌, arith}
use Rattle.std.specs.List.{list_any, count_by}
use Rattle.std.proofs.lemmas.Bool.Decides.{nat_tests}
use Rattle.std.proofs.lemmas.List.Recursion.{is_count_by}
use Rattle.coin_facts.specs.declared.coin.Coin.{Coin}
use Rattle.coin_facts.specs.CoinId.{coin_id}
use Rattle.coin_facts.specs.IdLists.{is_same_id}
use Rattle.cond_spec.specs.declared.condition.Condition.{Condition}
use Rattle.cond_spec.specs.declared.condition.Condition.TheVariants.{CreateCoin}
use Rattle.pool_spec.specs.Shape.{is_odd, is_again}
use Rattle.singleton_forward.specs.Outputs.{makes_odd, makes_again, odd_made, is_made_again}

abbrev again : Coin → Coin → Bool
again coin made = is_same_id made.puzzle_hash coin.puzzle_hash && (made.amount == coin.amount)

-- ---- how many

length_if : (odd : Bool) (made : Coin) (others : List Coin) → length (cond odd (made ∷ others) others) ≡ cond odd (1 + length others) (length others)
length_if true made others = omega arith
length_if false made others = refl

count_step : (coin : Coin) (condition : Condition) (conditions : List Condition)
    → length (odd_made coin (condition ∷ conditions)) ≡ cond (makes_odd condition) (1 + length (odd_made coin conditions)) (length (odd_made coin conditions))
unfolding makes_odd
count_step coin (CreateCoin puzzle_hash amount) conditions =
    length_if (is_odd amount) (record { parent = coin_id coin; puzzle_hash = puzzle_hash; amount = amount }) (odd_made coin conditions)
count_step coin _ conditions = refl

count_is : (coin : Coin) (conditions : List Condition) → length (odd_made coin conditions) ≡ count_by makes_odd conditions
count_is coin conditions = is_count_by (λ conditions. length (odd_made coin conditions)) makes_odd refl (count_step coin) conditions

-- ---- whether one is the coin again

any_if : (odd : Bool) (coin made : Coin) (others : List Coin) (rest : Bool) → rest ≡ list_any (again coin) others
    → ((odd && again coin made) || rest) ≡ list_any (again coin) (cond odd (made ∷ others) others)
any_if true coin made others rest e = ap (λ b. again coin made || b) e
any_if false coin made others rest e = e

any_is : (coin : Coin) (conditions : List Condition) → list_any (makes_again coin) conditions ≡ list_any (again coin) (odd_made coin conditions)
unfolding makes_again
any_is coin [] = refl
any_is coin (CreateCoin puzzle_hash amount ∷ conditions) =
    any_if (is_odd amount) coin (record { parent = coin_id coin; puzzle_hash = puzzle_hash; amount = amount }) (odd_made coin conditions)
    (list_any (makes_again coin) conditions) (any_is coin conditions)
any_is coin (_ ∷ conditions) = any_is coin conditions

or_false : (b : Bool) → b ≡ (b || false)
or_false true = refl
or_false false = refl

not_one : (n : ℕ) → (suc (suc n) == 1) ≡ false
not_one n = grind (arith, nat_tests)

again_is : (coin : Coin) (coins : List Coin) → is_again coin coins ≡ ((length coins == 1) && list_any (again coin) coins)
again_is coin [] = refl
again_is coin (made ∷ []) = or_false (again coin made)
again_is coin (made ∷ other ∷ others) = sym (ap (λ b. b && list_any (again coin) (made ∷ other ∷ others)) (not_one (length others)))

by_count : (coin : Coin) (conditions : List Condition) (count : ℕ) → count ≡ count_by makes_odd conditions
    → ((count == 1) && list_any (makes_again coin) conditions) ≡ is_made_again coin conditions
by_count coin conditions count counted =
    ap (λ n. (n == 1) && list_any (makes_again coin) conditions) (counted ∙ sym (count_is coin conditions))
    ∙ ap (λ b. (length (odd_made coin conditions) == 1) && b) (any_is coin conditions)
    ∙ sym (again_is coin (odd_made coin conditions))

pub made-once : (coin : Coin) (conditions : List Condition) (count : ℕ) (any : Bool) → count ≡ count_by makes_odd conditions → count ≡ 1 → any ≡ list_any (makes_again coin) conditions
    → any ≡ is_made_again coin conditions
made-once coin conditions count any counted one found =
    found ∙ sym (ap (λ n. (n == 1) && list_any (makes_again coin) conditions) one) ∙ by_count coin conditions count counted

pub made-not_once : (coin : Coin) (conditions : List Condition) (count : ℕ) → count ≡ count_by makes_odd conditions → (count ≡ 1 → ⊥) → (count == 1) ≡ is_made_again coin conditions
made-not_once coin conditions count counted other =
    let not_one : (count == 1) ≡ false = grind (arith, nat_tests) in
    not_one ∙ sym (ap (λ b. b && list_any (makes_again coin) conditions) not_one) ∙ by_count coin conditions count counted
