-- A bundle has one fit and one price on ledgers that look alike to it.
use Rattle.std.proofs.Common.{◌≡◌, ℕ, not, ◌&&◌, ◌||◌, Result, Ok, Err, List, [], ◌∷◌, ◌++◌, map, refl, ap, ◌∙◌}
use Rattle.std.specs.Prelude.{filter, find, if◌then◌else◌}
use Rattle.std.specs.List.{AllByRecursion}
use Rattle.std.specs.Option.{option_or}
use Rattle.coin_facts.specs.declared.hash32.Hash32.{Hash32}
use Rattle.coin_facts.specs.declared.coin.Coin.{Coin}
use Rattle.coin_facts.specs.CoinId.{coin_id}
use Rattle.coin_facts.specs.IdLists.{is_same_id, has_id, is_among}
use Rattle.block_spec.specs.declared.spend.Spend.{Spend}
use Rattle.chain_spec.specs.Chain.{Ledger}
use Rattle.judge_spec.specs.declared.class.Class.{Class}
use Rattle.judge_spec.specs.declared.class.Class.TheVariants.{Plain, Same, Forward}
use Rattle.judge_spec.specs.declared.limits.Limits.{Limits}
use Rattle.judge_spec.specs.Judgement.{terms_of, judgement}
use Rattle.judge_spec.proofs.AgreementLaws.{spends-look-at-their-coins}
use Rattle.pool_spec.specs.declared.lineage.Lineage.{Lineage}
use Rattle.pool_spec.specs.Shape.{where_found, where_held, shape_of}
use Rattle.pool_spec.specs.Classes.{class_of, classes_of}
use Rattle.pool_spec.specs.Fit.{Taken, nothing_taken, is_coin_of, coins_left, only_coin, with_parent, lineage_of, moved_onto, moved, fit_by_class, fit_of}
use Rattle.pool_spec.specs.Prices.{price_by, facts_in, priced}
use Rattle.pool_spec.specs.PoolLaws.{coin_in, LookAlike, FitLooksAt, PriceStands}

-- ---- lineages

same-parent : (ledger other : Ledger) (taken : Taken) (puzzle_hash : Hash32) (found : Result Coin ℕ)
    → ((coin : Coin) → found ≡ Ok coin → coin_in ledger coin.parent ≡ coin_in other coin.parent)
    → with_parent ledger taken puzzle_hash found ≡ with_parent other taken puzzle_hash found
same-parent ledger other taken puzzle_hash (Err number) same = refl
same-parent ledger other taken puzzle_hash (Ok coin) same =
    ap (λ parent. where_found {B = Lineage} 3 (option_or parent (find (has_id coin.parent) taken.created)) (λ parent.
    where_held 4 (is_same_id parent.puzzle_hash puzzle_hash) (Ok (record { coin = coin; parent = parent }))))
    (same coin refl)

same-lineage : (ledger other : Ledger) (taken : Taken) (spend : Spend) → LookAlike ledger other taken spend
    → lineage_of ledger taken spend.coin.puzzle_hash spend.coin.amount ≡ lineage_of other taken spend.coin.puzzle_hash spend.coin.amount
same-lineage ledger other taken spend alike =
    same-parent ledger other taken spend.coin.puzzle_hash (only_coin (coins_left ledger taken spend.coin.puzzle_hash spend.coin.amount)) alike.parent
    ∙ ap (λ coins. with_parent other taken spend.coin.puzzle_hash (only_coin (
    filter (λ coin. not (is_among taken.spent (coin_id coin))) (coins ++ filter (is_coin_of spend.coin.puzzle_hash spend.coin.amount) taken.created))))
    alike.pair

-- ---- fits

same-moved : (limits : Limits) (ledger other : Ledger) (taken : Taken) (spend : Spend) → LookAlike ledger other taken spend → moved limits ledger taken spend ≡ moved limits other taken spend
same-moved limits ledger other taken spend alike =
    λ j. if ((alike.coin j || is_among (map coin_id taken.created) (coin_id spend.coin)) && not (is_among taken.spent (coin_id spend.coin)))
    then spend else moved_onto spend (shape_of limits.max_cost limits.singleton spend) (same-lineage ledger other taken spend alike j)

same-by-class : (limits : Limits) (ledger other : Ledger) (taken : Taken) (class : Class) (spend : Spend) → (class ≡ Forward → LookAlike ledger other taken spend)
    → fit_by_class limits ledger taken class spend ≡ fit_by_class limits other taken class spend
same-by-class limits ledger other taken Forward spend alike = same-moved limits ledger other taken spend (alike refl)
same-by-class limits ledger other taken Same spend alike = refl
same-by-class limits ledger other taken Plain spend alike = refl

same-fits : (limits : Limits) (ledger other : Ledger) (taken : Taken) (all spends : List Spend)
    → AllByRecursion (λ spend. class_of limits all spend ≡ Forward → LookAlike ledger other taken spend) spends
    → map (λ spend. fit_by_class limits ledger taken (class_of limits all spend) spend) spends
    ≡ map (λ spend. fit_by_class limits other taken (class_of limits all spend) spend) spends
same-fits limits ledger other taken all [] alike = refl
same-fits limits ledger other taken all (spend ∷ spends) alike = λ j.
    same-by-class limits ledger other taken (class_of limits all spend) spend alike.0 j ∷ same-fits limits ledger other taken all spends alike.1 j

pub fit-looks-at : FitLooksAt
unfolding fit_of
fit-looks-at limits ledger other taken bundle alike = same-fits limits ledger other taken bundle.spends bundle.spends alike

-- ---- prices

pub price-stands : PriceStands
unfolding priced
price-stands limits ledger other bundle alike agree =
    let fit = fit-looks-at limits ledger other nothing_taken bundle alike in
    let verdict = spends-look-at-their-coins (terms_of limits) ledger other (fit_of limits ledger nothing_taken bundle) bundle.attested agree in
    ap (price_by bundle (facts_in limits.max_cost (fit_of limits ledger nothing_taken bundle)) (classes_of limits bundle)) verdict
    ∙ ap (λ fit. price_by bundle (facts_in limits.max_cost fit) (classes_of limits bundle) (judgement (terms_of limits) other fit bundle.attested)) fit
