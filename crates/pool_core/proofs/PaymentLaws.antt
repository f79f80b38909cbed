-- A puzzle pays exactly where its coins are read, and these are the coins of its spend.
use Rattle.std.proofs.Common.{◌≡◌, ℕ, suc, ◌+◌, ◌*◌, ◌==◌, Bool, true, false, ◌&&◌, if◌then◌else◌, Option, Some, None, List, [], ◌∷◌, length, map, refl, ap, sym, ◌∙◌, subst, arith}
use Rattle.std.specs.Prelude.{is_some, option_map, option_and_then, unwrap_or}
use Rattle.std.proofs.lemmas.Bool.{false≢true, eqb-true}
use Rattle.std.proofs.lemmas.List.Sums.{sum_by-cons}
use Rattle.clvm_spec.specs.Tree.{Tree, Atom, Pair, nil}
use Rattle.clvm_spec.specs.ProperList.{elements}
use Rattle.clvm_spec.specs.Reading.{tree_of}
use Rattle.clvm_spec.specs.Hashing.{tree_hash}
use Rattle.clvm_spec.specs.Evaluation.{evaluation}
use Rattle.coin_facts.specs.declared.hash32.Hash32.{Hash32}
use Rattle.coin_facts.specs.declared.coin.Coin.{Coin}
use Rattle.coin_facts.specs.CoinId.{coin_id}
use Rattle.block_spec.specs.declared.spend.Spend.{Spend}
use Rattle.clvm_spec.specs.Spelled.{spelled_tree}
use Rattle.pool_spec.specs.FirstRuns.{run_of}
use Rattle.clvm_spec.specs.declared.costs.TheConstants.{QUOTE_COST}
use Rattle.cond_spec.specs.declared.costs.TheConstants.{CREATE_COIN_COST}
use Rattle.pool_spec.specs.FirstConditions.{Condition, CreateCoin, condition_of, conditions_of, cost_of_condition, cost_of_conditions}
use Rattle.pool_spec.specs.FirstJudgement.{Facts, coin_of, facts_of_run, facts_of, facts_or_none, coins_made_by}
use Rattle.pool_spec.specs.Payment.{is_triple, are_triples, pays}
use Rattle.pool_core.specs.declared.payment.Payment.{Payment}
use Rattle.pool_core.specs.Payments.{paid_coin, paid_coins, quoted_coins}
use Rattle.pool_core.specs.SpendPayments.{payment_at, is_paying, IsPayment}
use Rattle.pool_core.proofs.ElementLaws.{with_first, all_of-more}

-- the coins of the conditions, where all are triples
made : Hash32 → Bool → Option (List Condition) → Option (List Coin)
made parent triples conditions = if triples then option_map (map (coin_of parent)) conditions else None

-- one condition more in front
made-more : (parent : Hash32) (triple : Bool) (condition : Option Condition) (triples : Bool) (conditions : Option (List Condition))
    → with_first (if triple then option_map (coin_of parent) condition else None) (made parent triples conditions)
    ≡ made parent (triple && triples) (with_first condition conditions)
unfolding made
made-more parent true (Some c) true (Some cs) = refl
made-more parent true (Some c) true None = refl
made-more parent true (Some c) false cs = refl
made-more parent true None true cs = refl
made-more parent true None false cs = refl
made-more parent false c triples cs = refl

paid_coins-made : (parent : Hash32) (value : Tree) → paid_coins parent value ≡ made parent (are_triples value) (conditions_of value)
unfolding made
paid_coins-made parent (Atom []) = refl
paid_coins-made parent (Atom (b ∷ bytes)) = refl
paid_coins-made parent (Pair first rest) =
    all_of-more (paid_coin parent) first (elements rest)
    ∙ ap (with_first (paid_coin parent first)) (paid_coins-made parent rest)
    ∙ made-more parent (is_triple first) (condition_of first) (are_triples rest) (conditions_of rest)
    ∙ ap (made parent (is_triple first && are_triples rest)) (sym (all_of-more condition_of first (elements rest)))

-- The run of a quoted puzzle is done with what is quoted, whatever the solution.
quoted_run : (value solution : Tree) → run_of (Pair (Atom (1 ∷ [])) value) solution ≡ Some (record { value = value; cost = QUOTE_COST })
unfolding evaluation
quoted_run value solution = refl

abbrev pub facts_with : List Condition → Facts
facts_with conditions = record { cost = QUOTE_COST + cost_of_conditions conditions; conditions = conditions }

-- What a puzzle says that pays: its conditions, and the coins that are read of it.
pub record Pays (parent : Hash32) (puzzle solution : Tree) : Type 0 where
  pub conditions : List Condition
  pub value : Tree
  pub quotes : puzzle ≡ Pair (Atom (1 ∷ [])) value
  pub reads : conditions_of value ≡ Some conditions
  pub pays : pays puzzle ≡ true
  pub coins : quoted_coins parent puzzle ≡ Some (map (coin_of parent) conditions)
  pub facts : option_and_then facts_of_run (run_of puzzle solution) ≡ Some (facts_with conditions)

pub record PaysNot (parent : Hash32) (puzzle : Tree) : Type 0 where
  pub pays : pays puzzle ≡ false
  pub coins : quoted_coins parent puzzle ≡ None

pub data IsPuzzle (parent : Hash32) (puzzle solution : Tree) : Type 0 where
  paying : Pays parent puzzle solution → IsPuzzle parent puzzle solution
  other : PaysNot parent puzzle → IsPuzzle parent puzzle solution

none_made : (parent : Hash32) (triples : Bool) → made parent triples None ≡ None
unfolding made
none_made parent true = refl
none_made parent false = refl

by_value : (parent : Hash32) (value solution : Tree) (conditions : Option (List Condition)) (triples : Bool) → conditions_of value ≡ conditions → are_triples value ≡ triples → IsPuzzle parent (Pair (Atom (1 ∷ [])) value) solution
unfolding made
by_value parent value solution (Some cs) true read all =
    paying (record {
      conditions = cs;
      value = value;
      quotes = refl;
      reads = read;
      pays = ap (λ c. is_some c && are_triples value) read ∙ all;
      coins = paid_coins-made parent value ∙ ap (λ t. made parent t (conditions_of value)) all ∙ ap (made parent true) read;
      facts = ap (option_and_then facts_of_run) (quoted_run value solution) ∙ ap (option_map facts_with) read;
    })
by_value parent value solution (Some cs) false read all =
    other (record {
      pays = ap (λ c. is_some c && are_triples value) read ∙ all;
      coins = paid_coins-made parent value ∙ ap (λ t. made parent t (conditions_of value)) all;
    })
by_value parent value solution None triples read all =
    other (record {
      pays = ap (λ c. is_some c && are_triples value) read;
      coins = paid_coins-made parent value ∙ ap (made parent (are_triples value)) read ∙ none_made parent (are_triples value);
    })

by_code : (parent : Hash32) (code : ℕ) (value solution : Tree) (test : Bool) → (code == 1) ≡ test → IsPuzzle parent (Pair (Atom (code ∷ [])) value) solution
by_code parent code value solution true same =
    subst (λ byte. IsPuzzle parent (Pair (Atom (byte ∷ [])) value) solution) (sym (eqb-true code 1 same))
    (by_value parent value solution (conditions_of value) (are_triples value) refl refl)
by_code parent code value solution false differs =
    other (record {
      pays = ap (λ b. b && is_some (conditions_of value) && are_triples value) differs;
      coins = ap (λ b. if b then paid_coins parent value else None) differs;
    })

-- Every puzzle pays or doesn't.
pub is_puzzle : (parent : Hash32) (puzzle solution : Tree) → IsPuzzle parent puzzle solution
is_puzzle parent (Atom bytes) solution = other (record { pays = refl; coins = refl })
is_puzzle parent (Pair (Pair a b) value) solution = other (record { pays = refl; coins = refl })
is_puzzle parent (Pair (Atom []) value) solution = other (record { pays = refl; coins = refl })
is_puzzle parent (Pair (Atom (code ∷ [])) value) solution = by_code parent code value solution (code == 1) refl
is_puzzle parent (Pair (Atom (code ∷ b ∷ bytes)) value) solution = other (record { pays = refl; coins = refl })

no_facts : Facts
no_facts = record { cost = 0; conditions = [] }

pub facts_or_none-is : (spend : Spend) (conditions : List Condition) → facts_of spend ≡ Some (facts_with conditions) → facts_or_none spend ≡ facts_with conditions
unfolding no_facts
facts_or_none-is spend conditions e = ap (λ found. unwrap_or found no_facts) e

pub payment_at-is : (spend : Spend) → IsPayment spend (payment_at spend.coin (spelled_tree spend.puzzle))
payment_at-is spend =
    elim (is_puzzle (coin_id spend.coin) (spelled_tree spend.puzzle) (spelled_tree spend.solution)) [
      | paying p ↦
          let with_coins : List Coin → Payment = λ coins. record { puzzle_hash = record { bytes = tree_hash (spelled_tree spend.puzzle) }; created = coins } in
          let facts = facts_or_none-is spend p.conditions p.facts in
          let created : map (coin_of (coin_id spend.coin)) p.conditions ≡ coins_made_by spend = ap (λ f. map (coin_of (coin_id spend.coin)) f.conditions) (sym facts) in
          subst (IsPayment spend) (sym (ap (option_map with_coins) p.coins)) (p.pays, ap with_coins created)
      | other p ↦ subst (IsPayment spend) (sym (ap (option_map (λ coins. record { puzzle_hash = record { bytes = tree_hash (spelled_tree spend.puzzle) }; created = coins })) p.coins)) p.pays
    ]

-- the same of what is read of the tree that the puzzle spells
pub payment_at-read : (spend : Spend) (tree : Tree) (found : Option Payment) → tree_of spend.puzzle ≡ Some tree → found ≡ payment_at spend.coin tree → IsPayment spend found
payment_at-read spend tree found read e =
    let spelled : spelled_tree spend.puzzle ≡ tree = ap (λ t. unwrap_or t nil) read in
    subst (IsPayment spend) (sym (e ∙ ap (payment_at spend.coin) (sym spelled))) (payment_at-is spend)

cost_of_conditions-is : (conditions : List Condition) → cost_of_conditions conditions ≡ CREATE_COIN_COST * length conditions
cost_of_conditions-is [] = refl
cost_of_conditions-is (CreateCoin hash amount ∷ conditions) =
    let one_more = sum_by-cons cost_of_condition (CreateCoin hash amount) conditions in
    let longer : length (CreateCoin hash amount ∷ conditions) ≡ suc (length conditions) = refl in
    let more = cost_of_conditions-is conditions in
    omega arith

length-map_is : {A B : Type 0} (f : A → B) (xs : List A) → length (map f xs) ≡ length xs
length-map_is f [] = refl
length-map_is f (x ∷ xs) = ap suc (length-map_is f xs)

-- what the run of a paying puzzle and its conditions cost
pub paying_cost : (spend : Spend) → is_paying spend ≡ true → (facts_or_none spend).cost ≡ QUOTE_COST + CREATE_COIN_COST * length (coins_made_by spend)
paying_cost spend pays =
    elim (is_puzzle (coin_id spend.coin) (spelled_tree spend.puzzle) (spelled_tree spend.solution)) [
      | paying p ↦
          let facts = facts_or_none-is spend p.conditions p.facts in
          let long : length (coins_made_by spend) ≡ length p.conditions = ap (λ f. length (map (coin_of (coin_id spend.coin)) f.conditions)) facts ∙ length-map_is (coin_of (coin_id spend.coin)) p.conditions in
          ap (λ f. f.cost) facts ∙ ap (λ n. QUOTE_COST + n) (cost_of_conditions-is p.conditions ∙ ap (λ n. CREATE_COIN_COST * n) (sym long))
      | other p ↦ absurd (false≢true (sym p.pays ∙ pays))
    ]
