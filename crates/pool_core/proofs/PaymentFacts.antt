-- What a payment's bytes say: its created coins as conditions, and its facts.
use Rattle.std.proofs.Common.{◌≡◌, ℕ, suc, ◌+◌, ◌-◌, ◌==◌, Bool, true, false, ◌||◌, nat_lt, if◌then◌else◌, Option, Some, None, Result, Ok, Err, List, [], ◌∷◌, length, map, refl, ap, ap₂, sym, ◌∙◌, subst, cond, arith, not}
use Rattle.std.specs.Prelude.{option_map, option_and_then, unwrap_or, position}
use Rattle.std.specs.List.{prefix_len, list_any}
use Rattle.std.proofs.lemmas.Bool.{false≢true, eqb-true}
use Rattle.std.proofs.lemmas.Bool.Decides.{nat_tests}
use Rattle.std.proofs.lemmas.List.Sums.{sum_by-cons}
use Rattle.clvm_spec.specs.Tree.{Tree, Atom, Pair}
use Rattle.clvm_spec.specs.ProperList.{elements}
use Rattle.clvm_spec.specs.declared.costs.TheConstants.{QUOTE_COST}
use Rattle.clvm_spec.specs.declared.fuel.Which.TheVariants.{Cost}
use Rattle.clvm_spec.specs.Outcomes.{Outcome, Done, Spent}
use Rattle.clvm_spec.specs.Spending.{exceeds, paid}
use Rattle.clvm_spec.specs.Spelled.{spelled_tree}
use Rattle.clvm_spec.specs.Evaluation.{evaluation, run_outcome, run_cost, fuel_of}
use Rattle.coin_facts.specs.declared.hash32.Hash32.{Hash32}
use Rattle.coin_facts.specs.declared.coin.Coin.{Coin}
use Rattle.coin_facts.specs.CoinId.{coin_id}
use Rattle.coin_facts.specs.Atoms.{hash_of, amount_of}
use Rattle.block_spec.specs.declared.spend.Spend.{Spend}
use Rattle.cond_spec.specs.declared.codes.TheConstants.{CREATE_COIN}
use Rattle.cond_spec.specs.declared.condition.Condition.{Condition}
use Rattle.cond_spec.specs.declared.condition.Condition.TheVariants as conditions
use Rattle.cond_spec.specs.Operands.{two}
use Rattle.cond_spec.specs.Conditions.{Reading, Reads, if_read, condition_of, Listing, Lists, in_front, conditions_from, conditions_of, cost_of_conditions}
use Rattle.cond_spec.specs.ConditionTable.{cost_of_condition}
use Rattle.cond_spec.specs.ActRules.{same_output, differs_from, wrong_own_fact}
use Rattle.judge_spec.specs.Facts.{Facts, acts_of, Breach, OtherPuzzle, RunSpends, consistent, of_listing, of_run, run_of, has_its_puzzle, facts_of, unless_at, SameOutput, OwnFact}
use Rattle.pool_spec.specs.FirstConditions as first
use Rattle.pool_spec.specs.FirstJudgement.{facts_or_none}
use Rattle.pool_spec.specs.Payment.{pays}
use Rattle.pool_core.specs.SpendPayments.{is_paying}
use Rattle.pool_core.proofs.ElementLaws.{with_first, all_of-more}
use Rattle.pool_core.proofs.PaymentLaws.{Pays, PaysNot, paying, other, is_puzzle, facts_with, facts_or_none-is}

abbrev pub created_by : first.Condition → Condition
created_by (first.CreateCoin hash amount) = conditions.CreateCoin hash amount

-- the facts of a spend whose puzzle pays
abbrev pub as_facts : Spend → Facts
as_facts spend = record { spend = spend; cost = (facts_or_none spend).cost; conditions = map created_by (facts_or_none spend).conditions }

-- ---- conditions

by_parts : (h : Option Hash32) (n : Option ℕ) (c : first.Condition) → option_and_then (λ hash. option_map (λ amount. first.CreateCoin hash amount) n) h ≡ Some c
    → if_read (option_and_then (λ hash. option_and_then (λ amount. Some (conditions.CreateCoin hash amount)) n) h) ≡ Reads (created_by c)
by_parts (Some h) (Some n) c e = ap (λ o. if_read (option_map created_by o)) e
by_parts (Some h) None c e = cc
by_parts None n c e = cc

reads_operands : (operands : Tree) (c : first.Condition) → first.create_coin operands ≡ Some c → if_read (two hash_of amount_of conditions.CreateCoin operands) ≡ Reads (created_by c)
reads_operands (Pair hash (Pair amount rest)) c e = by_parts (hash_of hash) (amount_of amount) c e
reads_operands (Pair hash (Atom bytes)) c e = cc
reads_operands (Atom bytes) c e = cc

if_code : Bool → Tree → Option first.Condition
if_code test operands = if test then first.create_coin operands else None

by_code : (b : ℕ) (operands : Tree) (c : first.Condition) (test : Bool) → (b == CREATE_COIN) ≡ test → if_code test operands ≡ Some c
    → condition_of (Pair (Atom (b ∷ [])) operands) ≡ Reads (created_by c)
unfolding if_code
by_code b operands c true same e =
    subst (λ byte. condition_of (Pair (Atom (byte ∷ [])) operands) ≡ Reads (created_by c)) (sym (eqb-true b CREATE_COIN same)) (reads_operands operands c e)
by_code b operands c false same e = cc

reads_condition : (tree : Tree) (c : first.Condition) → first.condition_of tree ≡ Some c → condition_of tree ≡ Reads (created_by c)
unfolding if_code
reads_condition (Pair (Atom (b ∷ [])) operands) c e = by_code b operands c (b == CREATE_COIN) refl e
reads_condition (Pair (Atom []) operands) c e = cc
reads_condition (Pair (Atom (b ∷ d ∷ bytes)) operands) c e = cc
reads_condition (Pair (Pair x y) operands) c e = cc
reads_condition (Atom bytes) c e = cc

created_list : Option (List first.Condition) → Listing
created_list found = Lists (map created_by (unwrap_or found []))

one_more : (place : ℕ) (tree : Tree) (others : Listing) (c : Option first.Condition) (cs : Option (List first.Condition)) (all : List first.Condition)
    → first.condition_of tree ≡ c → ((list : List first.Condition) → cs ≡ Some list → others ≡ Lists (map created_by list))
    → with_first c cs ≡ Some all → in_front place (condition_of tree) others ≡ Lists (map created_by all)
unfolding created_list
one_more place tree others (Some c) (Some cs) all is rest e =
    ap₂ (in_front place) (reads_condition tree c is) (rest cs refl) ∙ ap created_list e
one_more place tree others (Some c) None all is rest e = cc
one_more place tree others None cs all is rest e = cc

-- A payment's value lists the conditions that are read of it.
reads_conditions : (place : ℕ) (value : Tree) (cs : List first.Condition) → first.conditions_of value ≡ Some cs → conditions_from place value ≡ Lists (map created_by cs)
unfolding created_list
reads_conditions place (Atom []) cs e = ap created_list e
reads_conditions place (Atom (b ∷ bytes)) cs e = cc
reads_conditions place (Pair tree rest) cs e =
    one_more place tree (conditions_from (suc place) rest) (first.condition_of tree) (first.conditions_of rest) cs refl
    (reads_conditions (suc place) rest) (sym (all_of-more first.condition_of tree (elements rest)) ∙ e)

cost-created : (cs : List first.Condition) → cost_of_conditions (map created_by cs) ≡ first.cost_of_conditions cs
cost-created [] = refl
cost-created (first.CreateCoin hash amount ∷ cs) =
    sum_by-cons cost_of_condition (conditions.CreateCoin hash amount) (map created_by cs)
    ∙ ap (λ n. first.cost_of_condition (first.CreateCoin hash amount) + n) (cost-created cs)
    ∙ sym (sum_by-cons first.cost_of_condition (first.CreateCoin hash amount) cs)

-- ---- tests that find no created coin

pub any-created : (test : Condition → Bool) (cs : List first.Condition) → ((hash : Hash32) (amount : ℕ) → test (conditions.CreateCoin hash amount) ≡ false) → list_any test (map created_by cs) ≡ false
any-created test [] quiet = refl
any-created test (first.CreateCoin hash amount ∷ cs) quiet = λ j. quiet hash amount j || any-created test cs quiet j

prefix-whole : {A B : Type 0} (test : B → Bool) (f : A → B) (xs : List A) → ((x : A) → test (f x) ≡ false) → prefix_len (λ y. not (test y)) (map f xs) ≡ length (map f xs)
prefix-whole test f [] quiet = refl
prefix-whole test f (x ∷ xs) quiet =
    ap (λ b. cond (not b) (1 + prefix_len (λ y. not (test y)) (map f xs)) 0) (quiet x) ∙ ap (λ n. 1 + n) (prefix-whole test f xs quiet) ∙ more (length (map f xs))
  where
    more : (n : ℕ) → 1 + n ≡ suc n
    more n = omega arith

pub position-nowhere : {A B : Type 0} (test : B → Bool) (f : A → B) (xs : List A) → ((x : A) → test (f x) ≡ false) → position test (map f xs) ≡ None
position-nowhere test f xs quiet =
    ap (λ n. cond (nat_lt n (length (map f xs))) (Some n) None) (prefix-whole test f xs quiet) ∙ ap (λ b. cond b (Some (length (map f xs))) None) (not_less (length (map f xs)))
  where
    not_less : (n : ℕ) → nat_lt n n ≡ false
    not_less n = grind (arith, nat_tests)

-- ---- facts

quoted : (limit : ℕ) (value solution : Tree) → run_outcome (Pair (Atom (1 ∷ [])) value) solution (fuel_of limit) ≡ (if exceeds QUOTE_COST limit then Spent Cost else Done value (paid QUOTE_COST (fuel_of limit)))
unfolding evaluation
quoted limit value solution = refl

-- the facts of conditions that all create coins
the_facts : Spend → ℕ → List first.Condition → Facts
the_facts spend run cs = record { spend = spend; cost = run + cost_of_conditions (map created_by cs); conditions = map created_by cs }

own_facts : (coin : Coin) (cs : List first.Condition) → position (differs_from coin) (map created_by cs) ≡ None
own_facts coin cs = position-nowhere (differs_from coin) created_by cs (λ c. quiet c)
  where
    quiet : (c : first.Condition) → differs_from coin (created_by c) ≡ false
    quiet (first.CreateCoin hash amount) = refl

is_consistent : (spend : Spend) (run : ℕ) (cs : List first.Condition) → same_output (record { coin = spend.coin; conditions = map created_by cs }) ≡ None
    → consistent (the_facts spend run cs) ≡ Ok (the_facts spend run cs)
unfolding the_facts
is_consistent spend run cs once =
    (λ j. unless_at SameOutput (once j) (unless_at OwnFact (own_facts spend.coin cs j) (Ok (the_facts spend run cs))))

by_charge : (limit : ℕ) (spend : Spend) (value : Tree) (cs : List first.Condition) (over : Bool) → exceeds QUOTE_COST limit ≡ over
    → first.conditions_of value ≡ Some cs → same_output (record { coin = spend.coin; conditions = map created_by cs }) ≡ None
    → of_run limit spend (if over then Spent Cost else Done value (paid QUOTE_COST (fuel_of limit))) ≡ (if over then Err RunSpends else Ok (the_facts spend QUOTE_COST cs))
unfolding conditions_of the_facts
by_charge limit spend value cs true over reads once = refl
by_charge limit spend value cs false over reads once =
    ap₂ (of_listing spend) (spent limit over) (reads_conditions 0 value cs reads) ∙ is_consistent spend QUOTE_COST cs once
  where
    spent : (limit : ℕ) → exceeds QUOTE_COST limit ≡ false → limit - (limit - QUOTE_COST) ≡ QUOTE_COST
    spent limit h = grind (arith, nat_tests)

-- A spend whose puzzle pays has these facts, where its puzzle is its coin's and the limit lets the run.
abbrev pub expected : ℕ → Spend → Result Facts Breach
expected limit spend = if has_its_puzzle spend then (if exceeds QUOTE_COST limit then Err RunSpends else Ok (as_facts spend)) else Err OtherPuzzle

pub facts_of-payment : (limit : ℕ) (spend : Spend) → is_paying spend ≡ true → same_output (acts_of (as_facts spend)) ≡ None → facts_of limit spend ≡ expected limit spend
unfolding facts_of the_facts
facts_of-payment limit spend pays once =
    elim (is_puzzle (coin_id spend.coin) (spelled_tree spend.puzzle) (spelled_tree spend.solution)) [
      | paying p ↦
          let is = facts_or_none-is spend p.conditions p.facts in
          let made : as_facts spend ≡ the_facts spend QUOTE_COST p.conditions =
          (λ j. record { spend = spend; cost = (is j).cost; conditions = map created_by (is j).conditions })
          ∙ ap (λ n. record { spend = spend; cost = QUOTE_COST + n; conditions = map created_by p.conditions }) (sym (cost-created p.conditions)) in
          let unrepeated : same_output (record { coin = spend.coin; conditions = map created_by p.conditions }) ≡ None =
          ap (λ facts. same_output (record { coin = spend.coin; conditions = map created_by facts.conditions })) (sym is) ∙ once in
          let run : run_of limit spend ≡ (if exceeds QUOTE_COST limit then Spent Cost else Done p.value (paid QUOTE_COST (fuel_of limit))) =
          ap (λ puzzle. run_outcome puzzle (spelled_tree spend.solution) (fuel_of limit)) p.quotes ∙ quoted limit p.value (spelled_tree spend.solution) in
          let found = ap (of_run limit spend) run ∙ by_charge limit spend p.value p.conditions (exceeds QUOTE_COST limit) refl p.reads unrepeated in
          ap (λ found. if has_its_puzzle spend then found else Err OtherPuzzle) (found ∙ ap (λ facts. if exceeds QUOTE_COST limit then Err RunSpends else Ok facts) (sym made))
      | other p ↦ absurd (false≢true (sym p.pays ∙ pays))
    ]
