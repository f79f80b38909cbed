-- Records that are marked several times, and the coins of a block added one by one.
use Rattle.std.proofs.Common.{◌≡◌, ℕ, zero, suc, ◌+◌, ◌-◌, ◌<◌, ◌≤◌, min, Bool, true, false, ◌||◌, not, ◌&&◌, cond, List, [], ◌∷◌, ◌++◌, map, length, take, drop, Option, Some, None, refl, ap, sym, subst, ◌∙◌, arith}
use Rattle.std.specs.Prelude.{is_some, is_none}
use Rattle.std.specs.List.{find, list_any, list_all, IsDistinct, AllByRecursion}
use Rattle.std.specs.Option.{option_or}
use Rattle.std.proofs.lemmas.Bool.{false≢true, and_parts}
use Rattle.std.proofs.lemmas.List.{map-append, length-map, length-take-le, take-take, take_all}
use Rattle.std.proofs.lemmas.List.Folds.{find-append, list_any-append}
use Rattle.coin_facts.specs.declared.hash32.Hash32.{Hash32}
use Rattle.coin_facts.specs.declared.coin.Coin.{Coin}
use Rattle.coin_facts.specs.CoinId.{coin_id}
use Rattle.coin_facts.specs.IdLists.{is_same_id, has_id, is_among}
use Rattle.chain_spec.specs.declared.chain.Record.{Record}
use Rattle.chain_spec.specs.Chain.{Connected, made_at, with_block}
use Rattle.chain_spec.specs.Soundness.{HasDistinctIds}
use Rattle.chain_store.specs.RecordsView.{found_in, AreNew}
use Rattle.chain_store.specs.Marks.{marked, without_last}
use Rattle.chain_store.specs.Blocks.{without_block, without_blocks}
use Rattle.chain_store.proofs.KeyedLaws.{without-last-append}

-- ---- marks

either : (b : Bool) (one : Record) → cond b one one ≡ one
either true one = refl
either false one = refl

one-more : (spent : Option ℕ) (ids : List Hash32) (id : Hash32) (one : Record) → marked spent (id ∷ []) (marked spent ids one) ≡ marked spent (ids ++ id ∷ []) one
one-more spent ids id one =
    by_test (is_among ids (coin_id one.coin)) refl
    ∙ sym (ap (λ b. cond b (record one { spent = spent }) one) (list_any-append (λ other. is_same_id other (coin_id one.coin)) ids (id ∷ [])))
  where
    by_test : (among : Bool) → is_among ids (coin_id one.coin) ≡ among
        → marked spent (id ∷ []) (marked spent ids one) ≡ cond (is_among ids (coin_id one.coin) || (is_same_id id (coin_id one.coin) || false)) (record one { spent = spent }) one
    by_test true is =
        ap (λ b. marked spent (id ∷ []) (cond b (record one { spent = spent }) one)) is
        ∙ either (is_same_id id (coin_id one.coin) || false) (record one { spent = spent })
        ∙ sym (ap (λ b. cond (b || (is_same_id id (coin_id one.coin) || false)) (record one { spent = spent }) one) is)
    by_test false is =
        ap (λ b. marked spent (id ∷ []) (cond b (record one { spent = spent }) one)) is
        ∙ sym (ap (λ b. cond (b || (is_same_id id (coin_id one.coin) || false)) (record one { spent = spent }) one) is)

pub unmarked : (spent : Option ℕ) (list : List Record) → map (marked spent []) list ≡ list
unmarked spent [] = refl
unmarked spent (one ∷ list) = ap (λ others. one ∷ others) (unmarked spent list)

pub marks-more : (spent : Option ℕ) (ids : List Hash32) (id : Hash32) (list : List Record) → map (marked spent (id ∷ [])) (map (marked spent ids) list) ≡ map (marked spent (ids ++ id ∷ [])) list
marks-more spent ids id [] = refl
marks-more spent ids id (one ∷ list) = λ j. one-more spent ids id one j ∷ marks-more spent ids id list j

marked-again : (spent first : Option ℕ) (ids : List Hash32) (one : Record) → marked spent ids (marked first ids one) ≡ marked spent ids one
marked-again spent first ids one = by_test (is_among ids (coin_id one.coin)) refl
  where
    by_test : (among : Bool) → is_among ids (coin_id one.coin) ≡ among → marked spent ids (marked first ids one) ≡ marked spent ids one
    by_test true is =
        ap (λ b. marked spent ids (cond b (record one { spent = first }) one)) is
        ∙ ap (λ b. cond b (record one { spent = spent }) (record one { spent = first })) is
        ∙ sym (ap (λ b. cond b (record one { spent = spent }) one) is)
    by_test false is = ap (λ b. marked spent ids (cond b (record one { spent = first }) one)) is

pub marks-again : (spent first : Option ℕ) (ids : List Hash32) (list : List Record) → map (marked spent ids) (map (marked first ids) list) ≡ map (marked spent ids) list
marks-again spent first ids [] = refl
marks-again spent first ids (one ∷ list) = λ j. marked-again spent first ids one j ∷ marks-again spent first ids list j

-- ---- coins that are added

found-in-append : (list more : List Record) (id : Hash32) → found_in (list ++ more) id ≡ option_or (found_in list id) (found_in more id)
found-in-append list more id = find-append (λ found. has_id id found.coin) list more

is-new : (list : List Record) (id : Hash32) → not (is_some (found_in list id)) ≡ true → found_in list id ≡ None
is-new list id e = by_case (found_in list id) e
  where
    by_case : (o : Option Record) → not (is_some o) ≡ true → o ≡ None
    by_case None e = refl
    by_case (Some one) e = cc

-- The other new ids are new behind one coin more.
still-new : (height seconds : ℕ) (list : List Record) (coin : Coin) (ids : List Hash32) → AllByRecursion (λ id. is_same_id (coin_id coin) id ≡ false) ids
    → list_all (λ id. not (is_some (found_in list id))) ids ≡ true → list_all (λ id. not (is_some (found_in (list ++ made_at height seconds coin ∷ []) id))) ids ≡ true
still-new height seconds list coin [] apart new = refl
still-new height seconds list coin (id ∷ ids) apart new =
    let parts = and_parts (not (is_some (found_in list id))) (list_all (λ other. not (is_some (found_in list other))) ids) new in
    let none : found_in (list ++ made_at height seconds coin ∷ []) id ≡ None =
    found-in-append list (made_at height seconds coin ∷ []) id
    ∙ ap (λ o. option_or o (cond (is_same_id (coin_id coin) id) (Some (made_at height seconds coin)) None)) (is-new list id parts.0)
    ∙ ap (λ b. cond b (Some (made_at height seconds coin)) None) apart.0 in
    λ j. not (is_some (none j)) && still-new height seconds list coin ids apart.1 parts.1 j

-- what is known of a first new coin and of the others
pub record NewStep (height seconds : ℕ) (list : List Record) (coin : Coin) (coins : List Coin) : Type 0 where
  pub first : found_in list (coin_id coin) ≡ None
  pub others : AreNew (list ++ made_at height seconds coin ∷ []) coins

pub new-step : (height seconds : ℕ) (list : List Record) (coin : Coin) (coins : List Coin) → AreNew list (coin ∷ coins) → NewStep height seconds list coin coins
unfolding IsDistinct
new-step height seconds list coin coins new =
    let parts = and_parts (not (is_some (found_in list (coin_id coin)))) (list_all (λ other. not (is_some (found_in list other))) (map coin_id coins)) new.new in
    record {
      first = is-new list (coin_id coin) parts.0;
      others = record { once = new.once.1; new = still-new height seconds list coin (map coin_id coins) new.once.0 parts.1 };
    }

-- ---- the last ones gone

pub without-last-more : {A : Type 0} (count : ℕ) (list : List A) → without_last count (without_last 1 list) ≡ without_last (count + 1) list
without-last-more count list =
    let left = length list - 1 in
    let short : length (take left list) ≡ left = length-take-le left list (omega arith) in
    let fewer : length (take left list) - count ≡ length list - (count + 1) = omega (arith, short) in
    ap (λ n. take n (take left list)) fewer ∙ take-take (length list - (count + 1)) left list (omega arith)

pub without-last-none : {A : Type 0} (list : List A) → without_last 0 list ≡ list
without-last-none list = take_all (length list - 0) list (omega arith)

-- ---- a block taken off again

none-left : (ids : List Hash32) (list : List Record) → AllByRecursion (λ one. is_among ids (coin_id one.coin) ≡ true → one.spent ≡ None) list → map (marked None ids) list ≡ list
none-left ids [] unspent = refl
none-left ids (one ∷ list) unspent = λ j. alone (is_among ids (coin_id one.coin)) refl j ∷ none-left ids list unspent.1 j
  where
    alone : (among : Bool) → is_among ids (coin_id one.coin) ≡ among → marked None ids one ≡ one
    alone true is = ap (λ b. cond b (record one { spent = None }) one) is ∙ ap (λ s. record one { spent = s }) (sym (unspent.0 is))
    alone false is = ap (λ b. cond b (record one { spent = None }) one) is

pub taken-off : (height : ℕ) (block : Connected) (list : List Record) → AllByRecursion (λ one. is_among block.spent (coin_id one.coin) ≡ true → one.spent ≡ None) list
    → without_block block (with_block height block list) ≡ list
taken-off height block list unspent =
    let made = map (made_at height block.seconds) block.created in
    let freed = map (marked None block.spent) made in
    let count : length block.created ≡ length freed = sym (length-map made (marked None block.spent) ∙ length-map block.created (made_at height block.seconds)) in
    ap (without_last (length block.created)) (marks-again None (Some height) block.spent (list ++ made) ∙ map-append (marked None block.spent) list made)
    ∙ without-last-append (map (marked None block.spent) list) freed (length block.created) count
    ∙ none-left block.spent list unspent

pub without-blocks-last : (blocks : List Connected) (block : Connected) (list : List Record) → without_blocks (blocks ++ block ∷ []) list ≡ without_blocks blocks (without_block block list)
without-blocks-last [] block list = refl
without-blocks-last (first ∷ blocks) block list = ap (without_block first) (without-blocks-last blocks block list)

-- ---- lists at their ends

pub no-elements : {A : Type 0} (list : List A) → length list ≡ 0 → list ≡ []
no-elements [] e = refl
no-elements (x ∷ list) e = absurd (omega (arith, e))

pub drop-all : {A : Type 0} (count : ℕ) (list : List A) → length list ≤ count → drop count list ≡ []
drop-all zero [] le = refl
drop-all zero (x ∷ list) le = absurd (omega arith)
drop-all (suc count) [] le = refl
drop-all (suc count) (x ∷ list) le = drop-all count list (omega arith)

pub drop-min : {A : Type 0} (count : ℕ) (list : List A) → drop (min (length list) count) list ≡ drop count list
drop-min zero list = let none : min (length list) zero ≡ zero = omega arith in ap (λ n. drop n list) none
drop-min (suc count) [] = let none : min 0 (suc count) ≡ zero = omega arith in ap (λ n. drop n []) none
drop-min (suc count) (x ∷ list) =
    let fewer : min (suc (length list)) (suc count) ≡ suc (min (length list) count) = omega arith in
    ap (λ n. drop n (x ∷ list)) fewer ∙ drop-min count list
