-- Ids of which none stands twice, one list of them after another.
use Rattle.std.proofs.Common.{◌≡◌, ℕ, suc, ◌==◌, Bool, true, false, ◌&&◌, ◌||◌, not, if◌then◌else◌, Option, Some, None, List, [], ◌∷◌, ◌++◌, map, refl, ap, sym, ◌∙◌}
use Rattle.std.specs.Prelude.{is_some}
use Rattle.std.specs.List.{list_any, list_all, flat_map}
use Rattle.std.specs.Str.{bytes_eq}
use Rattle.std.proofs.lemmas.Bool.{false≢true, eqb-true}
use Rattle.std.proofs.lemmas.Slice.Eq.{bytes_eq-Decides}
use Rattle.std.proofs.lemmas.List.Folds.{list_any-append}
use Rattle.coin_facts.specs.declared.hash32.Hash32.{Hash32}
use Rattle.coin_facts.specs.CoinId.{coin_id}
use Rattle.coin_facts.specs.IdLists.{is_same_id, is_among, repeat_by, repeat_behind}
use Rattle.cond_spec.specs.declared.condition.Condition.{Condition}
use Rattle.cond_spec.specs.declared.condition.Condition.TheVariants as conditions
use Rattle.cond_spec.specs.ActRules.{is_same_output}
use Rattle.judge_spec.specs.Checks.{has_old_id, old_id_from}
use Rattle.pool_spec.specs.FirstConditions as first
use Rattle.pool_spec.specs.FirstJudgement.{coin_of}
use Rattle.pool_core.proofs.PaymentFacts.{created_by}

-- none is among earlier ones, by a test, nor stands before itself
abbrev pub Fresh : (Hash32 → Bool) → List Hash32 → Type 0
Fresh earlier [] = Unit {0}
Fresh earlier (id ∷ ids) = (earlier id ≡ false) × Fresh (λ other. is_same_id id other || earlier other) ids

from_step : (earlier ids : List Hash32) (place : ℕ) (id : Hash32) (there : Bool) → is_among earlier id ≡ there
    → (repeat_behind (id ∷ earlier) (suc place) ids ≡ None → Fresh (is_among (id ∷ earlier)) ids)
    → (if there then Some place else repeat_behind (id ∷ earlier) (suc place) ids) ≡ None → Fresh (is_among earlier) (id ∷ ids)
from_step earlier ids place id true is more e = cc
from_step earlier ids place id false is more e = (is, more e)

pub fresh-from : (earlier : List Hash32) (place : ℕ) (ids : List Hash32) → repeat_behind earlier place ids ≡ None → Fresh (is_among earlier) ids
fresh-from earlier place [] e = tt
fresh-from earlier place (id ∷ ids) e =
    from_step earlier ids place id (is_among earlier id) refl (fresh-from (id ∷ earlier) (suc place) ids) e

none-from : (earlier : List Hash32) (place : ℕ) (ids : List Hash32) → Fresh (is_among earlier) ids → repeat_behind earlier place ids ≡ None
none-from earlier place [] f = refl
none-from earlier place (id ∷ ids) f =
    ap (λ there. if there then Some place else repeat_behind (id ∷ earlier) (suc place) ids) f.0 ∙ none-from (id ∷ earlier) (suc place) ids f.1

fresh-same : (a b : Hash32 → Bool) (ids : List Hash32) → ((id : Hash32) → a id ≡ b id) → Fresh a ids → Fresh b ids
fresh-same a b [] same f = tt
fresh-same a b (id ∷ ids) same f =
    (sym (same id) ∙ f.0, fresh-same (λ other. is_same_id id other || a other) (λ other. is_same_id id other || b other) ids (λ other j. is_same_id id other || same other j) f.1)

pub fresh-front : (a : Hash32 → Bool) (ids more : List Hash32) → Fresh a (ids ++ more) → Fresh a ids
fresh-front a [] more f = tt
fresh-front a (id ∷ ids) more f = (f.0, fresh-front (λ other. is_same_id id other || a other) ids more f.1)

turned : (x y z : Bool) → (x || (y || z)) ≡ ((y || x) || z)
turned true true z = refl
turned true false z = refl
turned false true z = refl
turned false false z = refl

pub fresh-back : (a : Hash32 → Bool) (ids more : List Hash32) → Fresh a (ids ++ more) → Fresh (λ id. is_among ids id || a id) more
fresh-back a [] more f = f
fresh-back a (id ∷ ids) more f =
    fresh-same (λ other. is_among ids other || (is_same_id id other || a other)) (λ other. is_among (id ∷ ids) other || a other) more
    (λ other. turned (is_among ids other) (is_same_id id other) (a other)) (fresh-back (λ other. is_same_id id other || a other) ids more f.1)

-- ---- rule 23

either : (x y : Bool) → (x || y) ≡ false → (x ≡ false) × (y ≡ false)
either false false e = (refl, refl)
either false true e = cc
either true y e = cc

swapped : (x y : Bool) → (x || y) ≡ (y || x)
swapped true true = refl
swapped true false = refl
swapped false true = refl
swapped false false = refl

abbrev pub together : List (List Hash32) → List Hash32
together lists = flat_map (λ ids. ids) lists

pub no_old_id : (there : Hash32 → Bool) (earlier : List Hash32) (place : ℕ) (lists : List (List Hash32)) → Fresh (is_among earlier) (together lists)
    → list_any there (together lists) ≡ false → old_id_from there earlier place lists ≡ None
no_old_id there earlier place [] f new = refl
no_old_id there earlier place (ids ∷ others) f new =
    let both = either (list_any there ids) (list_any there (together others)) (sym (list_any-append there ids (together others)) ∙ new) in
    let once = none-from earlier 0 ids (fresh-front (is_among earlier) ids (together others) f) in
    let has : has_old_id there earlier ids ≡ false = λ j. both.0 j || is_some (once j) in
    let grown = fresh-same (λ id. is_among ids id || is_among earlier id) (is_among (earlier ++ ids)) (together others)
    (λ id. swapped (is_among ids id) (is_among earlier id) ∙ sym (list_any-append (λ other. is_same_id other id) earlier ids))
    (fresh-back (is_among earlier) ids (together others) f) in
    ap (λ old. if old then Some place else old_id_from there (earlier ++ ids) (suc place) others) has
    ∙ no_old_id there (earlier ++ ids) (suc place) others grown both.1

none_there : (b : Bool) (rest : Bool) → (not b && rest) ≡ true → (b ≡ false) × (rest ≡ true)
none_there true rest e = cc
none_there false rest e = (refl, e)

pub any_there : (there : Hash32 → Bool) (ids : List Hash32) → list_all (λ id. not (there id)) ids ≡ true → list_any there ids ≡ false
any_there there [] e = refl
any_there there (id ∷ ids) e =
    let both = none_there (there id) (list_all (λ id. not (there id)) ids) e in
    λ j. both.0 j || any_there there ids both.1 j

-- ---- rule 9

both_hold : (x y : Bool) → (x && y) ≡ true → (x ≡ true) × (y ≡ true)
both_hold true true e = (refl, refl)
both_hold true false e = cc
both_hold false y e = cc

made : Hash32 → List ℕ → ℕ → List ℕ
made parent hash amount = (coin_id (record { parent = parent; puzzle_hash = record { bytes = hash }; amount = amount })).bytes

same_made : (parent hash other : Hash32) (amount n : ℕ) → (is_same_id hash other && (amount == n)) ≡ true
    → is_same_id (coin_id (coin_of parent (first.CreateCoin hash amount))) (coin_id (coin_of parent (first.CreateCoin other n))) ≡ true
unfolding made
same_made parent hash other amount n e =
    let both = both_hold (is_same_id hash other) (amount == n) e in
    let hashes = (bytes_eq-Decides hash.bytes other.bytes).0 both.0 in
    let amounts = eqb-true amount n both.1 in
    (bytes_eq-Decides (made parent hash.bytes amount) (made parent other.bytes n)).1 (λ j. made parent (hashes j) (amounts j))

seen_step : (same more : Bool) (equal earlier : Bool) → (same || more) ≡ true → (same ≡ true → equal ≡ true) → (more ≡ true → earlier ≡ true) → (equal || earlier) ≡ true
seen_step true more equal earlier e here before = ap (λ b. b || earlier) (here refl)
seen_step false true true earlier e here before = refl
seen_step false true false earlier e here before = before refl
seen_step false false equal earlier e here before = cc

fresh_test : (b : Bool) (earlier : Bool) → (b ≡ true → earlier ≡ true) → earlier ≡ false → b ≡ false
fresh_test true earlier seen new = absurd (false≢true (sym new ∙ seen refl))
fresh_test false earlier seen new = refl

pub no_same_output : (parent : Hash32) (a : Hash32 → Bool) (earlier : List Condition) (place : ℕ) (cs : List first.Condition)
    → Fresh a (map coin_id (map (coin_of parent) cs))
    → ((hash : Hash32) (amount : ℕ) → list_any (λ other. is_same_output other (conditions.CreateCoin hash amount)) earlier ≡ true → a (coin_id (coin_of parent (first.CreateCoin hash amount))) ≡ true)
    → repeat_by is_same_output earlier place (map created_by cs) ≡ None
no_same_output parent a earlier place [] f seen = refl
no_same_output parent a earlier place (first.CreateCoin hash amount ∷ cs) f seen =
    let id = coin_id (coin_of parent (first.CreateCoin hash amount)) in
    let new = fresh_test (list_any (λ other. is_same_output other (conditions.CreateCoin hash amount)) earlier) (a id) (seen hash amount) f.0 in
    ap (λ old. if old then Some place else repeat_by is_same_output (conditions.CreateCoin hash amount ∷ earlier) (suc place) (map created_by cs)) new
    ∙ no_same_output parent (λ other. is_same_id id other || a other) (conditions.CreateCoin hash amount ∷ earlier) (suc place) cs f.1
    (λ other n h. seen_step (is_same_id hash other && (amount == n)) (list_any (λ before. is_same_output before (conditions.CreateCoin other n)) earlier)
    (is_same_id id (coin_id (coin_of parent (first.CreateCoin other n)))) (a (coin_id (coin_of parent (first.CreateCoin other n)))) h
    (same_made parent hash other amount n) (seen other n))
