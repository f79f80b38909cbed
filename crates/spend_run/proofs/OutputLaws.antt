-- The first repeated output, one condition after another.
use Rattle.std.proofs.Common.{◌≡◌, ℕ, suc, ◌+◌, ◌<◌, Bool, true, false, cond, not, ◌||◌, Some, None, if◌then◌else◌, List, [], ◌∷◌, length, drop, get_or, refl, ap, sym, ◌∙◌, add-one, drop-cons}
use Rattle.std.specs.List.{list_any}
use Rattle.std.specs.HashSet.{contains}
use Rattle.coin_facts.specs.declared.hash32.Hash32.{Hash32}
use Rattle.coin_facts.specs.IdLists.{repeat_by}
use Rattle.cond_spec.specs.declared.condition.Condition.{Condition}
use Rattle.cond_spec.specs.declared.condition.Condition.TheVariants.{CreateCoin}
use Rattle.cond_spec.specs.ActRules.{creates, is_same_output}
use Rattle.spend_run.specs.declared.own_rules.Output.{Output}
use Rattle.spend_run.specs.Outputs.{OutputSet, is_same_output_of, output_of, is_created_by, HasOutputs, Repeats}

-- ---- lists with a repeat

-- A new element goes to the earlier ones.
pub repeat_by-new : {A : Type 0} (same : A → A → Bool) (earlier xs : List A) (place : ℕ) (d : A) → place < length xs → list_any (λ other. same other (get_or xs place d)) earlier ≡ false → repeat_by same earlier place (drop place xs) ≡ repeat_by same (get_or xs place d ∷ earlier) (place + 1) (drop (place + 1) xs)
repeat_by-new same earlier xs place d h fresh =
    rw (add-one, drop-cons xs place d)
    (ap (λ b. if b then Some place else repeat_by same (get_or xs place d ∷ earlier) (suc place) (drop (suc place) xs)) fresh)

-- An element that is there is the answer.
pub repeat_by-old : {A : Type 0} (same : A → A → Bool) (earlier xs : List A) (place : ℕ) (d : A) → place < length xs → list_any (λ other. same other (get_or xs place d)) earlier ≡ true → repeat_by same earlier place (drop place xs) ≡ Some place
repeat_by-old same earlier xs place d h there =
    rw (drop-cons xs place d)
    (ap (λ b. if b then Some place else repeat_by same (get_or xs place d ∷ earlier) (suc place) (drop (suc place) xs)) there)

-- ---- conditions that create no coin

not-created : (hash : Hash32) (amount : ℕ) (condition : Condition) → output_of condition ≡ None → creates hash amount condition ≡ false
not-created hash amount (CreateCoin other n) e = cc
not-created hash amount _ e = refl

-- It is as none.
none-as : (other condition : Condition) → output_of condition ≡ None → is_same_output other condition ≡ false
none-as (CreateCoin hash amount) condition e = not-created hash amount condition e
none-as _ condition e = refl

-- None is as it.
as-none : (condition other : Condition) → output_of condition ≡ None → is_same_output condition other ≡ false
as-none (CreateCoin hash amount) other e = cc
as-none _ other e = refl

none-among : (earlier : List Condition) (condition : Condition) → output_of condition ≡ None → list_any (λ other. is_same_output other condition) earlier ≡ false
none-among [] condition e = refl
none-among (other ∷ earlier) condition e = (λ i. none-as other condition e i || none-among earlier condition e i)

pub repeats-none : (set : OutputSet) (condition : Condition) (earlier : List Condition) → output_of condition ≡ None → HasOutputs set earlier → Repeats set set earlier condition false
repeats-none set condition earlier e has = record {
  is = sym (none-among earlier condition e);
  more = λ _ output. has output ∙ (λ i. sym (as-none condition (CreateCoin output.puzzle_hash output.amount) e) i || is_created_by earlier output);
}

-- ---- conditions that create one

pub created-is : (condition : Condition) (output : Output) → output_of condition ≡ Some output → condition ≡ CreateCoin output.puzzle_hash output.amount
created-is (CreateCoin hash amount) output e = cc
created-is _ output e = cc

or_is : (b c : Bool) → cond b true c ≡ (b || c)
or_is true c = refl
or_is false c = refl

pub repeats-created : (old new : OutputSet) (output : Output) (earlier : List Condition) (added : Bool) → HasOutputs old earlier
    → added ≡ not (contains is_same_output_of old output)
    → ((q : Output) → contains is_same_output_of new q ≡ cond (is_same_output_of output q) true (contains is_same_output_of old q))
    → Repeats old new earlier (CreateCoin output.puzzle_hash output.amount) (not added)
repeats-created old new output earlier added has is more = record {
  is = ap not is ∙ twice (contains is_same_output_of old output) ∙ has output;
  more = λ _ q. more q ∙ ap (λ b. cond (is_same_output_of output q) true b) (has q) ∙ or_is (is_same_output_of output q) (is_created_by earlier q);
}
  where
    twice : (b : Bool) → not (not b) ≡ b
    twice true = refl
    twice false = refl
