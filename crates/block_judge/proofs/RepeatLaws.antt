-- The first repeated id, one id after another.
use Rattle.std.proofs.Common.{◌≡◌, ℕ, suc, ◌+◌, ◌<◌, Bool, true, false, cond, not, ◌||◌, Some, if◌then◌else◌, List, ◌∷◌, length, drop, get_or, refl, ap, ◌∙◌, add-one, drop-cons}
use Rattle.std.specs.HashSet.{contains}
use Rattle.coin_facts.specs.declared.hash32.Hash32.{Hash32}
use Rattle.coin_facts.specs.IdLists.{is_same_id}
use Rattle.coin_facts.specs.IdLists.{is_among, repeat_behind}
use Rattle.block_judge.specs.IdSets.{IdSet, HasIds}

-- A new id goes to the earlier ones.
pub repeat_behind-new : (earlier ids : List Hash32) (place : ℕ) (d : Hash32) → place < length ids → is_among earlier (get_or ids place d) ≡ false → repeat_behind earlier place (drop place ids) ≡ repeat_behind (get_or ids place d ∷ earlier) (place + 1) (drop (place + 1) ids)
repeat_behind-new earlier ids place d h fresh =
    rw (add-one, drop-cons ids place d)
    (ap (λ b. if b then Some place else repeat_behind (get_or ids place d ∷ earlier) (suc place) (drop (suc place) ids)) fresh)

-- An id that is there is the answer.
pub repeat_behind-old : (earlier ids : List Hash32) (place : ℕ) (d : Hash32) → place < length ids → is_among earlier (get_or ids place d) ≡ true → repeat_behind earlier place (drop place ids) ≡ Some place
repeat_behind-old earlier ids place d h there =
    rw (drop-cons ids place d)
    (ap (λ b. if b then Some place else repeat_behind (get_or ids place d ∷ earlier) (suc place) (drop (suc place) ids)) there)

or_is : (b c : Bool) → cond b true c ≡ (b || c)
or_is true c = refl
or_is false c = refl

-- a set with one more id
pub HasIds-more : (old new : IdSet) (ids : List Hash32) (id : Hash32) → HasIds old ids → ((q : Hash32) → contains is_same_id new q ≡ cond (is_same_id id q) true (contains is_same_id old q)) → HasIds new (id ∷ ids)
HasIds-more old new ids id has more q =
    more q ∙ ap (λ b. cond (is_same_id id q) true b) (has q) ∙ or_is (is_same_id id q) (is_among ids q)

pub new_from_added : (b : Bool) {added : Bool} → added ≡ true → added ≡ not b → b ≡ false
new_from_added true holds e = cc
new_from_added false holds e = refl

pub old_from_added : (b : Bool) {added : Bool} → added ≡ false → added ≡ not b → b ≡ true
old_from_added true holds e = refl
old_from_added false holds e = cc
