-- Created ids, one after another, against those in the chain and the earlier ones. Source: this project's own; it is proved
-- that they are the rule on created coins.
use Rattle.std.specs.Prelude.{◌≡◌, ◌||◌, List, [], ◌∷◌, ◌++◌, Bool, false}
use Rattle.coin_facts.specs.declared.hash32.Hash32.{Hash32}
use Rattle.coin_facts.specs.IdLists.{is_among}
use Rattle.judge_spec.specs.Checks.{has_old_id}
use Rattle.block_judge.specs.IdSets.{IdSet, HasIds}

-- Whatever the ids of the old set are: the answer by a test of them, and where none is old, the new set has these too.
pub record Asks (test : List Hash32 → Bool) (old new : IdSet) (earlier ids : List Hash32) (answer : Bool) : Type 0 where
  pub is : answer ≡ test earlier
  pub more : answer ≡ false → HasIds new (earlier ++ ids)

abbrev pub IsOldId : (Hash32 → Bool) → IdSet → IdSet → Hash32 → Bool → Type 0
IsOldId is_there old new id answer =
    (earlier : List Hash32) → HasIds old earlier → Asks (λ before. is_there id || is_among before id) old new earlier (id ∷ []) answer

abbrev pub HasOldId : (Hash32 → Bool) → IdSet → IdSet → List Hash32 → Bool → Type 0
HasOldId is_there old new ids answer =
    (earlier : List Hash32) → HasIds old earlier → Asks (λ before. has_old_id is_there before ids) old new earlier ids answer
