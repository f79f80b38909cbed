-- What holds of a flat list, by the lists that it comes from.
use Rattle.std.proofs.Common.{◌≡◌, ◌&&◌, Bool, List, [], ◌∷◌, ◌++◌, map, refl, ap, sym, ◌∙◌}
use Rattle.std.specs.List.{list_all, flat_map}
use Rattle.std.proofs.lemmas.List.{map-append}
use Rattle.std.proofs.lemmas.List.Folds.{list_all-append}
use Rattle.coin_facts.specs.declared.coin.Coin.{Coin}
use Rattle.coin_facts.specs.CoinId.{coin_id}
use Rattle.cond_spec.specs.declared.condition.Condition.{Condition}
use Rattle.cond_spec.specs.Acts.{coin_made, of_spend, created_ids}
use Rattle.judge_spec.specs.Facts.{Facts, acts_of}
use Rattle.block_judge.specs.IdSets.{ids_made}

pub all_flat : {A B : Type 0} (test : B → Bool) (f : A → List B) (xs : List A) → list_all (λ x. list_all test (f x)) xs ≡ list_all test (flat_map f xs)
all_flat test f [] = refl
all_flat test f (x ∷ xs) = ap (λ b. list_all test (f x) && b) (all_flat test f xs) ∙ sym (list_all-append test (f x) (flat_map f xs))

pub map_flat : {A B C : Type 0} (g : B → C) (f : A → List B) (xs : List A) → flat_map (λ x. map g (f x)) xs ≡ map g (flat_map f xs)
map_flat g f [] = refl
map_flat g f (x ∷ xs) = ap (λ l. map g (f x) ++ l) (map_flat g f xs) ∙ sym (map-append g (f x) (flat_map f xs))

-- of what is kept of each
pub flat_of_map : {A B C : Type 0} (g : A → B) (f : B → List C) (xs : List A) → flat_map (λ x. f (g x)) xs ≡ flat_map f (map g xs)
flat_of_map g f [] = refl
flat_of_map g f (x ∷ xs) = ap (λ l. f (g x) ++ l) (flat_of_map g f xs)

-- ---- created ids

pub made_flat : (coin : Coin) (conditions : List Condition) → flat_map (ids_made coin) conditions ≡ map coin_id (flat_map (coin_made coin) conditions)
made_flat coin conditions = map_flat coin_id (coin_made coin) conditions

pub created_flat : (list : List Facts) → flat_map (λ facts. map coin_id (of_spend coin_made (acts_of facts))) list ≡ created_ids (map acts_of list)
created_flat list =
    map_flat coin_id (λ facts. of_spend coin_made (acts_of facts)) list ∙ ap (map coin_id) (flat_of_map acts_of (of_spend coin_made) list)
