-- Lists of ids, and what stands in them twice. Source: Chia documentation of the coin set.
use Rattle.std.specs.Prelude.{ℕ, suc, List, [], ◌∷◌, Bool, Option, Some, None, if◌then◌else◌}
use Rattle.std.specs.List.{list_any}
use Rattle.std.specs.Str.{bytes_eq}
use Rattle.coin_facts.specs.declared.hash32.Hash32.{Hash32}
use Rattle.coin_facts.specs.declared.coin.Coin.{Coin}
use Rattle.coin_facts.specs.CoinId.{coin_id}

-- Coins are told apart by their ids.
abbrev pub is_same_id : Hash32 → Hash32 → Bool
is_same_id a b = bytes_eq a.bytes b.bytes

abbrev pub has_id : Hash32 → Coin → Bool
has_id id coin = is_same_id (coin_id coin) id

abbrev pub is_among : List Hash32 → Hash32 → Bool
is_among ids id = list_any (λ other. is_same_id other id) ids

-- the place of the first element that stands at an earlier place too, by a test of sameness
abbrev pub repeat_by : {A : Type 0} → (A → A → Bool) → List A → ℕ → List A → Option ℕ
repeat_by same earlier place [] = None
repeat_by same earlier place (x ∷ xs) = if list_any (λ other. same other x) earlier then Some place else repeat_by same (x ∷ earlier) (suc place) xs

abbrev pub repeat_behind : List Hash32 → ℕ → List Hash32 → Option ℕ
repeat_behind earlier place ids = repeat_by is_same_id earlier place ids
