-- Which coins the fit of a bundle spends. Source: this project's own.
use Rattle.std.specs.Prelude.{Bool}
use Rattle.std.specs.List.{list_any}
use Rattle.coin_facts.specs.declared.hash32.Hash32.{Hash32}
use Rattle.coin_facts.specs.IdLists.{is_same_id}
use Rattle.judge_spec.specs.Checks.{id_of}
use Rattle.pool_spec.specs.Prices.{Priced}

abbrev pub spends : Priced → Hash32 → Bool
spends item id = list_any (λ facts. is_same_id (id_of facts) id) item.fit
