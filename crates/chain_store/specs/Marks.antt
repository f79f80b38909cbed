-- Records whose coins are marked as spent, or as unspent again. Source: this project's own.
use Rattle.std.specs.Prelude.{ℕ, ◌-◌, List, length, take, Option, if◌then◌else◌}
use Rattle.coin_facts.specs.declared.hash32.Hash32.{Hash32}
use Rattle.coin_facts.specs.CoinId.{coin_id}
use Rattle.coin_facts.specs.IdLists.{is_among}
use Rattle.chain_spec.specs.declared.chain.Record.{Record}

-- with this height as that at which it was spent, or with none, where its coin's id is among these
abbrev pub marked : Option ℕ → List Hash32 → Record → Record
marked spent ids found = if is_among ids (coin_id found.coin) then record found { spent = spent } else found

abbrev pub without_last : {A : Type 0} → ℕ → List A → List A
without_last count list = take (length list - count) list
