-- What a store's map holds: for each coin its id and its record, in the order of the coins. Source: this project's own.
use Rattle.std.specs.Prelude.{ℕ, List, map}
use Rattle.coin_facts.specs.declared.hash32.Hash32.{Hash32}
use Rattle.coin_facts.specs.declared.coin.Coin.{Coin}
use Rattle.coin_facts.specs.CoinId.{coin_id}
use Rattle.chain_spec.specs.declared.chain.Record.{Record}
use Rattle.chain_spec.specs.Chain.{start_record}

abbrev pub entry_of : ℕ → Coin → Hash32 × Record
entry_of seconds coin = (coin_id coin, start_record seconds coin)

abbrev pub entries_of : ℕ → List Coin → List (Hash32 × Record)
entries_of seconds coins = map (entry_of seconds) coins
