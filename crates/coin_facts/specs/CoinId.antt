-- The id of a coin. Source: Chia documentation of the coin set.
use Rattle.std.specs.Prelude.{pos, ◌++◌}
use Rattle.sha2.specs.Sha256.{sha256}
use Rattle.clvm_spec.specs.Numbers.{shortest_atom}
use Rattle.coin_facts.specs.declared.hash32.Hash32.{Hash32}
use Rattle.coin_facts.specs.declared.coin.Coin.{Coin}

-- the hash of parent, puzzle hash and amount, the amount as the shortest atom of its number
abbrev pub coin_id : Coin → Hash32
coin_id coin = record { bytes = sha256 (coin.parent.bytes ++ coin.puzzle_hash.bytes ++ shortest_atom (pos coin.amount)) }
