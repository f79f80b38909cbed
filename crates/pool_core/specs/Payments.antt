-- The coins of a payment's conditions. Source: Chia documentation of conditions; that a payment lists nothing but
-- (51 HASH AMOUNT) is this project's own.
use Rattle.std.specs.Prelude.{List, Option, None, option_map, option_and_then, if◌then◌else◌}
use Rattle.clvm_spec.specs.Tree.{Tree, Atom, Pair}
use Rattle.clvm_spec.specs.ProperList.{elements}
use Rattle.clvm_spec.specs.Evaluation.{is_code}
use Rattle.coin_facts.specs.declared.hash32.Hash32.{Hash32}
use Rattle.coin_facts.specs.declared.coin.Coin.{Coin}
use Rattle.coin_facts.specs.Steps.{all_of}
use Rattle.pool_spec.specs.FirstConditions.{condition_of}
use Rattle.pool_spec.specs.FirstJudgement.{coin_of}
use Rattle.pool_spec.specs.Payment.{is_triple}

-- the coin that one (51 HASH AMOUNT) makes
abbrev pub paid_coin : Hash32 → Tree → Option Coin
paid_coin parent condition = if is_triple condition then option_map (coin_of parent) (condition_of condition) else None

-- the coins of a proper list of them, from the first
abbrev pub paid_coins : Hash32 → Tree → Option (List Coin)
paid_coins parent value = option_and_then (all_of (paid_coin parent)) (elements value)

-- the coins of (q . X)
abbrev pub quoted_coins : Hash32 → Tree → Option (List Coin)
quoted_coins parent (Pair first value) = if is_code 1 first then paid_coins parent value else None
quoted_coins parent (Atom bytes) = None
