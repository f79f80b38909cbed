-- The names of members, as objects have them and as faults tell them. Source: those of bundles, spends and coins are those
-- of the Chia documentation; the others are this project's own.
use Rattle.std.specs.Prelude.{ℕ, List, codes}
use Rattle.session_spec.specs.declared.member.Member.{Member}
use Rattle.session_spec.specs.declared.member.Member.TheVariants as member

abbrev pub name_of : Member → List ℕ
name_of member.Session = codes "session"
name_of member.Genesis = codes "genesis"
name_of member.Seconds = codes "seconds"
name_of member.Lanes = codes "lanes"
name_of member.MaxCost = codes "max_cost"
name_of member.PoolCost = codes "pool_cost"
name_of member.Reward = codes "reward"
name_of member.Module = codes "module"
name_of member.Source = codes "source"
name_of member.Curry = codes "curry"
name_of member.Arguments = codes "arguments"
name_of member.Singleton = codes "singleton"
name_of member.Coin = codes "coin"
name_of member.ParentCoinInfo = codes "parent_coin_info"
name_of member.PuzzleHash = codes "puzzle_hash"
name_of member.Amount = codes "amount"
name_of member.Do = codes "do"
name_of member.Lane = codes "lane"
name_of member.Bundle = codes "bundle"
name_of member.CoinSpends = codes "coin_spends"
name_of member.PuzzleReveal = codes "puzzle_reveal"
name_of member.Solution = codes "solution"
name_of member.Attested = codes "attested"
name_of member.RewardHash = codes "reward_hash"
name_of member.Bytes = codes "bytes"
name_of member.Blocks = codes "blocks"
name_of member.Id = codes "id"
