use Rattle.std.proofs.Common.{subst}
use Rattle.std.specs.List.{IsDistinct}
use Rattle.coin_facts.specs.IdLists.{is_same_id}
use Rattle.chain_spec.specs.Chain.{records_of}
use Rattle.chain_spec.specs.ChainLaws.{ids_of}
use Rattle.chain_spec.proofs.DistinctLaws.{records-apart}
use Rattle.coin_store.specs.Inside.{chain_of}
use Rattle.coin_store.proofs.store.StoreCoins.peak.Goals as goal

-- A chain of coins with distinct ids and of no blocks is sound.
pub returns-clause-apart : goal.returns-clause-apart
returns-clause-apart c =
    subst (λ chain. IsDistinct is_same_id (ids_of (records_of chain))) c.self.view_is
    (records-apart (chain_of c.self.inside) (c.self.invariant.distinct, tt))
