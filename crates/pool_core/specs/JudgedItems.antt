-- What a pool keeps of its bundles: each is Fine on the pool's chain, with its cost and its fee. This project's own.
use Rattle.std.specs.Prelude.{◌≡◌, List, map}
use Rattle.std.specs.List.{AllByRecursion}
use Rattle.block_spec.specs.declared.bundle.Bundle.{Bundle}
use Rattle.chain_spec.specs.Chain.{Chain, ledger_of}
use Rattle.judge_spec.specs.Judgement.{Fine, judgement, terms_of}
use Rattle.judge_spec.specs.declared.limits.Limits.{Limits}
use Rattle.pool_core.specs.ItemView.{ItemView}

abbrev pub IsJudged : Chain → Limits → ItemView → Type 0
IsJudged chain limits item =
    judgement (terms_of limits) (ledger_of chain) item.bundle.spends item.bundle.attested ≡ Fine item.cost item.fee

abbrev pub AreJudged : Chain → Limits → List ItemView → Type 0
AreJudged chain limits items = AllByRecursion (IsJudged chain limits) items

abbrev pub bundles_of : List ItemView → List Bundle
bundles_of items = map (λ item. item.bundle) items
