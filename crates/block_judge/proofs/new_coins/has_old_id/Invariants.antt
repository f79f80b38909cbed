use Rattle.std.proofs.Common.{◌≡◌, List, ◌++◌, take, drop}
use Rattle.coin_facts.specs.declared.hash32.Hash32.{Hash32}
use Rattle.chain_spec.specs.Chain.{is_in_chain}
use Rattle.block_judge.specs.IdSets.{HasIds}
use Rattle.block_judge.proofs.NewCoinLaws.{adds_old}
use Rattle.block_judge.proofs.new_coins.has_old_id.Given as goal

abbrev pub invariant-loop-id : goal.invariant-loop-id
invariant-loop-id g l = (earlier : List Hash32) → HasIds l.initial.earlier earlier →
    HasIds l.earlier (earlier ++ take l.id-index l.ids)
    × (adds_old (is_in_chain (g.C.Coins.seen l.coins)) (earlier ++ take l.id-index l.ids) (drop l.id-index l.ids) ≡ adds_old (is_in_chain (g.C.Coins.seen l.coins)) earlier l.ids)
