use Rattle.std.proofs.Common.{◌≡◌, List, [], map, drop}
use Rattle.coin_facts.specs.declared.hash32.Hash32.{Hash32}
use Rattle.chain_spec.specs.Chain.{is_in_chain}
use Rattle.judge_spec.specs.Facts.{acts_of}
use Rattle.judge_spec.specs.Checks.{old_id_from, created_by_each}
use Rattle.block_judge.specs.IdSets.{HasIds}
use Rattle.block_judge.proofs.new_coins.coin_exists.Given as goal

abbrev pub invariant-loop-place : goal.invariant-loop-place
invariant-loop-place g l = (earlier : List Hash32) × HasIds l.earlier earlier
    × (old_id_from (is_in_chain (g.C.Coins.seen l.coins)) earlier l.place (created_by_each (map acts_of (drop l.place l.list)))
    ≡ old_id_from (is_in_chain (g.C.Coins.seen l.coins)) [] 0 (created_by_each (map acts_of l.list)))
