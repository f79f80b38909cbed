use Rattle.std.proofs.lemmas.Int.{to_z-of_z}
use Rattle.clvm_tree.proofs.NodeLaws.{grows_on}
use Rattle.clvm_ops.proofs.DivisionLaws.{grows_either, paired_either}
use Rattle.clvm_ops.proofs.division.pair_of_two.Goals as goal

pub returns-clause-grows : goal.returns-clause-grows
returns-clause-grows c =
    let last = grows_either c.put_number-2.new.self c.pair.new.self _ c.pair.result c.pair.ensures.ok c.pair.ensures.out_of_memory in
    grows_on c.args.trees.now c.put_number-2.new.self c.pair.new.self (grows_on c.args.trees.now c.put_number.new.self c.put_number-2.new.self c.in_ok-first.ensures.ok.grows c.in_ok-second.ensures.ok.grows) last

pub returns-clause-pair : goal.returns-clause-pair
returns-clause-pair c =
    let first = simp (to_z-of_z, c.ranges.first) at c.in_ok-first.ensures.ok in
    let second = simp (to_z-of_z, c.ranges.second) at c.in_ok-second.ensures.ok in
    paired_either c.args.trees.now c.put_number.new.self c.put_number-2.new.self c.pair.new.self _ _ c.in_ok-first.first.0 c.in_ok-second.second.0 c.pair.result first second c.pair.ensures.ok
