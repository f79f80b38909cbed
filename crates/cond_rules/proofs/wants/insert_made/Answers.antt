use Rattle.std.proofs.Common.{arith}
use Rattle.cond_rules.proofs.WantLaws.{made-more}
use Rattle.cond_rules.proofs.wants.insert_made.Goals as goal

pub loop-want-preserved : goal.loop-want-preserved
loop-want-preserved c =
    let updates = rw c.unwrap.ensures at c.insert.ensures.updates in
    record {
      made = made-more _ c.loop-want.made.keys _ c.args.wants.now c.loop-want.want-index _ (omega arith) c.loop-want.invariant.made (λ want. updates.0 want);
      room = omega arith;
    }
