use Rattle.block_judge.specs.declared.signing.Pair.{Pair}
use Rattle.block_judge.proofs.SignatureLaws.{pairs-more}
use Rattle.block_judge.proofs.signing.pair_set.Goals as goal

pub loop-signed-preserved : goal.loop-signed-preserved
loop-signed-preserved c =
    let pair : Pair = record { key = c.in_ok-key.key; message = c.in_ok-message.message } in
    pairs-more c.loop-signed.set c.insert.new.self c.args.attested.now c.loop-signed.signed-index c.signed-item.result pair
    c.loop-signed-test.true c.signed-item.is c.in_ok-key.ensures c.in_ok-message.ensures c.loop-signed.invariant c.in_ok-insert.ensures.updates.0
