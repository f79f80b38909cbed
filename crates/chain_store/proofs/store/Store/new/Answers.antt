use Rattle.std.proofs.Common.{◌≡◌, None, subst, sym}
use Rattle.chain_store.specs.Inside.{Parts, IsInOrder}
use Rattle.chain_store.proofs.StoreLaws.{opened, opened-holds}
use Rattle.chain_store.proofs.store.Store.new.Goals as goal

pub invariant_of-result : goal.invariant_of-result
invariant_of-result c =
    let room = c.new-3.result.room in
    let parts : Parts = record {
      genesis = c.args.genesis;
      seconds = c.args.seconds;
      coins = c.new.result.items;
      blocks = c.new-2.result.items;
      height = 0;
      records = c.new-3.result;
      changes = c.new-4.result.items;
      before = None;
    } in
    let same : parts ≡ opened c.args.genesis c.args.seconds room =
    λ j. record {
      genesis = c.args.genesis;
      seconds = c.args.seconds;
      coins = c.new.ensures.items j;
      blocks = c.new-2.ensures.items j;
      height = 0;
      records = record { list = c.new-3.ensures j; room = room };
      changes = c.new-4.ensures.items j;
      before = None;
    } in
    subst IsInOrder (sym same) (opened-holds c.args.genesis c.args.seconds room)
