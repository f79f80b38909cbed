use Rattle.std.proofs.Common.{◌≡◌, ◌<◌, ◌^◌, None, length, ap, sym, subst, ◌∙◌}
use Rattle.std.specs.Prelude.{slice_range}
use Rattle.chain_spec.specs.StoreViews.{reverted}
use Rattle.chain_store.specs.Blocks.{moved, AreNewInTurn}
use Rattle.chain_store.specs.Inside.{Parts, seen, parts_of, IsInOrder}
use Rattle.chain_store.proofs.OrderLaws.{few-blocks, span-is-new}
use Rattle.chain_store.proofs.StoreLaws.{gone_back, gone-back-leaves}
use Rattle.chain_store.proofs.store.Store.revert.Goals as goal

pub move_between-requires-clause-few : goal.move_between-requires-clause-few
move_between-requires-clause-few c =
    subst (λ blocks. length blocks < 2 ^ 32) (sym c.deref.ensures.value) (few-blocks (parts_of c.self.inside) c.self.invariant)

pub move_between-requires-clause-new : goal.move_between-requires-clause-new
move_between-requires-clause-new c =
    let parts = parts_of c.self.inside in
    let before = c.in-Some.before in
    λ le.
    subst (λ blocks. AreNewInTurn parts.height parts.records.list (slice_range blocks parts.height before.height)) (sym c.deref.ensures.value)
    (subst (λ list. AreNewInTurn parts.height list (slice_range parts.blocks parts.height before.height)) (sym c.self.invariant.records)
    (span-is-new parts c.self.invariant parts.height before.height c.self.invariant.height le))

pub invariant_of-self : goal.invariant_of-self
invariant_of-self c =
    let parts = parts_of c.self.inside in
    let before = c.in-Some.before in
    let room = c.move_between.new.records.room in
    let leaves = gone-back-leaves parts c.self.invariant before room c.in-Some.is in
    let list = c.move_between.ensures.list ∙ ap (λ blocks. moved parts.height before.height blocks parts.records.list) c.deref.ensures.value in
    let new : Parts = parts_of (record c.self.inside {
      blocks = c.truncate.new.self;
      height = before.height;
      records = c.move_between.new.records;
      changes = c.truncate-2.new.self;
      before = None;
    }) in
    let same : new ≡ gone_back parts c.self.invariant before room =
    λ j. record {
      genesis = parts.genesis;
      seconds = parts.seconds;
      coins = parts.coins;
      blocks = c.truncate.ensures.items j;
      height = before.height;
      records = record { list = list j; room = room };
      changes = c.truncate-2.ensures.items j;
      before = None;
    } in
    subst IsInOrder (sym same) leaves.held

pub returns : goal.returns
returns c =
    let parts = parts_of c.self.inside in
    let before = c.in-Some.before in
    let room = c.move_between.new.records.room in
    let leaves = gone-back-leaves parts c.self.invariant before room c.in-Some.is in
    let list = c.move_between.ensures.list ∙ ap (λ blocks. moved parts.height before.height blocks parts.records.list) c.deref.ensures.value in
    let new : Parts = parts_of (record c.self.inside {
      blocks = c.truncate.new.self;
      height = before.height;
      records = c.move_between.new.records;
      changes = c.truncate-2.new.self;
      before = None;
    }) in
    let same : new ≡ gone_back parts c.self.invariant before room =
    λ j. record {
      genesis = parts.genesis;
      seconds = parts.seconds;
      coins = parts.coins;
      blocks = c.truncate.ensures.items j;
      height = before.height;
      records = record { list = list j; room = room };
      changes = c.truncate-2.ensures.items j;
      before = None;
    } in
    ap seen same ∙ leaves.shows ∙ ap reverted c.self.view_is
