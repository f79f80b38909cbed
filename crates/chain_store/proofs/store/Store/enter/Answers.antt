use Rattle.std.proofs.Common.{◌≡◌, ◌+◌, ◌-◌, ◌<◌, ◌^◌, true, Some, [], ◌∷◌, ◌++◌, take, length, if◌then◌else◌, ap, sym, subst, ◌∙◌, arith}
use Rattle.std.specs.Result.{is_ok}
use Rattle.chain_spec.specs.Chain.{with_block, touched_by, ledger_of, peak_of}
use Rattle.chain_spec.specs.Soundness.{CanConnect}
use Rattle.chain_spec.specs.StoreViews.{connected}
use Rattle.chain_store.specs.RecordsView.{AreNew}
use Rattle.chain_store.specs.Inside.{Parts, chain_to, seen, parts_of, IsInOrder}
use Rattle.chain_store.proofs.ChainSteps.{can-be-new}
use Rattle.chain_store.proofs.OrderLaws.{peak-height}
use Rattle.chain_store.proofs.StoreLaws.{entered, entered-leaves}
use Rattle.chain_store.proofs.store.Store.enter.Goals as goal

pub overflow_cast-self-inside : goal.overflow_cast-self-inside
overflow_cast-self-inside c =
    let parts = parts_of c.self.inside in
    let can = subst (λ view. CanConnect (ledger_of view.chain) c.args.block) (sym c.self.view_is) c.requires in
    let below : parts.height < 2 ^ 32 - 1 = subst (λ n. n < 2 ^ 32 - 1) (peak-height parts c.self.invariant parts.height c.self.invariant.height) can.room in
    omega (arith, below)

pub put_on-requires-clause-new : goal.put_on-requires-clause-new
put_on-requires-clause-new c =
    let parts = parts_of c.self.inside in
    let can = subst (λ view. CanConnect (ledger_of view.chain) c.args.block) (sym c.self.view_is) c.requires in
    subst (λ list. AreNew list c.args.block.created) (sym (c.in_ok-reserve-3.ensures.list ∙ c.self.invariant.records))
    (can-be-new (ledger_of (chain_to parts parts.height)) c.args.block can)

pub invariant_of-self-2 : goal.invariant_of-self-2
invariant_of-self-2 c =
    let parts = parts_of c.self.inside in
    let height = parts.height in
    let room = c.put_on.new.self.room in
    let leaves = entered-leaves parts c.self.invariant c.args.block room (subst (λ view. CanConnect (ledger_of view.chain) c.args.block) (sym c.self.view_is) c.requires) in
    let pushed : is_ok c.push.result ≡ true = c.push.ensures.succeeds (omega (arith, c.truncate.ensures.len, c.truncate.ensures.capacity, c.in_ok-reserve-2.ensures.ok)) in
    let kept : c.truncate.new.self.items ≡ take height parts.blocks = c.truncate.ensures.items ∙ ap (take height) c.in_ok-reserve-2.ensures.items in
    let blocks : c.push.new.self.items ≡ take height parts.blocks ++ c.args.block ∷ [] =
    c.push.ensures.items
    ∙ ap (λ b. if b then c.truncate.new.self.items ++ c.args.block ∷ [] else c.truncate.new.self.items) pushed
    ∙ ap (λ items. items ++ c.args.block ∷ []) kept in
    let ids : c.add_touched.new.ids.items ≡ touched_by c.args.block = c.in_ok-add_touched.ensures ∙ ap (λ items. items ++ touched_by c.args.block) c.new-ids.ensures.items in
    let told : is_ok c.append.result ≡ true = c.append.ensures.succeeds (omega (arith, c.in_ok-reserve.ensures.ok, c.len.ensures)) in
    let changes : c.append.new.self.items ≡ parts.changes ++ touched_by c.args.block =
    c.append.ensures.items
    ∙ ap (λ b. if b then c.reserve.new.self.items ++ c.add_touched.new.ids.items else c.reserve.new.self.items) told
    ∙ (λ j. c.in_ok-reserve.ensures.items j ++ ids j) in
    let count : c.len-2.result ≡ length parts.changes = c.len-2.ensures ∙ c.reserve.new.self.ok.0 ∙ ap length c.in_ok-reserve.ensures.items in
    let list = c.put_on.ensures.list ∙ ap (with_block (height + 1) c.args.block) c.in_ok-reserve-3.ensures.list in
    let new : Parts = parts_of (record c.self.inside {
      blocks = c.push.new.self;
      height = height + 1;
      records = c.put_on.new.self;
      changes = c.append.new.self;
      before = Some (record { height = height; changes = c.len-2.result });
    }) in
    let same : new ≡ entered parts c.self.invariant c.args.block room =
    λ j. record {
      genesis = parts.genesis;
      seconds = parts.seconds;
      coins = parts.coins;
      blocks = blocks j;
      height = height + 1;
      records = record { list = list j; room = room };
      changes = changes j;
      before = Some (record { height = height; changes = count j });
    } in
    subst IsInOrder (sym same) leaves.held

pub returns : goal.returns
returns c =
    let parts = parts_of c.self.inside in
    let height = parts.height in
    let room = c.put_on.new.self.room in
    let leaves = entered-leaves parts c.self.invariant c.args.block room (subst (λ view. CanConnect (ledger_of view.chain) c.args.block) (sym c.self.view_is) c.requires) in
    let pushed : is_ok c.push.result ≡ true = c.push.ensures.succeeds (omega (arith, c.truncate.ensures.len, c.truncate.ensures.capacity, c.in_ok-reserve-2.ensures.ok)) in
    let kept : c.truncate.new.self.items ≡ take height parts.blocks = c.truncate.ensures.items ∙ ap (take height) c.in_ok-reserve-2.ensures.items in
    let blocks : c.push.new.self.items ≡ take height parts.blocks ++ c.args.block ∷ [] =
    c.push.ensures.items
    ∙ ap (λ b. if b then c.truncate.new.self.items ++ c.args.block ∷ [] else c.truncate.new.self.items) pushed
    ∙ ap (λ items. items ++ c.args.block ∷ []) kept in
    let ids : c.add_touched.new.ids.items ≡ touched_by c.args.block = c.in_ok-add_touched.ensures ∙ ap (λ items. items ++ touched_by c.args.block) c.new-ids.ensures.items in
    let told : is_ok c.append.result ≡ true = c.append.ensures.succeeds (omega (arith, c.in_ok-reserve.ensures.ok, c.len.ensures)) in
    let changes : c.append.new.self.items ≡ parts.changes ++ touched_by c.args.block =
    c.append.ensures.items
    ∙ ap (λ b. if b then c.reserve.new.self.items ++ c.add_touched.new.ids.items else c.reserve.new.self.items) told
    ∙ (λ j. c.in_ok-reserve.ensures.items j ++ ids j) in
    let count : c.len-2.result ≡ length parts.changes = c.len-2.ensures ∙ c.reserve.new.self.ok.0 ∙ ap length c.in_ok-reserve.ensures.items in
    let list = c.put_on.ensures.list ∙ ap (with_block (height + 1) c.args.block) c.in_ok-reserve-3.ensures.list in
    let new : Parts = parts_of (record c.self.inside {
      blocks = c.push.new.self;
      height = height + 1;
      records = c.put_on.new.self;
      changes = c.append.new.self;
      before = Some (record { height = height; changes = c.len-2.result });
    }) in
    let same : new ≡ entered parts c.self.invariant c.args.block room =
    λ j. record {
      genesis = parts.genesis;
      seconds = parts.seconds;
      coins = parts.coins;
      blocks = blocks j;
      height = height + 1;
      records = record { list = list j; room = room };
      changes = changes j;
      before = Some (record { height = height; changes = count j });
    } in
    record { ok = ap seen same ∙ leaves.shows ∙ ap (connected c.args.block) c.self.view_is; err = tt }
