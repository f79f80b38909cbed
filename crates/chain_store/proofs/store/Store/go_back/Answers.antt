use Rattle.std.proofs.Common.{◌≡◌, ◌≤◌, true, Some, ◌++◌, length, if◌then◌else◌, ap, sym, subst, ◌∙◌, length-take-le, arith}
use Rattle.std.specs.Prelude.{reverse, slice_range, IfSome}
use Rattle.std.specs.List.{flat_map, sum_by}
use Rattle.std.specs.Result.{is_ok}
use Rattle.chain_spec.specs.Chain.{touched_by}
use Rattle.chain_store.specs.Blocks.{created_count, without_blocks, back_to}
use Rattle.chain_store.specs.Inside.{Parts, seen, parts_of, IsInOrder}
use Rattle.chain_store.proofs.StoreLaws.{backed, backed-leaves}
use Rattle.chain_store.proofs.store.Store.go_back.Goals as goal

pub invariant_of-self-2 : goal.invariant_of-self-2
invariant_of-self-2 c =
    let parts = parts_of c.self.inside in
    let height = parts.height in
    let kept = c.args.kept in
    let room = c.take_off_all.new.records.room in
    let long : length (seen parts).chain.blocks ≡ height = length-take-le height parts.blocks c.self.invariant.height in
    let few : kept ≤ length (seen parts).chain.blocks = subst (λ view. kept ≤ length view.chain.blocks) (sym c.self.view_is) c.requires in
    let within : kept ≤ height = omega (arith, long, few) in
    let span : slice_range c.deref.result.now kept height ≡ slice_range parts.blocks kept height = ap (λ blocks. slice_range blocks kept height) c.deref.ensures.value in
    let same_span : slice_range c.deref-2.result.now kept height ≡ slice_range parts.blocks kept height = ap (λ blocks. slice_range blocks kept height) c.deref-2.ensures.value in
    let counted : c.in_ok-room.room ≡ sum_by created_count (slice_range c.deref.result.now kept height) =
    subst (λ o. IfSome o (λ count. count ≡ sum_by created_count (slice_range c.deref.result.now kept height))) c.in_ok-room.ensures.ok_part c.created_by.ensures in
    let count = counted ∙ ap (sum_by created_count) span in
    let enough : sum_by created_count (slice_range parts.blocks kept height) ≤ room = omega (arith, count, c.in_ok-reserve-2.ensures.ok, c.take_off_all.ensures.room) in
    let leaves = backed-leaves parts c.self.invariant kept room within enough in
    let ids : c.in_ok-ids.ids.items ≡ flat_map touched_by (reverse (slice_range parts.blocks kept height)) = c.in_ok-ids.ensures ∙ ap (λ blocks. flat_map touched_by (reverse blocks)) span in
    let told : is_ok c.append.result ≡ true = c.append.ensures.succeeds (omega (arith, c.in_ok-reserve.ensures.ok, c.len.ensures)) in
    let changes : c.append.new.self.items ≡ parts.changes ++ flat_map touched_by (reverse (slice_range parts.blocks kept height)) =
    c.append.ensures.items
    ∙ ap (λ b. if b then c.reserve.new.self.items ++ c.in_ok-ids.ids.items else c.reserve.new.self.items) told
    ∙ (λ j. c.in_ok-reserve.ensures.items j ++ ids j) in
    let length_before : c.len-2.result ≡ length parts.changes = c.len-2.ensures ∙ c.reserve.new.self.ok.0 ∙ ap length c.in_ok-reserve.ensures.items in
    let list = c.take_off_all.ensures.list ∙ (λ j. without_blocks (same_span j) (c.in_ok-reserve-2.ensures.list j)) in
    let new : Parts = parts_of (record c.self.inside {
      blocks = c.truncate.new.self;
      height = kept;
      records = c.take_off_all.new.records;
      changes = c.append.new.self;
      before = Some (record { height = height; changes = c.len-2.result });
    }) in
    let same : new ≡ backed parts c.self.invariant kept room =
    λ j. record {
      genesis = parts.genesis;
      seconds = parts.seconds;
      coins = parts.coins;
      blocks = c.truncate.ensures.items j;
      height = kept;
      records = record { list = list j; room = room };
      changes = changes j;
      before = Some (record { height = height; changes = length_before j });
    } in
    subst IsInOrder (sym same) leaves.held

pub returns : goal.returns
returns c =
    let parts = parts_of c.self.inside in
    let height = parts.height in
    let kept = c.args.kept in
    let room = c.take_off_all.new.records.room in
    let long : length (seen parts).chain.blocks ≡ height = length-take-le height parts.blocks c.self.invariant.height in
    let few : kept ≤ length (seen parts).chain.blocks = subst (λ view. kept ≤ length view.chain.blocks) (sym c.self.view_is) c.requires in
    let within : kept ≤ height = omega (arith, long, few) in
    let span : slice_range c.deref.result.now kept height ≡ slice_range parts.blocks kept height = ap (λ blocks. slice_range blocks kept height) c.deref.ensures.value in
    let same_span : slice_range c.deref-2.result.now kept height ≡ slice_range parts.blocks kept height = ap (λ blocks. slice_range blocks kept height) c.deref-2.ensures.value in
    let counted : c.in_ok-room.room ≡ sum_by created_count (slice_range c.deref.result.now kept height) =
    subst (λ o. IfSome o (λ count. count ≡ sum_by created_count (slice_range c.deref.result.now kept height))) c.in_ok-room.ensures.ok_part c.created_by.ensures in
    let count = counted ∙ ap (sum_by created_count) span in
    let enough : sum_by created_count (slice_range parts.blocks kept height) ≤ room = omega (arith, count, c.in_ok-reserve-2.ensures.ok, c.take_off_all.ensures.room) in
    let leaves = backed-leaves parts c.self.invariant kept room within enough in
    let ids : c.in_ok-ids.ids.items ≡ flat_map touched_by (reverse (slice_range parts.blocks kept height)) = c.in_ok-ids.ensures ∙ ap (λ blocks. flat_map touched_by (reverse blocks)) span in
    let told : is_ok c.append.result ≡ true = c.append.ensures.succeeds (omega (arith, c.in_ok-reserve.ensures.ok, c.len.ensures)) in
    let changes : c.append.new.self.items ≡ parts.changes ++ flat_map touched_by (reverse (slice_range parts.blocks kept height)) =
    c.append.ensures.items
    ∙ ap (λ b. if b then c.reserve.new.self.items ++ c.in_ok-ids.ids.items else c.reserve.new.self.items) told
    ∙ (λ j. c.in_ok-reserve.ensures.items j ++ ids j) in
    let length_before : c.len-2.result ≡ length parts.changes = c.len-2.ensures ∙ c.reserve.new.self.ok.0 ∙ ap length c.in_ok-reserve.ensures.items in
    let list = c.take_off_all.ensures.list ∙ (λ j. without_blocks (same_span j) (c.in_ok-reserve-2.ensures.list j)) in
    let new : Parts = parts_of (record c.self.inside {
      blocks = c.truncate.new.self;
      height = kept;
      records = c.take_off_all.new.records;
      changes = c.append.new.self;
      before = Some (record { height = height; changes = c.len-2.result });
    }) in
    let same : new ≡ backed parts c.self.invariant kept room =
    λ j. record {
      genesis = parts.genesis;
      seconds = parts.seconds;
      coins = parts.coins;
      blocks = c.truncate.ensures.items j;
      height = kept;
      records = record { list = list j; room = room };
      changes = changes j;
      before = Some (record { height = height; changes = length_before j });
    } in
    record { ok = ap seen same ∙ leaves.shows ∙ ap (back_to kept) c.self.view_is; err = tt }
