use Rattle.std.proofs.Common.{◌≡◌, ◌-◌, ◌≤◌, cond, length, take, drop, ap, sym, ◌∙◌, length-take-le, arith}
use Rattle.std.specs.Prelude.{slice_range}
use Rattle.std.specs.List.{sum_by}
use Rattle.std.proofs.lemmas.Bool.{lt-ltb, le-ltb}
use Rattle.std.proofs.lemmas.List.{length-drop}
use Rattle.std.proofs.lemmas.List.Sums.{sum_by-take-le}
use Rattle.chain_store.specs.Blocks.{created_count, with_blocks, without_blocks}
use Rattle.chain_store.proofs.blocks.move_between.Goals as goal

pub put_on_all-requires : goal.put_on_all-requires
put_on_all-requires c =
    let blocks = c.args.blocks.now in
    let from = c.args.from in
    let to = c.args.to in
    let behind = drop from blocks in
    let left : length behind ≡ length blocks - from = length-drop from blocks in
    let count : length (take (to - from) behind) ≡ to - from = length-take-le (to - from) behind (omega (arith, left, c.requires.to)) in
    let fewer = sum_by-take-le created_count behind (to - from) in
    record {
      height = omega (arith, count, c.requires.to, c.requires.few, c.if-to-from.false);
      room = omega (arith, fewer, c.requires.room);
      new = c.requires.new c.if-to-from.false;
    }

pub returns-then-to-from : goal.returns-then-to-from
returns-then-to-from c =
    let blocks = c.args.blocks.now in
    let list = c.args.records.now.list in
    let off = without_blocks (slice_range blocks c.args.to c.args.from) list in
    let on = with_blocks c.args.from (slice_range blocks c.args.from c.args.to) list in
    record { list = c.take_off_all.ensures.list ∙ sym (ap (λ b. cond b off on) (lt-ltb c.args.to c.args.from c.if-to-from.true)) }

pub returns-else-to-from : goal.returns-else-to-from
returns-else-to-from c =
    let blocks = c.args.blocks.now in
    let list = c.args.records.now.list in
    let off = without_blocks (slice_range blocks c.args.to c.args.from) list in
    let on = with_blocks c.args.from (slice_range blocks c.args.from c.args.to) list in
    record { list = c.put_on_all.ensures.list ∙ sym (ap (λ b. cond b off on) (le-ltb c.args.to c.args.from c.if-to-from.false)) }
