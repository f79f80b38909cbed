use Rattle.std.proofs.Common.{◌≡◌, None, map, length, ap, ◌∙◌, arith}
use Rattle.chain_store.specs.Marks.{marked, without_last}
use Rattle.chain_store.proofs.records.Records.take_off.Goals as goal

pub returns : goal.returns
returns c =
    let ids : c.deref.result.now ≡ c.args.block.now.spent = c.deref.ensures.value ∙ ap (λ block. block.spent) c.block.view_is in
    let count : c.len.result ≡ length c.args.block.now.created = c.len.ensures ∙ c.block.inside.created.ok.0 ∙ ap (λ block. length block.created) c.block.view_is in
    record {
      list =
          c.remove_all.ensures.list
          ∙ ap (without_last c.len.result) c.mark_all.ensures.list
          ∙ (λ j. without_last (count j) (map (marked None (ids j)) c.args.self.now.list));
      room = omega (arith, c.mark_all.ensures.room, c.remove_all.ensures.room);
    }
