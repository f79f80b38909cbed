use Rattle.std.proofs.Common.{◌≡◌, ◌≤◌, Some, map, ◌++◌, length, ap, sym, subst, ◌∙◌, arith}
use Rattle.chain_spec.specs.Chain.{made_at}
use Rattle.chain_store.specs.RecordsView.{AreNew}
use Rattle.chain_store.specs.Marks.{marked}
use Rattle.chain_store.proofs.records.Records.put_on.Goals as goal

pub add_all-requires : goal.add_all-requires
add_all-requires c =
    let coins : c.deref.result.now ≡ c.args.block.now.created = c.deref.ensures.value ∙ ap (λ block. block.created) c.block.view_is in
    record {
      room = subst (λ list. length list ≤ c.args.self.now.room) (sym coins) c.requires.room;
      new = subst (AreNew c.args.self.now.list) (sym coins) c.requires.new;
    }

pub returns : goal.returns
returns c =
    let coins : c.deref.result.now ≡ c.args.block.now.created = c.deref.ensures.value ∙ ap (λ block. block.created) c.block.view_is in
    let ids : c.deref-2.result.now ≡ c.args.block.now.spent = c.deref-2.ensures.value ∙ ap (λ block. block.spent) c.block.view_is in
    let seconds = ap (λ block. block.seconds) c.block.view_is in
    let count : length c.deref.result.now ≡ length c.args.block.now.created = ap length coins in
    record {
      list =
          c.mark_all.ensures.list
          ∙ ap (map (marked (Some c.args.height) c.deref-2.result.now)) c.add_all.ensures.list
          ∙ (λ j. map (marked (Some c.args.height) (ids j)) (c.args.self.now.list ++ map (made_at c.args.height (seconds j)) (coins j)));
      room = omega (arith, c.add_all.ensures.room, c.mark_all.ensures.room, count);
    }
