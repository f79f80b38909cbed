use Rattle.std.proofs.Common.{[], ◌∷◌, map, take, get_or, ap, sym, ◌∙◌, take_all, arith}
use Rattle.std.proofs.lemmas.List.{take_more}
use Rattle.coin_facts.specs.declared.hash32.Hash32.{Hash32}
use Rattle.chain_store.specs.Marks.{marked}
use Rattle.chain_store.proofs.MarkLaws.{unmarked, marks-more}
use Rattle.chain_store.proofs.records.Records.mark_all.Goals as goal

pub loop-id-init : goal.loop-id-init
loop-id-init c = (sym (unmarked c.args.spent c.args.self.now.list), omega arith)

pub loop-id-preserved : goal.loop-id-preserved
loop-id-preserved c =
    let ids = c.args.ids.now in
    let some : Hash32 = record { bytes = [] } in
    let id = get_or ids c.loop-id.id-index some in
    let front = take c.loop-id.id-index ids in
    let before = c.loop-id.invariant in
    let after = c.mark.ensures in (
      after.list
          ∙ ap (map (marked c.args.spent (id ∷ []))) before.0
          ∙ marks-more c.args.spent front id c.args.self.now.list
          ∙ ap (λ marks. map (marked c.args.spent marks) c.args.self.now.list) (sym (take_more ids c.loop-id.id-index some c.loop-id-test.true)),
      omega (arith, before.1, after.room),
    )

pub returns : goal.returns
returns c = record {
  list = c.loop-id.invariant.0 ∙ ap (λ marks. map (marked c.args.spent marks) c.args.self.now.list) (take_all c.loop-id.id-index c.args.ids.now c.loop-id-test.false);
  room = c.loop-id.invariant.1;
}
