use Rattle.std.proofs.Common.{◌≡◌, [], ap, sym, ◌∙◌, arith}
use Rattle.chain_store.specs.Blocks.{without_blocks}
use Rattle.chain_store.proofs.MarkLaws.{without-blocks-last, no-elements}
use Rattle.chain_store.proofs.blocks.take_off_all.Goals as goal

pub loop-last-preserved : goal.loop-last-preserved
loop-last-preserved c =
    let others = c.in-Some.others.now in
    let list = c.loop-last.records.list in
    let before = c.loop-last.invariant in
    let after = c.take_off.ensures in (
      ap (without_blocks others) after.list
          ∙ sym (without-blocks-last others c.in-Some.last.now list)
          ∙ ap (λ blocks. without_blocks blocks list) (sym c.in-Some.ensures.cases.0)
          ∙ before.0,
      omega (arith, before.1, after.room),
    )

pub returns : goal.returns
returns c =
    let none : c.loop-last.left.now ≡ [] = no-elements c.loop-last.left.now c.in_default.ensures.cases in
    record {
      list = ap (λ blocks. without_blocks blocks c.loop-last.records.list) (sym none) ∙ c.loop-last.invariant.0;
      room = c.loop-last.invariant.1;
    }
