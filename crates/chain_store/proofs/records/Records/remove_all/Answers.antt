use Rattle.std.proofs.Common.{◌≡◌, ◌-◌, ◌+◌, ap, sym, ◌∙◌, arith}
use Rattle.chain_store.specs.Marks.{without_last}
use Rattle.chain_store.proofs.MarkLaws.{without-last-more, without-last-none}
use Rattle.chain_store.proofs.records.Records.remove_all.Goals as goal

pub loop-left-preserved : goal.loop-left-preserved
loop-left-preserved c =
    let left = c.loop-left.left in
    let list = c.loop-left.self.list in
    let before = c.loop-left.invariant in
    let after = c.remove_last.ensures in
    let one_less : left - 1 + 1 ≡ left = omega (arith, c.loop-left-test.true) in (
      ap (without_last (left - 1)) after.list ∙ without-last-more (left - 1) list ∙ ap (λ n. without_last n list) one_less ∙ before.0,
      omega (arith, before.1, after.room),
    )

pub returns : goal.returns
returns c =
    let list = c.loop-left.self.list in
    let none : 0 ≡ c.loop-left.left = omega (arith, c.loop-left-test.false) in
    record {
      list = sym (without-last-none list) ∙ ap (λ n. without_last n list) none ∙ c.loop-left.invariant.0;
      room = c.loop-left.invariant.1;
    }
