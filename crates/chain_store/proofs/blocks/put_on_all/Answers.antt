use Rattle.std.proofs.Common.{◌≡◌, ℕ, suc, ◌+◌, [], ◌∷◌, length, drop, ap, sym, subst, ◌∙◌, add-one, arith}
use Rattle.std.specs.List.{sum_by}
use Rattle.std.proofs.lemmas.List.{drop_more}
use Rattle.std.proofs.lemmas.List.Sums.{sum_by-cons}
use Rattle.chain_spec.specs.Chain.{with_block}
use Rattle.chain_store.specs.Blocks.{created_count, with_blocks, AreNewInTurn}
use Rattle.chain_store.proofs.MarkLaws.{drop-all}
use Rattle.chain_store.proofs.blocks.put_on_all.Goals as goal

pub put_on-requires : goal.put_on-requires
put_on-requires c =
    let blocks = c.args.blocks.now in
    let place = c.loop-place.place in
    let below = c.args.below + place in
    let block = c.index-blocks-place.result in
    let left = drop (place + 1) blocks in
    let list = c.loop-place.records.list in
    let before = c.loop-place.invariant in
    let next : drop place blocks ≡ block ∷ left = drop_more blocks place block c.loop-place-test.true ∙ ap (λ first. first ∷ left) (sym c.index-blocks-place.is) in
    let new : AreNewInTurn below list (block ∷ left) = subst (AreNewInTurn below list) next before.0 in
    let count : sum_by created_count (drop place blocks) ≡ length block.created + sum_by created_count left = ap (sum_by created_count) next ∙ sum_by-cons created_count block left in
    record { room = omega (arith, count, before.2); new = new.0 }

pub loop-place-preserved : goal.loop-place-preserved
loop-place-preserved c =
    let blocks = c.args.blocks.now in
    let place = c.loop-place.place in
    let below = c.args.below + place in
    let block = c.index-blocks-place.result in
    let left = drop (place + 1) blocks in
    let list = c.loop-place.records.list in
    let before = c.loop-place.invariant in
    let next : drop place blocks ≡ block ∷ left = drop_more blocks place block c.loop-place-test.true ∙ ap (λ first. first ∷ left) (sym c.index-blocks-place.is) in
    let new : AreNewInTurn below list (block ∷ left) = subst (AreNewInTurn below list) next before.0 in
    let count : sum_by created_count (drop place blocks) ≡ length block.created + sum_by created_count left = ap (sum_by created_count) next ∙ sum_by-cons created_count block left in
    let after = c.put_on.new.self.list in
    let grown : after ≡ with_block (suc below) block list = c.put_on.ensures.list ∙ ap (λ height. with_block height block list) (add-one below) in
    let height : suc below ≡ c.args.below + (place + 1) = omega arith in (
      subst (λ n. AreNewInTurn n after left) height (subst (λ records. AreNewInTurn (suc below) records left) (sym grown) new.1),
      ap (λ n. with_blocks n left after) (sym height)
          ∙ ap (with_blocks (suc below) left) grown
          ∙ ap (λ coming. with_blocks below coming list) (sym next)
          ∙ before.1,
      omega (arith, count, before.2, c.put_on.ensures.room),
    )

pub returns : goal.returns
returns c =
    let below = c.args.below + c.loop-place.place in
    let none : drop c.loop-place.place c.args.blocks.now ≡ [] = drop-all c.loop-place.place c.args.blocks.now c.loop-place-test.false in
    record { list = ap (λ coming. with_blocks below coming c.loop-place.records.list) (sym none) ∙ c.loop-place.invariant.1 }
