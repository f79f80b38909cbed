use Rattle.std.proofs.Common.{◌≡◌, ◌+◌, ◌<◌, ◌≤◌, length, get_or, sym, ap, ◌∙◌, arith}
use Rattle.std.specs.List.{sum_by}
use Rattle.std.proofs.lemmas.List.{take_all, get_or_read}
use Rattle.std.proofs.lemmas.List.Sums.{sum_by_more}
use Rattle.pool_spec.specs.Prices.{Priced}
use Rattle.fee_replace.proofs.ReplacedLaws.{no_item, few, inside, fees-summed, costs-summed}
use Rattle.fee_replace.proofs.replacement.rate_of_replaced.Goals as goal

pub bounds-items-place : goal.bounds-items-place
bounds-items-place c = inside c.args.new.now c.args.items.now c.args.conflicts.now c.requires.places c.loop-place.place-index c.loop-place-test.true

pub overflow_add-together : goal.overflow_add-together
overflow_add-together c =
    let most = few c.args.new.now c.args.items.now c.args.conflicts.now c.requires.places in
    omega (arith, most, c.requires.few, c.loop-place-test.true, c.loop-place.invariant.small_fee, c.fee.ensures.small)

pub loop-place-preserved : goal.loop-place-preserved
loop-place-preserved c =
    let items = c.args.items.now in
    let places = c.args.conflicts.now in
    let k = c.loop-place.place-index in
    let h : k < length places = c.loop-place-test.true in
    let item = c.index-items-place.result in
    let here = inside c.args.new.now items places c.requires.places k h in
    let at : (d : Priced) → item ≡ get_or items (get_or places k 0) d = get_or_read items (get_or places k 0) item here c.index-items-place.is in
    record {
      fee = λ d. (λ i. c.loop-place.invariant.fee d i + (c.fee.ensures.value ∙ ap (λ (x : Priced). x.fee) (at d)) i)
          ∙ sym (sum_by_more (λ p. (get_or items p d).fee) places k 0 h);
      cost = λ d. (λ i. c.loop-place.invariant.cost d i + (c.cost.ensures.value ∙ ap (λ (x : Priced). x.cost) (at d)) i)
          ∙ sym (sum_by_more (λ p. (get_or items p d).cost) places k 0 h);
      small_fee = omega (arith, c.loop-place.invariant.small_fee, c.fee.ensures.small);
      small_cost = omega arith;
    }

pub returns-clause-fee : goal.returns-clause-fee
returns-clause-fee c =
    let items = c.args.items.now in
    let places = c.args.conflicts.now in
    let k = c.loop-place.place-index in
    let h : length places ≤ k = omega (arith, c.loop-place-test.false) in
    c.loop-place.invariant.fee no_item ∙ ap (sum_by (λ p. (get_or items p no_item).fee)) (take_all k places h)
    ∙ fees-summed c.args.new.now items places c.requires.places no_item

pub returns-clause-cost : goal.returns-clause-cost
returns-clause-cost c =
    let items = c.args.items.now in
    let places = c.args.conflicts.now in
    let k = c.loop-place.place-index in
    let h : length places ≤ k = omega (arith, c.loop-place-test.false) in
    c.loop-place.invariant.cost no_item ∙ ap (sum_by (λ p. (get_or items p no_item).cost)) (take_all k places h)
    ∙ costs-summed c.args.new.now items places c.requires.places no_item

pub returns-clause-small : goal.returns-clause-small
returns-clause-small c =
    let most = few c.args.new.now c.args.items.now c.args.conflicts.now c.requires.places in
    omega (arith, most, c.requires.few, c.loop-place.invariant.small_fee, c.loop-place.auto.place-index-end)
