use Rattle.std.proofs.Common.{arith}
use Rattle.fee_replace.proofs.ReplacedLaws.{inside, left_coins-found, uncovered-found, covered-passed, none-found}
use Rattle.fee_replace.proofs.replacement.left_coins.Goals as goal

pub loop-place-init : goal.loop-place-init
loop-place-init c = left_coins-found c.args.new.now c.args.items.now c.args.conflicts.now c.requires.places

pub bounds-items-place : goal.bounds-items-place
bounds-items-place c = inside c.args.new.now c.args.items.now c.args.conflicts.now c.requires.places c.loop-place.place-index c.loop-place-test.true

pub returns-then-not-covers : goal.returns-then-not-covers
returns-then-not-covers c =
    uncovered-found c.args.new.now c.args.items.now c.args.conflicts.now c.requires.places c.loop-place.place-index c.index-items-place.result
    c.covers.result c.loop-place-test.true c.index-items-place.is c.covers.ensures c.if-not-covers.true c.loop-place.invariant

pub loop-place-preserved : goal.loop-place-preserved
loop-place-preserved c =
    covered-passed c.args.new.now c.args.items.now c.args.conflicts.now c.requires.places c.loop-place.place-index c.index-items-place.result
    c.covers.result c.loop-place-test.true c.index-items-place.is c.covers.ensures c.if-not-covers.false c.loop-place.invariant

pub returns : goal.returns
returns c =
    none-found c.args.new.now c.args.items.now c.args.conflicts.now c.requires.places c.loop-place.place-index (omega (arith, c.loop-place-test.false))
    c.loop-place.invariant
