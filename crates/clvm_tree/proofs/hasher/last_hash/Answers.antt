use Rattle.std.proofs.Common.{◌≡◌, ◌<◌, ◌≤◌, length, subst, ⊎_elim, arith}
use Rattle.std.proofs.lemmas.Bool.{cases_lt}
use Rattle.clvm_tree.specs.Arena.{trees_of}
use Rattle.clvm_tree.specs.Uses.{IsReady}
use Rattle.clvm_tree.specs.declared.arena.TheConstants.{FIRST_COUNT}
use Rattle.clvm_tree.proofs.ReadyLaws.{ready_first, ready_low}
use Rattle.clvm_tree.proofs.hasher.last_hash.Goals as goal

pub loop-place-init : goal.loop-place-init
loop-place-init c = ready_first c.args.bytes.now c.args.entries.now c.args.uses.now c.in_ok-kept.kept c.in_ok-kept.ensures.long c.in_ok-kept.ensures.none

pub hash_at-requires-clause-ready : goal.hash_at-requires-clause-ready
hash_at-requires-clause-ready c =
    let trees = trees_of c.args.bytes.now c.args.entries.now in
    let count = length c.args.uses.now in
    let place = c.loop-place.place in
    ⊎_elim
    (λ (small : count < FIRST_COUNT). ready_low c.args.bytes.now c.args.entries.now c.args.uses.now c.loop-place.kept place place count c.loop-place.invariant (omega (arith, small)))
    (λ (large : FIRST_COUNT ≤ count).
    let same : place ≡ count = omega (arith, c.loop-place.auto.place-end large, c.loop-place-test.false) in
    subst (λ n. IsReady trees c.args.uses.now c.loop-place.kept n n) same c.loop-place.invariant)
    (cases_lt count FIRST_COUNT)
