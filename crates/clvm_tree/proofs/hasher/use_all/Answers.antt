use Rattle.std.proofs.Common.{◌≡◌, ◌+◌, ◌-◌, ◌<◌, get_or, length, subst, arith}
use Rattle.clvm_tree.specs.Arena.{HasEarlierParts}
use Rattle.clvm_tree.specs.declared.arena.TheConstants.{FIRST_COUNT}
use Rattle.clvm_tree.specs.declared.entry.Entry.TheVariants.{Bytes}
use Rattle.clvm_tree.proofs.hasher.use_all.Goals as goal

pub use_parts-requires-clause-earlier : goal.use_parts-requires-clause-earlier
use_parts-requires-clause-earlier c =
    let place = c.loop-place.place - 1 in
    let k = place - FIRST_COUNT in
    let at : k + FIRST_COUNT ≡ place = omega arith in
    let within : k < length c.args.entries.now = omega arith in
    subst (HasEarlierParts place) (c.entry_at.ensures (Bytes 0 0))
    (subst (λ p. HasEarlierParts p (get_or c.args.entries.now k (Bytes 0 0))) at (c.requires.earlier k (Bytes 0 0) within))
