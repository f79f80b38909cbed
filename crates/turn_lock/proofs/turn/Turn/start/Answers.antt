use Rattle.std.proofs.Common.{◌≡◌, [], ◌∷◌, Some, refl}
use Rattle.turn_lock.proofs.Passes.{starts}
use Rattle.turn_lock.proofs.turn.Turn.start.Goals as goal

pub new-requires : goal.new-requires
new-requires g c =
    let slots : c.push.new.self.items ≡ Some c.args.value ∷ [] = rw (c.in_default.ensures.items, c.new-slots.ensures.items) refl in
    rw (slots, c.of-first.ensures) (starts g.S.Replays.opening g.S.Replays.history g.S.Replays.maker c.args.value c.length.result c.length.ensures c.requires)
