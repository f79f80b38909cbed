use Rattle.std.proofs.Common.{rules}
use Rattle.turn_lock.proofs.Passes.{splits}
use Rattle.turn_lock.proofs.turn.Turn.split.Goals as goal

pub split_seat-seat-requires : goal.split_seat-seat-requires
split_seat-seat-requires g c = (search rules, search rules, splits g.S.Replays.opening g.S.Replays.history g.S.Replays.maker _ _)
