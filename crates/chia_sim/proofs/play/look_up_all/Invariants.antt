use Rattle.std.proofs.Common.{◌≡◌, ◌+◌, ◌++◌, map, drop}
use Rattle.chia_sim.specs.Replies.{entry_of}
use Rattle.chia_sim.specs.Looks.{looks}
use Rattle.chia_sim.proofs.play.look_up_all.Given as goal

-- What is entered, and then the looks that are left, are all of them.
abbrev pub invariant-loop-place : goal.invariant-loop-place
invariant-loop-place l =
    map entry_of l.history.items ++ looks l.pool (l.place + 1) (drop l.place l.asked) ≡ map entry_of l.initial.history.items ++ looks l.pool 1 l.asked
