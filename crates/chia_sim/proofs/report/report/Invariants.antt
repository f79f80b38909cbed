use Rattle.std.proofs.Common.{◌≡◌, ◌++◌, string_bytes, drop, map}
use Rattle.session_spec.specs.Texts.{lines_from}
use Rattle.chia_sim.specs.Replies.{entry_of}
use Rattle.chia_sim.proofs.report.report.Given as goal

-- What is written, and then the lines that are left, are all of them.
abbrev pub invariant-loop-place : goal.invariant-loop-place
invariant-loop-place l =
    string_bytes l.text ++ lines_from l.place (map entry_of (drop l.place l.history)) ≡ lines_from 0 (map entry_of l.history)
