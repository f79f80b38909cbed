use Rattle.std.proofs.Common.{◌≡◌, ◌≤◌, length, take, vec_capacity}
use Rattle.pool_spec.specs.Replacement.{conflicts}
use Rattle.fee_replace.proofs.conflict.conflicts.Given as goal

abbrev pub invariant-loop-place : goal.invariant-loop-place
invariant-loop-place l = (l.into.items ≡ conflicts l.new (take l.place l.items)) × (length l.items ≤ vec_capacity l.into)
