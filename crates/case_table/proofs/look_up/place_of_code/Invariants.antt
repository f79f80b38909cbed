use Rattle.std.proofs.Common.{ℕ, ◌-◌, ◌<◌, ◌≤◌, length, map, get_or}
use Rattle.case_table.proofs.look_up.place_of_code.Given as goal

abbrev pub invariant-loop-low : goal.invariant-loop-low
invariant-loop-low g l =
    let codes = map g.R.Case.code l.rows in
    record {
      order : l.low ≤ l.high;
      within : l.high ≤ length l.rows;
      below : (k : ℕ) → k < l.low → get_or codes k 0 < l.code;
      above : (k : ℕ) → l.high ≤ k → k < length l.rows → l.code < get_or codes k 0;
    }

abbrev pub decreases-loop-low : goal.decreases-loop-low
decreases-loop-low g l = l.high - l.low
