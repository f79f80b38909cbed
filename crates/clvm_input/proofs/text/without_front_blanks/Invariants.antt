use Rattle.std.proofs.Common.{◌≡◌, ◌≤◌, length}
use Rattle.clvm_input.specs.Texts.{without_front_blanks}
use Rattle.clvm_input.proofs.text.without_front_blanks.Given as goal

abbrev pub invariant-blanks : goal.invariant-blanks
invariant-blanks l = record {
  same : without_front_blanks l.rest ≡ without_front_blanks l.fn.text;
  short : length l.rest ≤ length l.fn.text;
}

abbrev pub decreases-blanks : goal.decreases-blanks
decreases-blanks l = length l.rest
