use Rattle.std.proofs.Common.{◌≡◌, false, length}
use Rattle.clvm_spec.specs.Tokens.{without_blanks}
use Rattle.text_tokens.proofs.fronts.skip_blanks.Given as goal

abbrev pub invariant-blanks : goal.invariant-blanks
invariant-blanks l = without_blanks false l.fn.text ≡ without_blanks l.in_comment l.rest

abbrev pub decreases-blanks : goal.decreases-blanks
decreases-blanks l = length l.rest
