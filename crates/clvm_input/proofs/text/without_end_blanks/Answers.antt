use Rattle.std.proofs.Common.{◌∙◌, ◌-◌, length, sym, arith, length-take}
use Rattle.clvm_input.proofs.Blanks.{blank-last, other-last}
use Rattle.clvm_input.proofs.text.without_end_blanks.Goals as goal

pub returns-then-not-is_blank-clause-value : goal.returns-then-not-is_blank-clause-value
returns-then-not-is_blank-clause-value c =
    other-last c.blanks.rest.now _ c.in-len1-up.len_at_least (sym c.is_blank.ensures ∙ c.if-not-is_blank.true) ∙ c.blanks.invariant.same

pub blanks-preserved : goal.blanks-preserved
blanks-preserved c = record {
  same = blank-last c.blanks.rest.now _ c.in-len1-up.len_at_least (sym c.is_blank.ensures ∙ c.if-not-is_blank.false) ∙ c.blanks.invariant.same;
  short = omega (arith, c.blanks.invariant.short, length-take (length c.blanks.rest.now - 1) c.blanks.rest.now);
}
