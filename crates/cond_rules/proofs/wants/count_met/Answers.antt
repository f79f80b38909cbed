use Rattle.std.proofs.Common.{not, sym, ◌∙◌, arith}
use Rattle.std.proofs.lemmas.List.Sums.{prefix_len-le-length}
use Rattle.cond_rules.specs.Wants.{is_open}
use Rattle.cond_rules.proofs.WantLaws.{position_or_len-more, position_or_len-end}
use Rattle.cond_rules.proofs.wants.count_met.Goals as goal

pub loop-met-preserved : goal.loop-met-preserved
loop-met-preserved c = record {
  within = omega arith;
  counted = position_or_len-more (is_open c.args.made.now.keys) c.args.asked.now c.loop-met.met _ c.loop-met.invariant.counted (omega arith)
      (sym c.is_open.ensures ∙ c.if-not-is_open.true);
}

pub returns-else-not-is_open : goal.returns-else-not-is_open
returns-else-not-is_open c =
    position_or_len-end (is_open c.args.made.now.keys) c.args.asked.now c.loop-met.met _ c.loop-met.invariant.counted
    (sym c.is_open.ensures ∙ c.if-not-is_open.false)

pub returns-after-loop-met : goal.returns-after-loop-met
returns-after-loop-met c = omega (arith, prefix_len-le-length (λ ask. not (is_open c.args.made.now.keys ask)) c.args.asked.now)
