use Rattle.std.proofs.Common.{◌≡◌, ◌+◌, ◌-◌, ◌/◌, ◌<◌, length, map, get_or, sym, ◌∙◌, ⊎_elim, arith}
use Rattle.std.proofs.lemmas.Bool.{cases_lt}
use Rattle.case_table.proofs.Rising.{rises, below_middle, above_middle, at_key, position_found, position_missing, map_length}
use Rattle.case_table.proofs.look_up.place_of_code.Goals as goal

pub returns-then-found-code : goal.returns-then-found-code
returns-then-found-code g c =
    let rows = c.args.rows.now in
    let codes = map g.R.Case.code rows in
    let middle = c.loop-low.low + (c.loop-low.high - c.loop-low.low) / 2 in
    let long = map_length g.R.Case.code rows in
    let within : middle < length rows = omega arith in
    let here : get_or codes middle 0 ≡ c.args.code = at_key g.R.Case.code c.args.code rows middle c.index-rows-middle.result within c.index-rows-middle.is ∙ sym c.code-found.ensures ∙ c.if-found-code.true in
    sym (position_found g.R.Case.code c.args.code rows middle within here
    (λ k before. let less = rises codes c.requires k middle before (omega arith) in omega arith))

pub loop-low-preserved-then-found-code-2 : goal.loop-low-preserved-then-found-code-2
loop-low-preserved-then-found-code-2 g c =
    let rows = c.args.rows.now in
    let codes = map g.R.Case.code rows in
    let middle = c.loop-low.low + (c.loop-low.high - c.loop-low.low) / 2 in
    let long = map_length g.R.Case.code rows in
    let within : middle < length rows = omega arith in
    let here = at_key g.R.Case.code c.args.code rows middle c.index-rows-middle.result within c.index-rows-middle.is ∙ sym c.code-found.ensures in
    record {
      order = omega arith;
      within = omega arith;
      below = below_middle codes c.requires middle c.args.code (omega arith) (omega arith);
      above = c.loop-low.invariant.above;
    }

pub loop-low-preserved : goal.loop-low-preserved
loop-low-preserved g c =
    let rows = c.args.rows.now in
    let codes = map g.R.Case.code rows in
    let middle = c.loop-low.low + (c.loop-low.high - c.loop-low.low) / 2 in
    let long = map_length g.R.Case.code rows in
    let within : middle < length rows = omega arith in
    let here = at_key g.R.Case.code c.args.code rows middle c.index-rows-middle.result within c.index-rows-middle.is ∙ sym c.code-found.ensures in
    let above = above_middle codes c.requires middle c.args.code (omega arith) in
    record {
      order = omega arith;
      within = omega arith;
      below = c.loop-low.invariant.below;
      above = λ k behind inside. above k behind (omega arith);
    }

pub returns : goal.returns
returns g c =
    sym (position_missing g.R.Case.code c.args.code c.args.rows.now (λ k inside same.
    ⊎_elim (λ before. let less = c.loop-low.invariant.below k before in absurd (omega arith))
    (λ behind. let more = c.loop-low.invariant.above k (omega arith) inside in absurd (omega arith)) (cases_lt k c.loop-low.low)))
