use Rattle.std.proofs.Common.{◌≡◌, ◌++◌, ◌||◌, not, length, ap, subst, ◌∙◌, arith}
use Rattle.std.proofs.lemmas.List.{length-append}
use Rattle.std.proofs.lemmas.List.Sums.{prefix_len-le-length}
use Rattle.cond_rules.specs.Wants.{Wants, AddsWants, is_made, is_open, asks_at}
use Rattle.cond_rules.proofs.WantLaws.{count_met-more}
use Rattle.cond_rules.proofs.wants.Wants.add.Goals as goal

pub count_met-self-inside-requires-clause-within : goal.count_met-self-inside-requires-clause-within
count_met-self-inside-requires-clause-within c =
    let asked = c.self.inside.asked.items in
    let more = asks_at c.args.place c.args.asked.now in
    let grown : length c.as_slice.result.now ≡ length (asked ++ more) = ap length (c.as_slice.ensures.value ∙ c.push_asks.ensures) in
    omega (arith, c.self.invariant, length-append asked more, prefix_len-le-length (λ ask. not (is_open c.self.inside.made.keys ask)) asked)

pub count_met-self-inside-requires-clause-met : goal.count_met-self-inside-requires-clause-met
count_met-self-inside-requires-clause-met c =
    let asked = c.self.inside.asked.items in
    let more = asks_at c.args.place c.args.asked.now in
    let grown : c.as_slice.result.now ≡ asked ++ more = c.as_slice.ensures.value ∙ c.push_asks.ensures in
    let le = count_met-more c.self.inside.made.keys c.insert_made.new.made.keys asked more
    (λ want is. c.insert_made.ensures want ∙ ap (λ b. b || is_made c.args.made.now want) is) in
    rw grown (omega (arith, c.self.invariant, le))

pub returns : goal.returns
returns c =
    let P : Wants → Type 0 = λ wants. AddsWants wants.wanted c.args.place c.args.asked.now c.args.made.now
    (record { asked = c.push_asks.new.asked.items; made = c.insert_made.new.made.keys }) in
    subst P c.self.view_is (record { asks = c.push_asks.ensures; makes = c.insert_made.ensures })
