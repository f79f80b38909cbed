use Rattle.std.proofs.Common.{not, sym, subst}
use Rattle.spend_run.specs.Outputs.{Repeats}
use Rattle.spend_run.proofs.OutputLaws.{created-is, repeats-created, repeats-none}
use Rattle.spend_run.proofs.own_rules.is_repeat.Goals as goal

pub returns-in_ok-insert-in-Some : goal.returns-in_ok-insert-in-Some
returns-in_ok-insert-in-Some c earlier has =
    subst (λ condition. Repeats c.args.earlier.now c.insert.new.self earlier condition (not c.in_ok-insert-in-Some.field-0)) (sym (created-is c.args.condition.now c.in-Some.output (sym c.in-Some.ensures)))
    (repeats-created c.args.earlier.now c.insert.new.self c.in-Some.output earlier c.in_ok-insert-in-Some.field-0 has c.in_ok-insert-in-Some.ensures.added c.in_ok-insert-in-Some.ensures.updates.0)

pub returns-in-None : goal.returns-in-None
returns-in-None c earlier has = repeats-none c.args.earlier.now c.args.condition.now earlier (sym c.in-None.ensures) has
