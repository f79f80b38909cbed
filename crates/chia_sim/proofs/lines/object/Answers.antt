use Rattle.std.proofs.Common.{◌∙◌, sym}
use Rattle.std.proofs.lemmas.Bool.{false≢true}
use Rattle.chia_sim.proofs.LineLaws.{object_of-object, object_of-unread}
use Rattle.chia_sim.proofs.lines.object.Goals as goal

pub returns-then-is_object : goal.returns-then-is_object
returns-then-is_object c =
    object_of-object _ _ c.in-Ok.ensures.ok.0 c.in-Ok.ensures.ok.1 (sym c.is_object.ensures ∙ c.if-is_object.true)

pub returns-in-Err-2 : goal.returns-in-Err-2
returns-in-Err-2 c =
    object_of-unread _ (c.in-Err.ensures.err (λ memory. false≢true (sym c.if-is_memory.false ∙ c.is_memory.ensures.1 memory)))
