use Rattle.std.proofs.Common.{◌∙◌}
use Rattle.cond_spec.specs.Parties.{receiver_side}
use Rattle.cond_parse.proofs.ReadingLaws.{no_message, lacks_behind}
use Rattle.cond_parse.proofs.PartLaws.{behind_mode, behind_text}
use Rattle.cond_parse.proofs.parts.message_to.Goals as goal

pub returns-in_err-mode : goal.returns-in_err-mode
returns-in_err-mode c = no_message _ c.in_err-mode.field-0.0 _ c.from_residual.ensures.1 (λ make.
    c.in_err-mode.ensures.takes (behind_mode receiver_side make))

pub returns-in_err-text : goal.returns-in_err-text
returns-in_err-text c = no_message _ c.in_err-text.field-0.0 _ c.from_residual-in_err-text.ensures.1 (λ make.
    lacks_behind _ _ _ (c.in_ok-mode.ensures.takes (behind_mode receiver_side make)) (c.in_err-text.ensures.takes (behind_text receiver_side make c.in_ok-mode.mode)))

pub returns-in_err-receiver : goal.returns-in_err-receiver
returns-in_err-receiver c = no_message _ c.in_err-receiver.field-0.0 _ c.from_residual-in_err-receiver.ensures.1 (λ make.
    let mode = c.in_ok-mode.mode in
    lacks_behind _ _ _ (c.in_ok-mode.ensures.takes (behind_mode receiver_side make) ∙ c.in_ok-text.ensures.takes (behind_text receiver_side make mode))
    (c.in_err-receiver.ensures (make mode c.in_ok-text.text)))
