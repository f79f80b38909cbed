use Rattle.std.proofs.Common.{◌∙◌}
use Rattle.cond_spec.specs.Parties.{sender_side}
use Rattle.cond_parse.proofs.ReadingLaws.{no_message, lacks_behind}
use Rattle.cond_parse.proofs.PartLaws.{behind_mode, behind_text}
use Rattle.cond_parse.proofs.parts.message_from.Goals as goal

pub returns-in_err-mode : goal.returns-in_err-mode
returns-in_err-mode c = no_message _ c.in_err-mode.field-0.0 _ c.from_residual.ensures.1 (λ make.
    c.in_err-mode.ensures.takes (behind_mode sender_side make))

pub returns-in_err-text : goal.returns-in_err-text
returns-in_err-text c = no_message _ c.in_err-text.field-0.0 _ c.from_residual-in_err-text.ensures.1 (λ make.
    lacks_behind _ _ _ (c.in_ok-mode.ensures.takes (behind_mode sender_side make)) (c.in_err-text.ensures.takes (behind_text sender_side make c.in_ok-mode.mode)))

pub returns-in_err-sender : goal.returns-in_err-sender
returns-in_err-sender c = no_message _ c.in_err-sender.field-0.0 _ c.from_residual-in_err-sender.ensures.1 (λ make.
    let mode = c.in_ok-mode.mode in
    lacks_behind _ _ _ (c.in_ok-mode.ensures.takes (behind_mode sender_side make) ∙ c.in_ok-text.ensures.takes (behind_text sender_side make mode))
    (c.in_err-sender.ensures (make mode c.in_ok-text.text)))
