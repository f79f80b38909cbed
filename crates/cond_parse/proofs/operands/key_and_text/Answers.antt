use Rattle.std.proofs.Common.{Some}
use Rattle.cond_spec.specs.Operands.{text_of, operand}
use Rattle.cond_parse.proofs.ReadingLaws.{no_two, lacks_behind}
use Rattle.cond_parse.proofs.operands.key_and_text.Goals as goal

pub returns-in_err-key : goal.returns-in_err-key
returns-in_err-key c = no_two _ c.in_err-key.field-0.0 _ c.from_residual.ensures.1 (λ make.
    c.in_err-key.ensures.takes (λ key rest. operand text_of rest (λ text more. Some (make key text))))

pub returns-in_err-text : goal.returns-in_err-text
returns-in_err-text c = no_two _ c.in_err-text.field-0.0 _ c.from_residual-in_err-text.ensures.1 (λ make.
    lacks_behind _ _ _ (c.in_ok-key.ensures.takes (λ key rest. operand text_of rest (λ text more. Some (make key text))))
    (c.in_err-text.ensures.takes (λ text more. Some (make c.in_ok-key.key text))))
