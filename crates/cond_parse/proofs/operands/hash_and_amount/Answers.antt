use Rattle.std.proofs.Common.{Some}
use Rattle.coin_facts.specs.Atoms.{amount_of}
use Rattle.cond_spec.specs.Operands.{operand}
use Rattle.cond_parse.proofs.ReadingLaws.{no_two, lacks_behind}
use Rattle.cond_parse.proofs.operands.hash_and_amount.Goals as goal

pub returns-in_err-hash : goal.returns-in_err-hash
returns-in_err-hash c = no_two _ c.in_err-hash.field-0.0 _ c.from_residual.ensures.1 (λ make.
    c.in_err-hash.ensures.takes (λ hash rest. operand amount_of rest (λ amount more. Some (make hash amount))))

pub returns-in_err-amount : goal.returns-in_err-amount
returns-in_err-amount c = no_two _ c.in_err-amount.field-0.0 _ c.from_residual-in_err-amount.ensures.1 (λ make.
    lacks_behind _ _ _ (c.in_ok-hash.ensures.takes (λ hash rest. operand amount_of rest (λ amount more. Some (make hash amount))))
    (c.in_err-amount.ensures.takes (λ amount more. Some (make c.in_ok-hash.hash amount))))
