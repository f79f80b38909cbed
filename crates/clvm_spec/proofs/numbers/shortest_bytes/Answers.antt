use Rattle.std.proofs.Common.{sym, ◌∙◌}
use Rattle.clvm_spec.proofs.NumberLaws.{sign_byte_goes, no_sign_byte}
use Rattle.clvm_spec.proofs.numbers.shortest_bytes.Goals as goal

pub signs-preserved : goal.signs-preserved
signs-preserved c = sign_byte_goes c.signs.rest.now (sym c.signs-test.ensures) ∙ c.signs.invariant

pub returns : goal.returns
returns c = sym (no_sign_byte c.signs.rest.now (sym c.signs-test.ensures)) ∙ c.signs.invariant
