use Rattle.std.proofs.Common.{length, refl, ap, arith}
use Rattle.hex.specs.Hex.{decode_of}
use Rattle.text_tokens.proofs.WordLaws.{decoded}
use Rattle.text_tokens.proofs.digits.HexDigits.len.Goals as goal

pub returns : goal.returns
returns c = let digits = c.self.inside.digits.now in omega (arith, (decoded digits (decode_of digits) refl c.self.invariant).2, ap length c.self.view_is)
