use Rattle.std.proofs.Common.{◌≡◌, ◌+◌, drop}
use Rattle.clvm_spec.specs.Tokens.{quoted_size}
use Rattle.text_tokens.proofs.fronts.quoted_len.Given as goal

abbrev pub invariant-loop-byte : goal.invariant-loop-byte
invariant-loop-byte l = (l.size ≡ l.byte-index) × (l.size + quoted_size l.quote (drop l.byte-index l.text) ≡ quoted_size l.quote l.text)
