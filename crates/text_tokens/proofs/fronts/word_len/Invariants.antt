use Rattle.std.proofs.Common.{◌≡◌, ◌+◌, drop}
use Rattle.clvm_spec.specs.Tokens.{word_size}
use Rattle.text_tokens.proofs.fronts.word_len.Given as goal

abbrev pub invariant-loop-byte : goal.invariant-loop-byte
invariant-loop-byte l = (l.size ≡ l.byte-index) × (l.size + word_size (drop l.byte-index l.text) ≡ word_size l.text)
