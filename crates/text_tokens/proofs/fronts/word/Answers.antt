use Rattle.std.proofs.Common.{◌≤◌, length, sym, subst}
use Rattle.std.proofs.lemmas.List.Sums.{prefix_len-le-length}
use Rattle.clvm_spec.specs.Tokens.{is_word_byte}
use Rattle.text_tokens.proofs.fronts.word.Goals as goal

pub split_at-requires : goal.split_at-requires
split_at-requires c = subst (λ n. n ≤ length c.args.from.now) (sym c.word_len.ensures) (prefix_len-le-length is_word_byte c.args.from.now)
