use Rattle.std.proofs.Common.{[], ◌∷◌, ◌∙◌, ap, arith}
use Rattle.std.proofs.lemmas.List.FromFn.{get_or-range_with_len}
use Rattle.clvm_tree.proofs.byte_table.lent_byte.Goals as goal

pub returns : goal.returns
returns c = c.from_ref.ensures.value ∙ ap (λ b. b ∷ []) (get_or-range_with_len 0 256 c.args.byte 0 (omega arith) ∙ omega arith)
