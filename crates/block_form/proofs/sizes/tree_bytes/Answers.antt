use Rattle.std.proofs.Common.{sym, arith}
use Rattle.block_form.proofs.AddedLaws.{length-spelled_tree}
use Rattle.block_form.proofs.sizes.tree_bytes.Goals as goal

pub returns-clause-value : goal.returns-clause-value
returns-clause-value c = sym (length-spelled_tree c.args.bytes.now (λ i. omega (arith, c.type_inv.bytes i)) c.requires.spelled)
