use Rattle.std.proofs.Common.{length, sym, ◌∙◌, ap}
use Rattle.std.specs.Prelude.{nat_eq}
use Rattle.clvm_spec.proofs.NumberLaws.{all_bytes}
use Rattle.clvm_text.proofs.PrintLaws.{short_is, same_length}
use Rattle.clvm_text.proofs.printer.is_decimal.Goals as goal

pub returns-then-bytes-le2 : goal.returns-then-bytes-le2
returns-then-bytes-le2 c =
    let bytes = c.args.bytes.now in
    ap (λ s. nat_eq (length s) (length bytes)) c.shortest_bytes-shortest.ensures ∙ same_length bytes ∙ sym (short_is bytes (all_bytes bytes (λ i. (c.type_inv.bytes i).fits)) c.if-bytes-le2.true)
