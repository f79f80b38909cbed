use Rattle.std.proofs.Common.{sym, ap, ◌∙◌}
use Rattle.std.specs.Result.{result_ok}
use Rattle.hex.specs.Hex.{decode_sized}
use Rattle.bundle_json.proofs.TextLaws.{text_of_hash-unsized}
use Rattle.bundle_json.proofs.hexadecimal.text_hash.Goals as goal

pub returns-in_err-bytes : goal.returns-in_err-bytes
returns-in_err-bytes c =
    let sized = ap result_ok (ap (λ digits. decode_sized digits 32) (sym c.digits_of.ensures) ∙ sym c.from_hex.ensures) in
    c.from_residual.ensures ∙ sym (text_of_hash-unsized c.args.text.now (sized ∙ sym c.ok.ensures.value ∙ c.in_err-bytes.was))
