use Rattle.std.proofs.Common.{[], ◌∷◌, ◌++◌, length, ◌∙◌, ap, arith, append_assoc}
use Rattle.std.specs.Prelude.{string_bytes}
use Rattle.hex.specs.Hex.{lower_digits, encode_lower}
use Rattle.hex.proofs.HexLemmas.{length-encode_with}
use Rattle.clvm_text.proofs.printer.push_hex.Goals as goal
use Rattle.clvm_text.proofs.printer.push_hex.Goals.{then-room-lt2-via-then-room-lt2, then-room-lt2-via-else-room-lt2+then-room-bytes}

pub returns-then-room-lt2-clause-too_long : goal.returns-then-room-lt2-clause-too_long
returns-then-room-lt2-clause-too_long c = λ e.
    let size = length-encode_with lower_digits c.args.bytes.now in
    elim c.then-room-lt2.branch [
      | then-room-lt2-via-then-room-lt2 w ↦ omega (arith, w.if-room-lt2.true, c.len.ensures, c.requires.within)
      | then-room-lt2-via-else-room-lt2+then-room-bytes w ↦ omega (arith, size, w.if-room-lt2.false, w.if-room-bytes.true, c.len.ensures, c.requires.within)
    ]

pub returns-clause-ok : goal.returns-clause-ok
returns-clause-ok c =
    let bytes = c.args.bytes.now in
    c.in_ok-push_str-2.ensures.bytes
    ∙ ap (λ s. s ++ c.as_str.result.now) c.in_ok-push_str.ensures.bytes
    ∙ ap (λ s. (string_bytes c.args.text.now ++ 48 ∷ 120 ∷ []) ++ s) (c.as_str.ensures.value ∙ c.in_ok-digits.ensures)
    ∙ append_assoc (string_bytes c.args.text.now) (48 ∷ 120 ∷ []) (encode_lower bytes)

pub returns-clause-within : goal.returns-clause-within
returns-clause-within c =
    let bytes = c.args.bytes.now in
    let size = ap length (c.as_str.ensures.value ∙ c.in_ok-digits.ensures) ∙ length-encode_with lower_digits bytes in
    omega (arith, size, c.in_ok-push_str-2.ensures.len, c.in_ok-push_str.ensures.len, c.if-room-lt2.false, c.if-room-bytes.false, c.len.ensures, c.requires.within)
