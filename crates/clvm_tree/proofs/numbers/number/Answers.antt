use Rattle.std.proofs.Common.{◌≡◌, ℕ, ◌-◌, ◌<◌, ◌≤◌, List, [], ◌∷◌, length, map, get_or, pos, negsuc, refl, sym, ◌∙◌, ap, arith}
use Rattle.std.specs.Int.{w128}
use Rattle.std.proofs.lemmas.Bool.{cond-true, cond-false, lt-ltb, le-ltb}
use Rattle.std.proofs.lemmas.Int.{to_z_pos}
use Rattle.clvm_spec.specs.Numbers.{unsigned, number}
use Rattle.clvm_spec.proofs.NumberLaws.{all_bytes}
use Rattle.clvm_tree.proofs.DigitLaws.{positive_fits, negative_fits, minus_one_less}
use Rattle.clvm_tree.proofs.numbers.number.Goals as goal

positive : (bytes : List ℕ) → get_or bytes 0 0 < 128 → number bytes ≡ pos (unsigned bytes)
positive [] low = refl
positive (b ∷ bytes) low = cond-true _ _ _ (lt-ltb b 128 low)

negative : (bytes : List ℕ) → 1 ≤ length bytes → 128 ≤ get_or bytes 0 0 → number bytes ≡ negsuc (unsigned (map (λ b. 255 - b) bytes))
negative [] some high = absurd (omega arith)
negative (b ∷ bytes) some high = cond-false _ _ _ (le-ltb b 128 high)

pub overflow_cast-result : goal.overflow_cast-result
overflow_cast-result c =
    let fits = positive_fits c.args.bytes.now (all_bytes c.args.bytes.now (λ i. (c.type_inv.bytes i).fits)) c.requires c.if-first-lt128.true in
    record { sfits = omega (arith, fits, c.unsigned.ensures) }

pub overflow_cast-result-in_default : goal.overflow_cast-result-in_default
overflow_cast-result-in_default c =
    let fits = negative_fits c.args.bytes.now c.requires c.in-len1-up.len_at_least c.if-first-lt128.false in
    record { sfits = omega (arith, fits, c.unsigned_complement.ensures) }

pub returns-in-len1-up : goal.returns-in-len1-up
returns-in-len1-up c =
    let bytes = c.args.bytes.now in
    let fits = positive_fits bytes (all_bytes bytes (λ i. (c.type_inv.bytes i).fits)) c.requires c.if-first-lt128.true in
    to_z_pos w128 c.unsigned.result (omega (arith, fits, c.unsigned.ensures)) ∙ ap pos c.unsigned.ensures ∙ sym (positive bytes c.if-first-lt128.true)

pub returns-in_default : goal.returns-in_default
returns-in_default c =
    let bytes = c.args.bytes.now in
    let fits = negative_fits bytes c.requires c.in-len1-up.len_at_least c.if-first-lt128.false in
    minus_one_less c.unsigned_complement.result (omega (arith, fits, c.unsigned_complement.ensures)) ∙ ap negsuc c.unsigned_complement.ensures ∙ sym (negative bytes c.in-len1-up.len_at_least c.if-first-lt128.false)
