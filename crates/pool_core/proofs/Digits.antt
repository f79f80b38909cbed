-- The number of digits that follow higher ones.
use Rattle.std.proofs.Common.{ℕ, ◌+◌, ◌*◌, ◌^◌, ◌<◌, ◌≤◌, List, length, drop, get_or, arith}
use Rattle.std.specs.Int.Digits.{number_from_digits_after}
use Rattle.std.proofs.lemmas.Int.Digits.{number_after_ge}
use Rattle.std.proofs.lemmas.List.{at_drop_more}

-- One more digit behind 2 ^ 56 makes 2 ^ 64.
pub too_large : (high i : ℕ) (bytes : List ℕ) → i < length bytes → 2 ^ 56 ≤ high → 2 ^ 64 ≤ number_from_digits_after 256 high (drop i bytes)
too_large high i bytes h large =
    let step = at_drop_more (number_from_digits_after 256 high) bytes i 0 h in
    let more = number_after_ge 256 (high * 256 + get_or bytes i 0) (drop (i + 1) bytes) (omega arith) in
    omega arith
