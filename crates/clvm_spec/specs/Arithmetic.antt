-- What the operators calculate with whole numbers. Source: CLVM reference; the width of 128 bits and the limits of a
-- shift are this project's own.
use Rattle.std.specs.Prelude.{zero, suc, ◌/◌, ◌^◌, ℤ, pos, negsuc, ◌-ℤ◌, ◌*ℤ◌, nat_abs, Bool, true, false, nat_lt, nat_le, if◌then◌else◌, Option, Some, None}
use Rattle.std.specs.Int.{int_shr}
use Rattle.clvm_spec.specs.declared.limits.TheConstants.{MOST_SHIFT}

-- from -2 ^ 127 to 2 ^ 127 - 1
abbrev pub fits_128 : ℤ → Bool
fits_128 (pos n) = nat_lt n (2 ^ 127)
fits_128 (negsuc n) = nat_lt n (2 ^ 127)

-- a number where 128 bits hold it
abbrev pub if_fits : ℤ → Option ℤ
if_fits n = if fits_128 n then Some n else None

abbrev pub is_zero : ℤ → Bool
is_zero (pos zero) = true
is_zero (pos (suc n)) = false
is_zero (negsuc n) = false

-- rounded down, by a divisor that isn't 0
abbrev pub quotient : ℤ → ℤ → ℤ
quotient (pos a) (pos b) = pos (a / b)
quotient (pos zero) (negsuc b) = pos zero
quotient (pos (suc a)) (negsuc b) = negsuc (a / suc b)
quotient (negsuc a) (pos b) = negsuc (a / b)
quotient (negsuc a) (negsuc b) = pos (suc a / suc b)

-- what the quotient leaves
abbrev pub remainder : ℤ → ℤ → ℤ
remainder a b = a -ℤ (b *ℤ quotient a b)

-- -1 less the number
abbrev pub complement : ℤ → ℤ
complement n = negsuc 0 -ℤ n

-- by no more than the limit, either way
abbrev pub is_shift : ℤ → Bool
is_shift by = nat_le (nat_abs by) MOST_SHIFT

-- times 2 to that power, rounded down
abbrev pub shifted : ℤ → ℤ → ℤ
shifted n (pos by) = n *ℤ pos (2 ^ by)
shifted n (negsuc by) = int_shr n (suc by)
