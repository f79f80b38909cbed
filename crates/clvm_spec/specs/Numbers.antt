-- The numbers of atoms: big-endian two's complement, with the empty atom for zero. Source: CLVM reference; that
-- numbers are 128 bits wide is this project's own.
use Rattle.std.specs.Prelude.{ℕ, ◌-◌, ◌==◌, ◌&&◌, ◌||◌, ℤ, pos, negsuc, Bool, false, not, List, [], ◌∷◌, length, map, nat_lt, nat_le, if◌then◌else◌}
use Rattle.std.specs.Int.{w128, to_be_bytes, cast_unsigned}
use Rattle.std.specs.Int.Digits.{number_from_digits}
use Rattle.clvm_spec.specs.declared.limits.TheConstants.{NUMBER_BYTES}

-- the number that big-endian bytes write
abbrev pub unsigned : List ℕ → ℕ
unsigned bytes = number_from_digits 256 bytes

-- whether a number with this first byte is 0 or more
abbrev pub is_natural : ℕ → Bool
is_natural b = nat_lt b 0x80

abbrev pub complemented : List ℕ → List ℕ
complemented bytes = map (λ b. 255 - b) bytes

-- A number below 0 is -1 less the number of the complement.
abbrev pub number : List ℕ → ℤ
number [] = pos 0
number (b ∷ bytes) = if is_natural b then pos (unsigned (b ∷ bytes)) else negsuc (unsigned (complemented (b ∷ bytes)))

-- whether an atom has no more bytes than a number that operators take
abbrev pub is_short : List ℕ → Bool
is_short bytes = nat_le (length bytes) NUMBER_BYTES

-- whether the first byte says no more than the sign of what follows it
abbrev pub has_sign_byte : List ℕ → Bool
has_sign_byte [] = false
has_sign_byte (b ∷ []) = b == 0
has_sign_byte (b ∷ c ∷ bytes) = (b == 0 && is_natural c) || (b == 255 && not (is_natural c))

unfoldable pub without_sign_bytes : List ℕ → List ℕ
without_sign_bytes [] = []
without_sign_bytes (b ∷ bytes) = if has_sign_byte (b ∷ bytes) then without_sign_bytes bytes else b ∷ bytes

-- the shortest atom of a number of 128 bits
unfoldable pub shortest_atom : ℤ → List ℕ
shortest_atom n = without_sign_bytes (to_be_bytes w128 (cast_unsigned w128 n))
