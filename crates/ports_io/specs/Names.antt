-- Which names a library over a folder looks up. This project's own.
use Rattle.std.specs.Prelude.{ℕ, ◌==◌, Bool, not, ◌&&◌, ◌||◌, List, length, slice_index, nat_lt, nat_le}
use Rattle.std.specs.List.{list_all}

-- an ASCII letter or digit, `.`, `_` or `-`
abbrev pub is_name_byte : ℕ → Bool
is_name_byte b = (nat_le 97 b && nat_le b 122) || (nat_le 65 b && nat_le b 90) || (nat_le 48 b && nat_le b 57) || (b == 46) || (b == 95) || (b == 45)

-- 1 to 128 of them, of which the first isn't `.`
abbrev pub is_file_name : List ℕ → Bool
is_file_name bytes = nat_lt 0 (length bytes) && nat_le (length bytes) 128 && not (slice_index bytes 0 == 46) && list_all is_name_byte bytes
