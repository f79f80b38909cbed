-- Tables of cases. This project's own.
use Rattle.std.specs.Prelude.{ℕ, Bool, true, ◌&&◌, List, [], ◌∷◌, nat_lt}

-- whether each code is above the one before it
abbrev pub codes_rise : List ℕ → Bool
codes_rise [] = true
codes_rise (code ∷ []) = true
codes_rise (code ∷ next ∷ codes) = nat_lt code next && codes_rise (next ∷ codes)
