-- Places in bytes and in texts. This project's own.
use Rattle.std.specs.Prelude.{ℕ, ◌-◌, List, length}

-- where the rest of bytes begins that stands at their end
abbrev pub place_of : List ℕ → List ℕ → ℕ
place_of bytes rest = length bytes - length rest
