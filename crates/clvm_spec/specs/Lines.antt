-- The end of a line of text. Source: ASCII.
use Rattle.std.specs.Prelude.{ℕ, List, [], ◌∷◌}

abbrev pub line_feed : List ℕ
line_feed = 10 ∷ []
