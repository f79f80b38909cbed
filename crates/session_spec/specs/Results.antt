-- Readings that go on only where nothing is wrong. Source: this project's own.
use Rattle.std.specs.Prelude.{List, [], ◌∷◌, Bool, Result, Ok, Err, if◌then◌else◌}

infixl 10 ◌>>=◌
abbrev pub ◌>>=◌ : {A B E : Type 0} → Result A E → (A → Result B E) → Result B E
Ok found >>= next = next found
Err wrong >>= next = Err wrong

-- what is read of each, or the first that is wrong
abbrev pub each_of : {A B E : Type 0} → (A → Result B E) → List A → Result (List B) E
each_of read [] = Ok []
each_of read (x ∷ xs) = do
  first ← read x
  others ← each_of read xs
  Ok (first ∷ others)

-- what comes where a test doesn't hold
abbrev pub unless : {A E : Type 0} → Bool → E → Result A E → Result A E
unless broken wrong rest = if broken then Err wrong else rest
