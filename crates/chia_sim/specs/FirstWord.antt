-- The first word is `session`. This project's own.
use Rattle.std.specs.Prelude.{List, [], ◌∷◌, Bool, false, String, string_bytes, bytes_eq, codes}
use Rattle.std.specs.declared.alloc.Global.{Global}

abbrev pub begin_with_session : List (String Global) → Bool
begin_with_session [] = false
begin_with_session (word ∷ words) = bytes_eq (string_bytes word) (codes "session")
