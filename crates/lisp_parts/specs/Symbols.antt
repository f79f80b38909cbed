-- Forms whose symbols are texts of ASCII characters, as those of each text are: a library is asked by such names. This project's own.
use Rattle.std.specs.Prelude.{◌≡◌, ℕ, true, List, [], ◌∷◌}
use Rattle.std.specs.List.{list_all}
use Rattle.lisp_spec.specs.Forms.{Form, Atom, Symbol, Pair}
use Rattle.lisp_spec.specs.Definitions.{is_ascii}

abbrev pub IsAsciiName : List ℕ → Type 0
IsAsciiName name = list_all is_ascii name ≡ true

abbrev pub HasAsciiSymbols : Form → Type 0
HasAsciiSymbols (Atom place bytes) = Unit {0}
HasAsciiSymbols (Symbol place name) = IsAsciiName name
HasAsciiSymbols (Pair place first rest) = HasAsciiSymbols first × HasAsciiSymbols rest

abbrev pub HaveAsciiSymbols : List Form → Type 0
HaveAsciiSymbols [] = Unit {0}
HaveAsciiSymbols (form ∷ forms) = HasAsciiSymbols form × HaveAsciiSymbols forms
