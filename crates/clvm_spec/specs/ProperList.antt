-- Lists of trees as trees. Source: CLVM reference.
use Rattle.std.specs.Prelude.{List, [], ◌∷◌, Option, Some, None, option_map}
use Rattle.clvm_spec.specs.Tree.{Tree, Atom, Pair}

-- the elements of a proper list, which nil ends
abbrev pub elements : Tree → Option (List Tree)
elements (Atom []) = Some []
elements (Atom (b ∷ bytes)) = None
elements (Pair first rest) = option_map (λ more. first ∷ more) (elements rest)
