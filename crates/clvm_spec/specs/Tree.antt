-- A CLVM tree is an atom, which is a list of bytes, or a pair of two trees. Source: CLVM reference.
use Rattle.std.specs.Prelude.{ℕ, List, [], ◌∷◌}

pub data Tree : Type 0 where
  Atom : List ℕ → Tree
  Pair : Tree → Tree → Tree

-- the empty atom
abbrev pub nil : Tree
nil = Atom []

-- the bytes of an atom; a pair has none
abbrev pub bytes_of : Tree → List ℕ
bytes_of (Atom bytes) = bytes
bytes_of (Pair first rest) = []

-- a list as pairs whose rests lead to what ends it
abbrev pub listed : {T : Type 0} → T → (T → T → T) → List T → T
listed last pair [] = last
listed last pair (first ∷ others) = pair first (listed last pair others)

-- the proper list of trees, which nil ends
abbrev pub list_tree : List Tree → Tree
list_tree trees = listed nil Pair trees
