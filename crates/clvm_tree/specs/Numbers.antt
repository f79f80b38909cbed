-- The numbers of nodes. Source: this project's own.
use Rattle.std.specs.Prelude.{ℤ, Option, Some, None, List, ℕ, if◌then◌else◌}
use Rattle.clvm_spec.specs.Tree.{Tree, Atom, Pair}
use Rattle.clvm_spec.specs.Numbers.{number, is_short}

-- the number of bytes, of which there are at most 16
abbrev pub short_number : List ℕ → Option ℤ
short_number bytes = if is_short bytes then Some (number bytes) else None

-- the number of an atom of at most 16 bytes. A pair has none, nor has a longer atom.
abbrev pub number_in : Tree → Option ℤ
number_in (Atom bytes) = short_number bytes
number_in (Pair first rest) = None
