-- What bounds the definition of a path's value. It follows from the definition.
use Rattle.std.specs.Prelude.{◌≡◌, ℕ, ◌*◌, ◌≤◌, List, length}
use Rattle.clvm_spec.specs.Tree.{Tree}
use Rattle.clvm_spec.specs.Numbers.{unsigned}
use Rattle.clvm_spec.specs.Laws.{AreBytes}
use Rattle.clvm_spec.specs.Path.{followed}

-- A path has no more bits than its bytes have, so the definition's bound is no part of its meaning: any number of these
-- or above gives the same.
abbrev pub PathsAreWithinTheirBits : Type 0
PathsAreWithinTheirBits = (bound steps : ℕ) (path : List ℕ) (env : Tree) → AreBytes path → 8 * length path ≤ bound →
    followed bound (unsigned path) steps env ≡ followed (8 * length path) (unsigned path) steps env
