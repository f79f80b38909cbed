-- An atom as a path into an environment. Source: CLVM reference; the costs as they stand here are this project's own.
use Rattle.std.specs.Prelude.{ℕ, zero, suc, ◌+◌, ◌*◌, ◌/◌, ◌%◌, ◌==◌, List, [], ◌∷◌, length, nat_le, if◌then◌else◌}
use Rattle.clvm_spec.specs.declared.costs.TheConstants.{PATH_COST, PATH_ZERO_COST, PATH_STEP_COST}
use Rattle.clvm_spec.specs.Tree.{Tree, Atom, Pair, nil}
use Rattle.clvm_spec.specs.Numbers.{unsigned}

pub data PathValue : Type 0 where
  -- what the path leads to, and by how many steps
  Reached : (value : Tree) (steps : ℕ) → PathValue
  -- A step leads into an atom.
  Astray : PathValue

-- one step on, by a bit: 0 to the first, 1 to the rest
abbrev pub side : ℕ → Tree → Tree → Tree
side bit first rest = if bit == 0 then first else rest

abbrev pub stepped : (Tree → PathValue) → ℕ → Tree → PathValue
stepped go bit (Atom bytes) = Astray
stepped go bit (Pair first rest) = go (side bit first rest)

-- The bits below the highest set one are followed from the lowest up. The first number only bounds how many
-- there are, and the third counts the steps so far.
unfoldable pub followed : ℕ → ℕ → ℕ → Tree → PathValue
followed zero bits steps tree = Reached tree steps
followed (suc bound) bits steps tree = if nat_le bits 1 then Reached tree steps else stepped (followed bound (bits / 2) (suc steps)) (bits % 2) tree

-- A path of zero bytes alone, or of none, leads to nil.
abbrev pub path_value : List ℕ → Tree → PathValue
path_value path env = if unsigned path == 0 then Reached nil 0 else followed (8 * length path) (unsigned path) 0 env

abbrev pub leading_zeros : List ℕ → ℕ
leading_zeros [] = 0
leading_zeros (b ∷ bytes) = if b == 0 then suc (leading_zeros bytes) else 0

abbrev pub path_cost : List ℕ → ℕ → ℕ
path_cost path steps = PATH_COST + PATH_ZERO_COST * leading_zeros path + PATH_STEP_COST * steps
