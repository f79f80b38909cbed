-- Trees of parameters: a symbol, the empty atom, or a pair of two such trees. Source: Chialisp reference.
use Rattle.std.specs.Prelude.{ℕ, List, [], ◌∷◌, ◌++◌, map, Bool, true, false, ◌&&◌, Option, Some, None, option_map, find, bytes_eq}
use Rattle.clvm_spec.specs.Tree.{Tree, Atom, Pair}
use Rattle.lisp_spec.specs.Forms.{Form, Place}
use Rattle.lisp_spec.specs.Forms as form

abbrev pub is_parameter_tree : Form → Bool
is_parameter_tree (form.Atom at []) = true
is_parameter_tree (form.Atom at (b ∷ bytes)) = false
is_parameter_tree (form.Symbol at name) = true
is_parameter_tree (form.Pair at first rest) = is_parameter_tree first && is_parameter_tree rest

-- one step down a tree
pub data Side : Type 0 where
  ToFirst : Side
  ToRest : Side

-- a parameter: where its name is written, and the path to it, from the top of its tree down
pub record Parameter : Type 0 where
  pub name : List ℕ
  pub place : Place
  pub path : List Side

abbrev pub below : Side → Parameter → Parameter
below side p = record p { path = side ∷ p.path }

-- all parameters of a tree, in the order of the text
abbrev pub parameters : Form → List Parameter
parameters (form.Atom at bytes) = []
parameters (form.Symbol at name) = record { name = name; place = at; path = [] } ∷ []
parameters (form.Pair at first rest) = map (below ToFirst) (parameters first) ++ map (below ToRest) (parameters rest)

abbrev pub parameter_names : Form → List (List ℕ)
parameter_names params = map (λ p. p.name) (parameters params)

-- the path of a parameter, by its name
abbrev pub path_of : List ℕ → Form → Option (List Side)
path_of name params = option_map (λ p. p.path) (find (λ p. bytes_eq p.name name) (parameters params))

-- what stands at a path of a tree, or none where a step leads into an atom
abbrev pub tree_at : List Side → Tree → Option Tree
tree_at [] tree = Some tree
tree_at (side ∷ path) (Atom bytes) = None
tree_at (ToFirst ∷ path) (Pair first rest) = tree_at path first
tree_at (ToRest ∷ path) (Pair first rest) = tree_at path rest
