-- The weight of a tree and of a form, and the limit of weights. Source: this project's own.
use Rattle.std.specs.Prelude.{ℕ, ◌+◌, length}
use Rattle.clvm_spec.specs.Tree.{Tree}
use Rattle.clvm_spec.specs.Tree as tree
use Rattle.lisp_spec.specs.Forms.{Form}
use Rattle.lisp_spec.specs.Forms as form
use Rattle.lisp_spec.specs.declared.limits.TheConstants.{MOST_WEIGHT}

-- 1 and its length for an atom, 1 and both weights for a pair
abbrev pub tree_weight : Tree → ℕ
tree_weight (tree.Atom bytes) = 1 + length bytes
tree_weight (tree.Pair first rest) = 1 + tree_weight first + tree_weight rest

-- A symbol weighs what an atom of its length does.
abbrev pub form_weight : Form → ℕ
form_weight (form.Atom at bytes) = 1 + length bytes
form_weight (form.Symbol at name) = 1 + length name
form_weight (form.Pair at first rest) = 1 + form_weight first + form_weight rest

-- the most that a tree or a form may weigh where the language says so
abbrev pub weight_limit : ℕ
weight_limit = MOST_WEIGHT
