-- The tree that a quoted form is. Source: Chialisp reference.
use Rattle.std.specs.Prelude.{ℕ, List, [], ◌∷◌, Option, Some, None}
use Rattle.clvm_spec.specs.Tree.{Tree, Atom, Pair}
use Rattle.clvm_spec.specs.OperatorTable.{Operator, operator_named}
use Rattle.lisp_spec.specs.Forms.{Form}
use Rattle.lisp_spec.specs.Forms as form

abbrev pub code_or_bytes : Option Operator → List ℕ → Tree
code_or_bytes None name = Atom name
code_or_bytes (Some row) name = Atom (row.code ∷ [])

-- An operator's name becomes its code, another symbol its bytes.
abbrev pub symbol_tree : List ℕ → Tree
symbol_tree name = code_or_bytes (operator_named name) name

abbrev pub quoted_form : Form → Tree
quoted_form (form.Atom at bytes) = Atom bytes
quoted_form (form.Symbol at name) = symbol_tree name
quoted_form (form.Pair at first rest) = Pair (quoted_form first) (quoted_form rest)
