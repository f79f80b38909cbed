-- The macros that entries stand for. This project's own.
use Rattle.std.specs.Prelude.{ℕ, List, [], ◌∷◌}
use Rattle.lisp_read.specs.Views.{form_of}
use Rattle.lisp_spec.specs.Macros.{Macro}
use Rattle.lisp_macro.specs.declared.macros.Definition.{Definition}

abbrev pub macro_with : List ℕ → Definition → Macro
macro_with name definition = record { name = name; params = form_of definition.params; body = form_of definition.body }

abbrev pub macros_of : List (List ℕ × Definition) → List Macro
macros_of [] = []
macros_of (entry ∷ entries) = macro_with entry.0 entry.1 ∷ macros_of entries
