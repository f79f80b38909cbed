-- What contracts see of a module's parts: forms as forms, and a constant's tree as the one that its bytes spell. This
-- project's own.
use Rattle.std.specs.Prelude.{◌≡◌, ℕ, List, map, Some}
use Rattle.std.specs.List.{AllByRecursion}
use Rattle.clvm_spec.specs.Reading.{tree_of}
use Rattle.clvm_spec.specs.Spelled.{spelled_tree}
use Rattle.lisp_read.specs.Views.{form_of}
use Rattle.lisp_read.specs.declared.form.Form.{Form}
use Rattle.lisp_spec.specs.Modules as modules
use Rattle.lisp_spec.specs.Inclusion.{Texts}
use Rattle.lisp_spec.specs.ModuleLaws.{StandsFor}
use Rattle.lisp_spec.specs.ExpressionWeights.{module_bound}
use Rattle.lisp_module.specs.declared.module.Constant.{Constant}
use Rattle.lisp_module.specs.declared.module.Definition.{Definition}

abbrev pub constant_of : Constant → modules.Constant
constant_of c = record { name = c.name; value = spelled_tree c.value }

abbrev pub definition_of : Definition → modules.Definition
definition_of d = record { name = d.name; params = form_of d.params; body = form_of d.body }

-- A constant's bytes spell a tree.
abbrev pub IsSpelled : Constant → Type 0
IsSpelled c = tree_of c.value ≡ Some (spelled_tree c.value)

abbrev pub module_of_parts : Form → List Constant → (functions inlines : List Definition) → Form → modules.Module
module_of_parts params constants functions inlines body = record {
  params = form_of params;
  constants = map constant_of constants;
  functions = map definition_of functions;
  inlines = map definition_of inlines;
  body = form_of body;
}

-- A text, with some library texts, stands for this module.
pub record IsOfText (m : modules.Module) : Type 0 where
  pub texts : Texts
  pub text : List ℕ
  pub stands : StandsFor texts text m

-- The module is that of a text, its constants are spelled by these bytes, and this is its bound.
pub record IsWhole (constants : List Constant) (m : modules.Module) (bound : ℕ) : Type 0 where
  pub of_text : IsOfText m
  pub spelled : AllByRecursion IsSpelled constants
  pub bound_is : bound ≡ module_bound m
