-- A module: what its text is taken apart into, once its macros are expanded. Source: Chialisp reference; which
-- definitions there are, and that constants are values, is this project's own.
use Rattle.std.specs.Prelude.{ℕ, List, Option, find, map, bytes_eq}
use Rattle.clvm_spec.specs.Tree.{Tree}
use Rattle.lisp_spec.specs.Forms.{Form}

-- a function or an inline function: its parameters and its body
pub record Definition : Type 0 where
  pub name : List ℕ
  pub params : Form
  pub body : Form

pub record Constant : Type 0 where
  pub name : List ℕ
  pub value : Tree

pub record Module : Type 0 where
  pub params : Form
  pub constants : List Constant
  pub functions : List Definition
  pub inlines : List Definition
  pub body : Form

abbrev pub definition_names : List Definition → List (List ℕ)
definition_names definitions = map (λ d. d.name) definitions

abbrev pub constant_names : List Constant → List (List ℕ)
constant_names constants = map (λ c. c.name) constants

abbrev pub definition_named : List ℕ → List Definition → Option Definition
definition_named name definitions = find (λ d. bytes_eq d.name name) definitions

abbrev pub constant_named : List ℕ → List Constant → Option Constant
constant_named name constants = find (λ c. bytes_eq c.name name) constants
