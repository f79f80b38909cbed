-- What a node of a value stands for, and what is kept of its size. This project's own.
use Rattle.std.specs.Prelude.{◌≡◌, ℕ, ◌+◌, min}
use Rattle.lisp_read.specs.Forms as forms
use Rattle.lisp_spec.specs.Expansion.{nesting}
use Rattle.lisp_spec.specs.Macros.{nesting_limit}
use Rattle.lisp_spec.specs.Weights.{form_weight, weight_limit}
use Rattle.lisp_macro.specs.declared.value.Node.{Node}
use Rattle.lisp_macro.specs.declared.value.Node.TheVariants.{Atom, Symbol, Pair}

-- the form; the parts of a pair are seen as forms already
abbrev pub node_form : Node → forms.Form
node_form (Atom place bytes) = forms.Atom place bytes.now
node_form (Symbol place name) = forms.Symbol place name.now
node_form (Pair place first rest) = forms.Pair place first.now rest.now

-- The nesting and the weight are known, each up to one more than its limit.
pub record IsMeasured (form : forms.Form) (depth weight : ℕ) : Type 0 where
  pub depth_is : depth ≡ min (nesting form) (nesting_limit + 1)
  pub weight_is : weight ≡ min (form_weight form) (weight_limit + 1)
