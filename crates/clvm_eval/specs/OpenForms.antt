-- What operator forms come to whose operands are evaluated in part, on trees. This project's own.
use Rattle.std.specs.Prelude.{ℕ, suc, List, [], ◌∷◌, ◌++◌}
use Rattle.clvm_spec.specs.declared.fuel.Fuel.{Fuel}
use Rattle.clvm_spec.specs.Tree.{Tree, Atom, Pair}
use Rattle.clvm_spec.specs.Outcomes.{Outcome}
use Rattle.clvm_spec.specs.Evaluation.{if_done, in_form, apply_values, values_of, evaluation}
use Rattle.clvm_tree.specs.Operators.{outcome_by}

-- Operands are evaluated from the last to the first: the first ones are programs yet, and of those behind them there are
-- the values.
pub record OpenForm : Type 0 where
  pub code : Tree
  pub form : Tree
  pub env : Tree
  pub depth : ℕ
  pub programs : List Tree
  pub values : List Tree

-- the operator of this code on its values
abbrev pub operated : Tree → Tree → ℕ → List Tree → Fuel → Outcome
operated (Atom code) form depth values left = apply_values evaluation code form depth values left
operated (Pair first rest) form depth values left = in_form form left (outcome_by (Pair first rest) values left)

-- The operands that are programs yet are evaluated, and then the operator is applied to all.
abbrev pub form_outcome : OpenForm → Fuel → Outcome
form_outcome opened left =
    values_of (λ operand. evaluation operand opened.env (suc opened.depth)) opened.programs left
    (λ values after. operated opened.code opened.form opened.depth (values ++ opened.values) after)

-- the form with the value of one operand more
abbrev pub with_value : OpenForm → Tree → OpenForm
with_value opened value = record opened { values = value ∷ opened.values }

-- Each form awaits the value of the next, the outermost first: what a value for the last of them comes to.
abbrev pub goes_through : List OpenForm → (Tree → Fuel → Outcome) → Tree → Fuel → Outcome
goes_through [] go = go
goes_through (opened ∷ inner) go = goes_through inner (λ value left. if_done (form_outcome (with_value opened value) left) go)
