-- What a run answers on nodes: the outcome of evaluation, on the trees that the nodes stand for. This project's own.
use Rattle.std.specs.Prelude.{◌≡◌, ℕ, ◌≤◌, List}
use Rattle.clvm_spec.specs.declared.fuel.Fuel.{Fuel}
use Rattle.clvm_spec.specs.Tree.{Tree}
use Rattle.clvm_spec.specs.Outcomes.{NoStep, NotAList, WrongCount, WrongOperand, ZeroDivisor, WrongShift, NoOperator, Outcome}
use Rattle.clvm_spec.specs.Outcomes as outcomes
use Rattle.clvm_spec.specs.Evaluation.{run_cost}
use Rattle.clvm_tree.specs.Nodes.{tree_at, IsKnown}
use Rattle.clvm_eval.specs.declared.Why.{Why}
use Rattle.clvm_eval.specs.declared.Why.TheVariants as why
use Rattle.clvm_eval.specs.declared.Done.{Done}
use Rattle.clvm_eval.specs.declared.RunFault.{RunFault}
use Rattle.clvm_eval.specs.declared.RunFault.TheVariants as fault

abbrev pub why_of : List Tree → Why → outcomes.Why
why_of trees why.Path = NoStep
why_of trees why.List = NotAList
why_of trees why.Count = WrongCount
why_of trees (why.Operand place) = WrongOperand place
why_of trees (why.Raised node) = outcomes.Raised (tree_at trees node.0)
why_of trees why.Zero = ZeroDivisor
why_of trees why.Shift = WrongShift
why_of trees why.Operator = NoOperator

-- What is raised is one of these trees.
abbrev pub IsWhyKnown : List Tree → Why → Type 0
IsWhyKnown trees why.Path = Unit {0}
IsWhyKnown trees why.List = Unit {0}
IsWhyKnown trees why.Count = Unit {0}
IsWhyKnown trees (why.Operand place) = Unit {0}
IsWhyKnown trees (why.Raised node) = IsKnown trees node.0
IsWhyKnown trees why.Zero = Unit {0}
IsWhyKnown trees why.Shift = Unit {0}
IsWhyKnown trees why.Operator = Unit {0}

-- The evaluation is done with this value, at this cost.
pub record IsRunDone (trees : List Tree) (fuel : Fuel) (outcome : Outcome) (done : Done) : Type 0 where
  pub known : IsKnown trees done.value.0
  pub left : Fuel
  pub is_done : outcome ≡ outcomes.Done (tree_at trees done.value.0) left
  pub within : left.cost ≤ fuel.cost
  pub cost_is : done.cost ≡ run_cost fuel left

-- The evaluation fails, for this reason, at this form.
pub record IsFailure (trees : List Tree) (outcome : Outcome) (reason : Why) (form : ℕ) : Type 0 where
  pub raised_known : IsWhyKnown trees reason
  pub form_known : IsKnown trees form
  pub failed : outcome ≡ outcomes.Failed (why_of trees reason) (tree_at trees form)

-- The fault is the evaluation's. Memory alone may be wanting at any time.
abbrev pub IsRunFault : List Tree → Outcome → RunFault → Type 0
IsRunFault trees outcome (fault.Failed reason form) = IsFailure trees outcome reason form.0
IsRunFault trees outcome (fault.Spent which) = outcome ≡ outcomes.Spent which
IsRunFault trees outcome fault.Wide = outcome ≡ outcomes.Wide
IsRunFault trees outcome fault.OutOfMemory = Unit {0}
