-- Whatever an operator gives costs something.
use Rattle.std.proofs.Common.{◌≡◌, ℕ, ◌≤◌, Bool, true, false, cond, eqb, List, [], ◌∷◌, Option, Some}
use Rattle.std.specs.Prelude.{find}
use Rattle.std.specs.List.{AllByRecursion}
use Rattle.std.proofs.lemmas.List.Elements.{recursion_from_All}
use Rattle.clvm_spec.specs.Tree.{Tree}
use Rattle.clvm_spec.specs.Outcomes.{Gives}
use Rattle.clvm_spec.specs.OperatorTable.{Operator, operators, operator_of, applied_by, applied}
use Rattle.clvm_spec.specs.ColumnLaws.{rows_on_values}
use Rattle.clvm_spec.specs.FuelLaws.{OperatorsCostSomething}
use Rattle.clvm_spec.proofs.Columns.{CostsSomething, some_law}

all_cost : AllByRecursion CostsSomething operators
all_cost = ((λ operands value cost pairs bytes e. cc), ((λ operands value cost pairs bytes e. cc), recursion_from_All CostsSomething rows_on_values some_law))

module _ (operands : List Tree) (value : Tree) (cost pairs bytes : ℕ) where
  one_of : (b : Bool) (row : Operator) (rest : Option Operator) → CostsSomething row → (applied_by rest operands ≡ Gives value cost pairs bytes → 1 ≤ cost) → applied_by (cond b (Some row) rest) operands ≡ Gives value cost pairs bytes → 1 ≤ cost
  one_of true row rest first later e = first operands value cost pairs bytes e
  one_of false row rest first later e = later e

  found : (test : Operator → Bool) (rows : List Operator) → AllByRecursion CostsSomething rows → applied_by (find test rows) operands ≡ Gives value cost pairs bytes → 1 ≤ cost
  found test [] all e = cc
  found test (row ∷ rows) all e = one_of (test row) row (find test rows) all.0 (found test rows all.1) e

pub operators_law : OperatorsCostSomething
unfolding applied operator_of
operators_law [] operands value cost pairs bytes e = cc
operators_law (code ∷ []) operands value cost pairs bytes e = found operands value cost pairs bytes (λ row. eqb row.code code) operators all_cost e
operators_law (code ∷ b ∷ more) operands value cost pairs bytes e = cc
