-- What an operator gives costs something and is within what is left: for those who implement a table of operators.
use Rattle.std.proofs.Common.{◌≡◌, ℕ, List, Option, Some, None, refl, subst}
use Rattle.clvm_spec.specs.declared.fuel.Fuel.{Fuel}
use Rattle.clvm_spec.specs.declared.fuel.Which.{Which}
use Rattle.clvm_spec.specs.Tree.{Tree, Atom, Pair}
use Rattle.clvm_spec.specs.Outcomes.{Applied, Gives, Fails, TooWide, Enough}
use Rattle.clvm_spec.specs.OperatorTable.{applied, unless_lacking, within}
use Rattle.clvm_spec.specs.Spending.{Spending, lack, Suffices}
use Rattle.clvm_spec.proofs.OperatorCosts.{operators_law}
use Rattle.clvm_tree.specs.Nodes.{tree_at}
use Rattle.clvm_tree.specs.Operators.{outcome_by, spending_of, IsWithin, AnswersAreWithin}
use Rattle.clvm_tree.specs.declared.operators.Answer.{Answer}

-- what is given where nothing is lacking
none_lacks : (l : Option Which) (a : Applied) {value : Tree} {cost pairs bytes : ℕ} → unless_lacking l a ≡ Enough (Gives value cost pairs bytes) → (l ≡ None) × (a ≡ Gives value cost pairs bytes)
none_lacks None a e = (refl, cc)
none_lacks (Some which) a e = absurd cc

-- what is left suffices, and without regard to it the same is given
pub record IsCovered (left : Fuel) (a : Applied) (value : Tree) (spending : Spending) : Type 0 where
  pub same : a ≡ Gives value spending.cost spending.pairs spending.bytes
  pub enough : Suffices left spending

gives_within : (left : Fuel) (a : Applied) (value : Tree) (spending : Spending) → within left a ≡ Enough (Gives value spending.cost spending.pairs spending.bytes) → IsCovered left a value spending
gives_within left (Gives v c p y) value spending e =
    let given = none_lacks (lack (record { cost = c; pairs = p; bytes = y }) left) (Gives v c p y) e in
    let same_cost : c ≡ spending.cost = cc in
    let same_pairs : p ≡ spending.pairs = cc in
    let same_bytes : y ≡ spending.bytes = cc in
    let same : record { cost = c; pairs = p; bytes = y } ≡ spending = λ i. record { cost = same_cost i; pairs = same_pairs i; bytes = same_bytes i } in
    record { same = given.1; enough = subst (Suffices left) same given.0 }
gives_within left (Fails why) value spending e = absurd cc
gives_within left TooWide value spending e = absurd cc

pub answer_within : (code : Tree) (operands : List Tree) (left : Fuel) (answer : Answer) (value : Tree) → outcome_by code operands left ≡ Enough (Gives value answer.cost answer.pairs answer.bytes) → IsWithin left answer
answer_within (Atom code) operands left answer value e =
    let covered = gives_within left (applied code operands) value (spending_of answer) e in
    record {
      some = operators_law code operands value answer.cost answer.pairs answer.bytes covered.same;
      enough = covered.enough;
    }
answer_within (Pair first rest) operands left answer value e = absurd cc

pub answers_law : AnswersAreWithin
answers_law trees code operands left answer h = answer_within code operands left answer (tree_at trees answer.value.0) h.gives
