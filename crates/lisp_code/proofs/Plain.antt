-- The evaluation of a program without costs, where only how deep forms nest is counted: the bridge between the costed
-- evaluation and the meaning of sources.
use Rattle.std.specs.Prelude.{ℕ, zero, suc, List, [], ◌∷◌, Option, Some, None, if◌then◌else◌}
use Rattle.clvm_spec.specs.Tree.{Tree, Atom, Pair}
use Rattle.clvm_spec.specs.ProperList.{elements}
use Rattle.clvm_spec.specs.Path.{PathValue, Reached, Astray, path_value}
use Rattle.clvm_spec.specs.OperatorTable.{applied}
use Rattle.clvm_spec.specs.Evaluation.{is_byte}
use Rattle.lisp_spec.specs.Meaning.{Meaning, Value, Failed, Out, if_value, operator_meaning}

abbrev pub Runs : Type 0
Runs = Tree → Tree → Meaning

abbrev pub path_meaning : PathValue → Meaning
path_meaning (Reached value steps) = Value value
path_meaning Astray = Failed

abbrev pub found_meaning : Option Tree → Meaning
found_meaning None = Failed
found_meaning (Some tree) = Value tree

abbrev pub plain_run : Runs → List Tree → Meaning
plain_run runs [] = Failed
plain_run runs (program ∷ []) = Failed
plain_run runs (program ∷ env ∷ []) = runs program env
plain_run runs (program ∷ env ∷ c ∷ more) = Failed

abbrev pub plain_apply : Runs → List ℕ → List Tree → Meaning
plain_apply runs code values = if is_byte 2 code then plain_run runs values else operator_meaning (applied code values)

abbrev pub plain_values : (Tree → Meaning) → List Tree → (List Tree → Meaning) → Meaning
plain_values value [] go = go []
plain_values value (operand ∷ operands) go = plain_values value operands (λ values. if_value (value operand) (λ v. go (v ∷ values)))

abbrev pub plain_form : Runs → List ℕ → Tree → Option (List Tree) → Meaning
plain_form runs code env None = Failed
plain_form runs code env (Some operands) = plain_values (λ operand. runs operand env) operands (plain_apply runs code)

abbrev pub plain_by : Runs → Runs
plain_by runs (Atom path) env = path_meaning (path_value path env)
plain_by runs (Pair (Pair a b) rest) env = Failed
plain_by runs (Pair (Atom code) rest) env = if is_byte 1 code then Value rest else plain_form runs code env (elements rest)

abbrev pub plain : ℕ → Runs
plain zero program env = Out
plain (suc n) program env = plain_by (plain n) program env
