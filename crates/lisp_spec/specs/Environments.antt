-- What the names of a body stand for. Source: Chialisp reference; what a parameter of an inline stands for, and that
-- a missing step shows only where the parameter is evaluated, is this project's own.
use Rattle.std.specs.Prelude.{ℕ, List, [], ◌∷◌, Option, Some, None, bytes_eq, if◌then◌else◌}
use Rattle.clvm_spec.specs.declared.op_codes.TheConstants.{FIRST, REST}
use Rattle.clvm_spec.specs.Tree.{Tree}
use Rattle.lisp_spec.specs.Forms.{Form}
use Rattle.lisp_spec.specs.Parameters.{Side, ToFirst, ToRest, Parameter, parameters, tree_at}
use Rattle.lisp_spec.specs.Expressions.{Expression, Listing, Operation, Operands, NoMore, Operand}

-- A parameter of a function, or of the module, is bound to an A: to its tree in a meaning, in code to the path to it.
pub data Environment (A : Type 0) : Type 0 where
  Empty : Environment A
  Bound : (name : List ℕ) (found : A) (others : Environment A) → Environment A
  -- The name's path has a step that isn't there.
  Astray : (name : List ℕ) (others : Environment A) → Environment A
  -- an expression of a caller, and the environment in which it stands
  Stands : (name : List ℕ) (expression : Expression) (where_it_stands : Environment A) (others : Environment A) → Environment A

-- what one name stands for
pub data Binding (A : Type 0) : Type 0 where
  ToFound : A → Binding A
  ToNoStep : Binding A
  ToExpression : Expression → Environment A → Binding A
  -- The name is no parameter.
  ToNothing : Binding A

abbrev pub binding_of : {A : Type 0} → List ℕ → Environment A → Binding A
binding_of name Empty = ToNothing
binding_of name (Bound other found others) = if bytes_eq other name then ToFound found else binding_of name others
binding_of name (Astray other others) = if bytes_eq other name then ToNoStep else binding_of name others
binding_of name (Stands other e where_it_stands others) = if bytes_eq other name then ToExpression e where_it_stands else binding_of name others

-- ---- a function, and the module itself

abbrev pub bound_to : {A : Type 0} → List ℕ → Option A → Environment A → Environment A
bound_to name None others = Astray name others
bound_to name (Some found) others = Bound name found others

-- Each parameter is bound to what its path leads to.
abbrev pub all_bound : {A : Type 0} → (List Side → Option A) → List Parameter → Environment A
all_bound lead [] = Empty
all_bound lead (p ∷ more) = bound_to p.name (lead p.path) (all_bound lead more)

abbrev pub function_environment : (params : Form) (argument : Tree) → Environment Tree
function_environment params argument = all_bound (λ path. tree_at path argument) (parameters params)

-- ---- an inline

-- An operand into which a path goes on has `f` or `r` applied to it for each step.
abbrev pub step_code : Side → ℕ
step_code ToFirst = FIRST
step_code ToRest = REST

abbrev pub part_of : List Side → Expression → Expression
part_of [] operand = operand
part_of (side ∷ path) operand = part_of path (Operation (step_code side) (Operand operand NoMore))

-- What stands at a path of the operands: a part of one of them, or, where the path ends on the list's spine, `(list ..)`
-- of the operands from there. None where it steps into the list's end.
abbrev pub operand_at : List Side → Operands → Option Expression
operand_at [] operands = Some (Listing operands)
operand_at (side ∷ path) NoMore = None
operand_at (ToFirst ∷ path) (Operand first more) = Some (part_of path first)
operand_at (ToRest ∷ path) (Operand first more) = operand_at path more

abbrev pub standing : {A : Type 0} → List ℕ → Option Expression → Environment A → Environment A → Environment A
standing name None caller others = Astray name others
standing name (Some e) caller others = Stands name e caller others

-- Each parameter stands for an expression in the caller's environment.
abbrev pub expressions_bound : {A : Type 0} → List Parameter → Operands → Environment A → Environment A
expressions_bound [] operands caller = Empty
expressions_bound (p ∷ more) operands caller = standing p.name (operand_at p.path operands) caller (expressions_bound more operands caller)

abbrev pub inline_environment : {A : Type 0} → (params : Form) → Operands → (caller : Environment A) → Environment A
inline_environment params operands caller = expressions_bound (parameters params) operands caller
