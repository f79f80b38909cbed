-- When the names of code stand for what an environment binds.
use Rattle.std.specs.Prelude.{◌≡◌, ℕ, List, [], ◌∷◌, ◌++◌, Option, Some, None, refl}
use Rattle.clvm_spec.specs.Tree.{Tree, Pair}
use Rattle.lisp_spec.specs.Modules.{Module, Definition}
use Rattle.lisp_spec.specs.Parameters.{Side, tree_at}
use Rattle.lisp_spec.specs.Expressions.{Expression, Scope}
use Rattle.lisp_spec.specs.Environments.{Environment, Empty, Bound, Astray, Stands, Binding, ToFound, ToNoStep, ToExpression, ToNothing, function_environment}
use Rattle.lisp_spec.specs.Scopes.{body_of}
use Rattle.lisp_spec.specs.Meaning.{Meaning, Means, Failed, body_meaning}
use Rattle.lisp_spec.proofs.Soundness.{IsSound}
use Rattle.lisp_code.specs.Names.{Names}
use Rattle.lisp_code.specs.Frames.{Frame, Bare, Wrapped, path_from}

pub data Corresponds (argument : Tree) : Environment Tree → Names → Type 0 where
  empty : Corresponds argument Empty Empty
  at_tree : (name : List ℕ) (path : List Side) (tree : Tree) (env : Environment Tree) (names : Names) → tree_at path argument ≡ Some tree → Corresponds argument env names → Corresponds argument (Bound name tree env) (Bound name path names)
  at_none : (name : List ℕ) (path : List Side) (env : Environment Tree) (names : Names) → tree_at path argument ≡ None → Corresponds argument env names → Corresponds argument (Astray name env) (Bound name path names)
  missing : (name : List ℕ) (env : Environment Tree) (names : Names) → Corresponds argument env names → Corresponds argument (Astray name env) (Astray name names)
  stands : (name : List ℕ) (e : Expression) (scope : Scope) (there env : Environment Tree) (there' names : Names) → IsSound scope e → Corresponds argument there there' → Corresponds argument env names →
      Corresponds argument (Stands name e there env) (Stands name e there' names)

pub data SameName (argument : Tree) : Binding Tree → Binding (List Side) → Type 0 where
  to_tree : (path : List Side) (tree : Tree) → tree_at path argument ≡ Some tree → SameName argument (ToFound tree) (ToFound path)
  to_no_step : (path : List Side) → tree_at path argument ≡ None → SameName argument ToNoStep (ToFound path)
  no_path : SameName argument ToNoStep ToNoStep
  expression : (e : Expression) (scope : Scope) (there : Environment Tree) (there' : Names) → IsSound scope e → Corresponds argument there there' → SameName argument (ToExpression e there) (ToExpression e there')
  nothing : SameName argument ToNothing ToNothing

-- ---- where code runs

-- the tree that a code runs on
abbrev pub world : Frame → (table argument : Tree) → Tree
world Bare table argument = argument
world (Wrapped places) table argument = Pair table argument

pub path_found : (frame : Frame) (table argument : Tree) (path : List Side) → tree_at (path_from frame path) (world frame table argument) ≡ tree_at path argument
path_found Bare table argument path = refl
path_found (Wrapped places) table argument path = refl

pub path_longer : (frame : Frame) (path : List Side) (side : Side) → path_from frame (path ++ side ∷ []) ≡ path_from frame path ++ side ∷ []
path_longer Bare path side = refl
path_longer (Wrapped places) path side = refl

-- what a function of a module gives for the list of its operands' values
abbrev pub function_value : Module → Means → Option Definition → Tree → Meaning
function_value source further None operands = Failed
function_value source further (Some f) operands = body_meaning further (body_of source f.params f.body) (function_environment f.params operands)
