-- The code of a module agrees with it, and is no longer than its bound: laws of the definitions, each proved once for
-- the crates above.
use Rattle.std.specs.Prelude.{◌≡◌, ℕ, ◌*◌, ◌^◌, ◌<◌, ◌≤◌, true, List, [], ◌∷◌, ◌++◌, Some, length}
use Rattle.clvm_spec.specs.Spelling.{spelling, IsPrefixed, HasSpelling}
use Rattle.lisp_spec.specs.Modules.{Module}
use Rattle.lisp_spec.specs.Expressions.{Expression}
use Rattle.lisp_spec.specs.Agreement.{Agrees, FailsAlike}
use Rattle.lisp_spec.specs.ModuleLaws.{AreBound}
use Rattle.lisp_spec.specs.CycleLaws.{HasNoCycle}
use Rattle.lisp_spec.specs.ExpressionWeights.{module_bound}
use Rattle.lisp_spec.specs.ModuleFaults.{is_among}
use Rattle.lisp_spec.specs.Parameters.{Side}
use Rattle.lisp_code.specs.Names.{Names}
use Rattle.lisp_code.specs.Codes.{Code, operates, functions_called}
use Rattle.lisp_code.specs.Frames.{Function, places_of, path_in, reached}
use Rattle.lisp_code.specs.Code.{Codes, expression_code, whole_code}

-- These are codes of all expressions, with whatever names: each is made of those that it goes on with.
abbrev pub AreCodes : Module → Codes → Type 0
AreCodes source code = (e : Expression) (names : Names) → code e names ≡ expression_code source code e names

-- Codes whose whole agrees with the module, fails where it fails, and is no longer than the module's bound. It has a spelling
-- where each atom within the bound has one.
pub record HasCode (source : Module) : Type 0 where
  pub code : Codes
  pub are_codes : AreCodes source code
  pub agrees : Agrees source (whole_code source code)
  pub fails : FailsAlike source (whole_code source code)
  pub within : length (spelling (whole_code source code)) ≤ module_bound source
  pub spelled : IsPrefixed (module_bound source) → HasSpelling (whole_code source code)

-- Where each body is an expression and no inline reaches itself there are such codes.
abbrev pub ModulesHaveCode : Type 0
ModulesHaveCode = (source : Module) → AreBound source → HasNoCycle source → HasCode source

-- Codes that are like those of a module, but with one form more around each that an expression goes on with. So the code of
-- an expression has more forms than all those together of the codes that it goes on with: a measure of how inlines nest.
abbrev pub marked : Code → Code
marked code = operates 0 (code ∷ [])

abbrev pub AreMeasured : Module → Codes → Type 0
AreMeasured source measured = (e : Expression) (names : Names) → measured e names ≡ expression_code source (λ e names. marked (measured e names)) e names

-- Where no inline reaches itself, that work ends.
abbrev pub WorkEnds : Type 0
WorkEnds = (source : Module) → HasNoCycle source → (measured : Codes) × AreMeasured source measured

-- A path to a function has about as many steps as the logarithm of the number of functions that are there.
abbrev pub PathsAreShort : Type 0
PathsAreShort = (f : Function) (more : List Function) (name : List ℕ) (path : List Side) → path_in name (places_of f more) ≡ Some path → 2 ^ length path < 2 * length (f ∷ more)

-- Each of these functions has one of these names, or is called by one before it.
abbrev pub AreCalled : (names : List (List ℕ)) → List Function → Type 0
AreCalled names [] = Unit {0}
AreCalled names (f ∷ more) = (is_among f.name names ≡ true) × AreCalled (functions_called f.code ++ names) more

-- No function is there that isn't reached.
abbrev pub OnlyCalledAreThere : Type 0
OnlyCalledAreThere = (names : List (List ℕ)) (functions : List Function) → AreCalled names (reached (length functions) names functions)
