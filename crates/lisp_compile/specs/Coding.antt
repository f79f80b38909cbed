-- Codes of all expressions of a module, by what they are made of. This project's own.
use Rattle.std.specs.Prelude.{◌≡◌, List, [], ◌∷◌}
use Rattle.lisp_spec.specs.Modules.{Module}
use Rattle.lisp_spec.specs.Parameters.{Side}
use Rattle.lisp_spec.specs.Expressions.{Expression, Operands, NoMore, Operand, Template}
use Rattle.lisp_code.specs.Names.{Names}
use Rattle.lisp_code.specs.Codes.{Code, step_of}
use Rattle.lisp_code.specs.Code.{Codes, expression_code, template_code}

-- They are made like codes, but with a mark around each that an expression goes on with.
pub record Coding : Type 0 where
  pub source : Module
  pub mark : Code → Code
  pub code : Codes
  pub step : (e : Expression) (names : Names) → code e names ≡ expression_code source (λ e names. mark (code e names)) e names

abbrev pub further : Coding → Codes
further it e names = it.mark (it.code e names)

-- the codes of operands
abbrev pub codes_of : Coding → Operands → Names → List Code
codes_of it NoMore names = []
codes_of it (Operand first more) names = it.code first names ∷ codes_of it more names

abbrev pub template_of : Coding → Template → Names → Code
template_of it template names = template_code it.source (further it) template names

-- what the steps lead to from a value, the first step inside
abbrev pub part_code : List Side → Code → Code
part_code [] code = code
part_code (side ∷ path) code = part_code path (step_of side code)
