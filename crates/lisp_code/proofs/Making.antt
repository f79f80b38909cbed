-- How codes are made, depth by depth: each of those of the depth below, with a mark around what is gone on with.
use Rattle.std.specs.Prelude.{◌≡◌, ℕ, suc}
use Rattle.lisp_spec.specs.Modules.{Module}
use Rattle.lisp_spec.specs.Expressions.{Expression}
use Rattle.lisp_code.specs.Names.{Names}
use Rattle.lisp_code.specs.Codes.{Code}
use Rattle.lisp_code.specs.Code.{Codes, expression_code}

abbrev pub each_marked : (Code → Code) → Codes → Codes
each_marked mark code e names = mark (code e names)

pub record Making : Type 0 where
  pub source : Module
  pub mark : Code → Code
  pub made : ℕ → Codes
  pub step : (b : ℕ) (e : Expression) (names : Names) → made (suc b) e names ≡ expression_code source (each_marked mark (made b)) e names

abbrev pub further_of : Making → ℕ → Codes
further_of it b = each_marked it.mark (it.made b)
