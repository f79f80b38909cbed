-- Where no inline reaches itself, a module has code that agrees with it, and the work to make it ends.
use Rattle.std.proofs.Common.{◌≡◌, ℕ, zero, suc, ◌≤◌, List, [], ◌∷◌, map, length, refl, sym, ◌∙◌, subst, arith}
use Rattle.clvm_spec.specs.Tree.{Tree}
use Rattle.clvm_spec.specs.Spelling.{spelling}
use Rattle.lisp_spec.specs.Modules.{Module, Definition}
use Rattle.lisp_spec.specs.Agreement.{Agrees, FailsAlike}
use Rattle.lisp_spec.specs.Expressions.{Expression}
use Rattle.lisp_spec.specs.Scopes.{body_of}
use Rattle.lisp_spec.specs.CycleLaws.{HasNoCycle}
use Rattle.lisp_spec.specs.ExpressionWeights.{module_bound}
use Rattle.lisp_code.specs.Names.{Names, function_names}
use Rattle.lisp_code.specs.Codes.{fails}
use Rattle.lisp_code.specs.Frames.{Function, whole_of}
use Rattle.lisp_code.specs.Code.{Codes, body_code, expression_code, function_of, whole_code}
use Rattle.lisp_code.specs.CodeLaws.{ModulesHaveCode, marked, WorkEnds}
use Rattle.lisp_code.proofs.Depths.{code_within, own_code, coded, module_code, IsSettled}
use Rattle.lisp_code.proofs.Eventually.{Eventually, eventually_same, eventually_map, eventually_two}
use Rattle.lisp_code.proofs.Making.{each_marked, Making}
use Rattle.lisp_code.proofs.Settling.{each_settles}
use Rattle.lisp_code.proofs.Limits.{body_limit, limit_is_its_step}
use Rattle.lisp_code.proofs.Agreed.{code_agrees, code_fails_alike}
use Rattle.lisp_code.proofs.Lengths.{short_spelled}
use Rattle.lisp_code.proofs.Bounds.{module_fits}

module _ (it : Making) (ends : HasNoCycle it.source) where
  pub last_made : Codes
  last_made e names = (each_settles it ends e names).0

  pub last_limits : (e : Expression) (names : Names) → Eventually (λ b. it.made b e names) (last_made e names)
  unfolding last_made
  last_limits e names = (each_settles it ends e names).1

  pub last_step : (e : Expression) (names : Names) → last_made e names ≡ expression_code it.source (each_marked it.mark last_made) e names
  last_step e names = limit_is_its_step it last_made last_limits e names

-- ---- the code

abbrev codes_of : Module → Making
codes_of source = record { source = source; mark = λ code. code; made = code_within source; step = λ b e names. refl }

module _ (source : Module) (code : Codes) (limits : (e : Expression) (names : Names) → Eventually (λ b. code_within source b e names) (code e names)) where
  abbrev function_at : ℕ → Definition → Function
  function_at b f = function_of source (code_within source b) f

  function_limit : (f : Definition) → Eventually (λ b. function_at b f) (function_of source code f)
  function_limit f =
      let read = body_of source f.params f.body in
      let names = function_names f.params in
      eventually_map (λ made. record { name = f.name; code = made }) (λ b. body_code (code_within source b) read names) (body_code code read names) (body_limit (code_within source) code limits read names)

  functions_limit : (fs : List Definition) → Eventually (λ b. map (function_at b) fs) (map (function_of source code) fs)
  functions_limit [] = eventually_same []
  functions_limit (f ∷ fs) =
      eventually_two (λ f fs. f ∷ fs) (λ b. function_at b f) (λ b. map (function_at b) fs) (function_of source code f) (map (function_of source code) fs) (function_limit f) (functions_limit fs)

  module_limit : Eventually (module_code source) (whole_code source code)
  unfolding module_code
  module_limit =
      let read = body_of source source.params source.body in
      let names = function_names source.params in
      eventually_two whole_of (own_code source) (coded source) (body_code code read names) (map (function_of source code) source.functions)
      (body_limit (code_within source) code limits read names) (functions_limit source.functions)

settled_code : (source : Module) (code : Tree) → Eventually (module_code source) code → (depth : ℕ) × IsSettled source depth × (module_code source depth ≡ code)
unfolding Eventually
settled_code source code s = (s.0, λ more le. s.1 more le ∙ sym (s.1 s.0 (omega arith)), s.1 s.0 (omega arith))

pub modules_have_code : ModulesHaveCode
modules_have_code source bound ends =
    let code = last_made (codes_of source) ends in
    let at = settled_code source (whole_code source code) (module_limit source code (last_limits (codes_of source) ends)) in
    let within : length (spelling (whole_code source code)) ≤ module_bound source = subst (λ code. length (spelling code) ≤ module_bound source) at.2 (module_fits source ends at.0 bound) in
    record {
      code = code;
      are_codes = last_step (codes_of source) ends;
      agrees = subst (Agrees source) at.2 (code_agrees source at.0 at.1);
      fails = subst (FailsAlike source) at.2 (code_fails_alike source at.0 at.1);
      within = within;
      spelled = λ short. short_spelled (whole_code source code) (module_bound source) within short;
    }

-- ---- the work

abbrev measured_within : Module → ℕ → Codes
measured_within source zero = expression_code source (λ e names. fails)
measured_within source (suc depth) = expression_code source (each_marked marked (measured_within source depth))

abbrev measured_of : Module → Making
measured_of source = record { source = source; mark = marked; made = measured_within source; step = λ b e names. refl }

pub work_ends : WorkEnds
work_ends source ends = (last_made (measured_of source) ends, last_step (measured_of source) ends)
