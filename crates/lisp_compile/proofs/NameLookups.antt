-- What a name stands for, by the path of the parameter of that name, and the codes of what stands at a path.
use Rattle.std.proofs.Common.{◌≡◌, ℕ, Bool, true, false, cond, List, [], ◌∷◌, ◌++◌, Some, None, Option, option_map, find, bytes_eq, refl, ap, ◌∙◌}
use Rattle.lisp_spec.specs.Forms.{Form}
use Rattle.lisp_spec.specs.Parameters.{Side, ToFirst, ToRest, Parameter, parameters, path_of}
use Rattle.lisp_spec.specs.Expressions.{Expression, Operation, Operands, NoMore, Operand}
use Rattle.lisp_spec.specs.Environments.{Binding, ToFound, ToNoStep, ToExpression, ToNothing, binding_of, all_bound, step_code, part_of, operand_at, standing, expressions_bound, inline_environment}
use Rattle.lisp_code.specs.Names.{Names, function_names}
use Rattle.lisp_code.specs.Codes.{Code, step_of, operation_of}
use Rattle.lisp_compile.specs.Coding.{Coding, part_code}
use Rattle.lisp_compile.proofs.CodingLaws.{code_operation}

abbrev pub bound_by_path : Option (List Side) → Binding (List Side)
bound_by_path None = ToNothing
bound_by_path (Some path) = ToFound path

abbrev pub bound_by_operand : Names → Option Expression → Binding (List Side)
bound_by_operand there None = ToNoStep
bound_by_operand there (Some e) = ToExpression e there

abbrev pub bound_by_operands : Operands → Names → Option (List Side) → Binding (List Side)
bound_by_operands operands there None = ToNothing
bound_by_operands operands there (Some path) = bound_by_operand there (operand_at path operands)

abbrev path_in_all : List ℕ → List Parameter → Option (List Side)
path_in_all name ps = option_map (λ p. p.path) (find (λ p. bytes_eq p.name name) ps)

one_path : (b : Bool) (p : Parameter) (more : Option Parameter) (rest : Binding (List Side)) → rest ≡ bound_by_path (option_map (λ p. p.path) more) →
    cond b (ToFound p.path) rest ≡ bound_by_path (option_map (λ p. p.path) (cond b (Some p) more))
one_path true p more rest e = refl
one_path false p more rest e = e

bound_paths : (name : List ℕ) (ps : List Parameter) → binding_of name (all_bound Some ps) ≡ bound_by_path (path_in_all name ps)
bound_paths name [] = refl
bound_paths name (p ∷ ps) = one_path (bytes_eq p.name name) p (find (λ p. bytes_eq p.name name) ps) (binding_of name (all_bound Some ps)) (bound_paths name ps)

pub bound_function : (name : List ℕ) (params : Form) → binding_of name (function_names params) ≡ bound_by_path (path_of name params)
bound_function name params = bound_paths name (parameters params)

module _ (operands : Operands) (there : Names) where
  bound_standing : (name other : List ℕ) (e : Option Expression) (others : Names) → binding_of name (standing other e there others) ≡ cond (bytes_eq other name) (bound_by_operand there e) (binding_of name others)
  bound_standing name other None others = refl
  bound_standing name other (Some e) others = refl

  one_standing : (b : Bool) (p : Parameter) (more : Option Parameter) (rest : Binding (List Side)) → rest ≡ bound_by_operands operands there (option_map (λ p. p.path) more) →
      cond b (bound_by_operand there (operand_at p.path operands)) rest ≡ bound_by_operands operands there (option_map (λ p. p.path) (cond b (Some p) more))
  one_standing true p more rest e = refl
  one_standing false p more rest e = e

  all_standing : (name : List ℕ) (ps : List Parameter) → binding_of name (expressions_bound ps operands there) ≡ bound_by_operands operands there (path_in_all name ps)
  all_standing name [] = refl
  all_standing name (p ∷ ps) =
      bound_standing name p.name (operand_at p.path operands) (expressions_bound ps operands there)
      ∙ one_standing (bytes_eq p.name name) p (find (λ p. bytes_eq p.name name) ps) (binding_of name (expressions_bound ps operands there)) (all_standing name ps)

  pub bound_inline : (name : List ℕ) (params : Form) → binding_of name (inline_environment params operands there) ≡ bound_by_operands operands there (path_of name params)
  bound_inline name params = all_standing name (parameters params)

-- ---- the codes of parts

operated : (side : Side) (code : Code) → operation_of (step_code side) (code ∷ []) ≡ step_of side code
operated ToFirst code = refl
operated ToRest code = refl

pub code_part : (it : Coding) (path : List Side) (e : Expression) (names : Names) → it.code (part_of path e) names ≡ part_code path (it.code e names)
code_part it [] e names = refl
code_part it (side ∷ path) e names =
    code_part it path (Operation (step_code side) (Operand e NoMore)) names ∙ ap (part_code path) (code_operation it names (step_code side) (Operand e NoMore) ∙ operated side (it.code e names))

-- Of a part the last step is outside.
pub part_code-push : (path : List Side) (side : Side) (code : Code) → part_code (path ++ side ∷ []) code ≡ step_of side (part_code path code)
part_code-push [] side code = refl
part_code-push (s ∷ path) side code = part_code-push path side (step_of s code)
