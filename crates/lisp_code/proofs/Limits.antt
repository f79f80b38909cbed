-- What an expression's code is from some depth on is made of what the codes that it goes on with are.
use Rattle.std.proofs.Common.{◌≡◌, ℕ, suc, List, [], ◌∷◌, Option, Some, None, Ok, Err}
use Rattle.lisp_spec.specs.Modules.{Definition, definition_named, constant_named}
use Rattle.lisp_spec.specs.ModuleFaults.{Judged}
use Rattle.lisp_spec.specs.Parameters.{Side}
use Rattle.lisp_spec.specs.Expressions.{Expression, Literal, Name, Choice, Listing, Operation, FunctionCall, InlineCall, Filled, Operands, NoMore, Operand, Template, Plain, Both, Unquoted}
use Rattle.lisp_spec.specs.Scopes.{body_of}
use Rattle.lisp_spec.specs.Environments.{Binding, ToFound, ToNoStep, ToExpression, ToNothing, binding_of, inline_environment}
use Rattle.lisp_code.specs.Names.{Names}
use Rattle.lisp_code.specs.Codes.{Code, Constant, Path, fails, pair_of, list_of, operation_of, choice_of, call_of}
use Rattle.lisp_code.specs.Code.{Codes, constant_code, name_code, body_code, inline_code, expression_code, operand_codes, template_code}
use Rattle.lisp_code.proofs.Eventually.{Eventually, eventually_same, eventually_map, eventually_two, eventually_suc, eventually_alike, eventually_one}
use Rattle.lisp_code.proofs.Making.{each_marked, Making, further_of}

pub body_limit : (codes : ℕ → Codes) (code : Codes) → ((e : Expression) (names : Names) → Eventually (λ b. codes b e names) (code e names)) → (read : Judged Expression) (names : Names) →
    Eventually (λ b. body_code (codes b) read names) (body_code code read names)
body_limit codes code limits (Ok e) names = limits e names
body_limit codes code limits (Err first) names = eventually_same fails

module _ (it : Making) (code : Codes) (limits : (e : Expression) (names : Names) → Eventually (λ b. it.made b e names) (code e names)) where
  abbrev onward : Codes
  onward = each_marked it.mark code

  onward_limit : (e : Expression) (names : Names) → Eventually (λ b. further_of it b e names) (onward e names)
  onward_limit e names = eventually_map it.mark (λ b. it.made b e names) (code e names) (limits e names)

  abbrev ExpressionLimit : Expression → Names → Type 0
  ExpressionLimit e names = Eventually (λ b. expression_code it.source (further_of it b) e names) (expression_code it.source onward e names)

  abbrev OperandsLimit : Operands → Names → Type 0
  OperandsLimit operands names = Eventually (λ b. operand_codes it.source (further_of it b) operands names) (operand_codes it.source onward operands names)

  abbrev TemplateLimit : Template → Names → Type 0
  TemplateLimit t names = Eventually (λ b. template_code it.source (further_of it b) t names) (template_code it.source onward t names)

  name_limit : (name : List ℕ) (d : Binding (List Side)) → Eventually (λ b. name_code it.source (further_of it b) name d) (name_code it.source onward name d)
  name_limit name (ToFound path) = eventually_same (Path path)
  name_limit name ToNoStep = eventually_same fails
  name_limit name (ToExpression e there) = onward_limit e there
  name_limit name ToNothing = eventually_same (constant_code (constant_named name it.source.constants))

  inline_limit : (operands : Operands) (names : Names) (f : Option Definition) → Eventually (λ b. inline_code it.source (further_of it b) operands names f) (inline_code it.source onward operands names f)
  inline_limit operands names None = eventually_same fails
  inline_limit operands names (Some f) = body_limit (further_of it) onward onward_limit (body_of it.source f.params f.body) (inline_environment f.params operands names)

  choice_limit : (t x y : Expression) (names : Names) → ExpressionLimit t names → ExpressionLimit x names → ExpressionLimit y names → ExpressionLimit (Choice t x y) names
  choice_limit t x y names p q r =
      let at_depth = λ (e : Expression) (b : ℕ). expression_code it.source (further_of it b) e names in
      let at_last = λ (e : Expression). expression_code it.source onward e names in
      eventually_two {A = Code → Code} (λ make code. make code) (λ b code. choice_of (at_depth t b) (at_depth x b) code) (at_depth y) (λ code. choice_of (at_last t) (at_last x) code) (at_last y)
      (eventually_two {C = Code → Code} choice_of (at_depth t) (at_depth x) (at_last t) (at_last x) p q) r

  mutual
    expression_limit : (e : Expression) (names : Names) → ExpressionLimit e names
    expression_limit (Literal tree) names = eventually_same (Constant tree)
    expression_limit (Name name) names = name_limit name (binding_of name names)
    expression_limit (Choice condition second third) names = choice_limit condition second third names (expression_limit condition names) (expression_limit second names) (expression_limit third names)
    expression_limit (Listing operands) names = eventually_map list_of _ _ (operands_limit operands names)
    expression_limit (Operation code operands) names = eventually_map (operation_of code) _ _ (operands_limit operands names)
    expression_limit (FunctionCall name operands) names = eventually_map (call_of name) _ _ (operands_limit operands names)
    expression_limit (InlineCall name operands) names = inline_limit operands names (definition_named name it.source.inlines)
    expression_limit (Filled template) names = template_limit template names

    operands_limit : (operands : Operands) (names : Names) → OperandsLimit operands names
    operands_limit NoMore names = eventually_same []
    operands_limit (Operand first more) names =
        eventually_two (λ code codes. code ∷ codes) (λ b. expression_code it.source (further_of it b) first names) (λ b. operand_codes it.source (further_of it b) more names) (expression_code it.source onward first names) (operand_codes it.source onward more names)
        (expression_limit first names) (operands_limit more names)

    template_limit : (t : Template) (names : Names) → TemplateLimit t names
    template_limit (Plain tree) names = eventually_same (Constant tree)
    template_limit (Both first rest) names =
        eventually_two pair_of (λ b. template_code it.source (further_of it b) first names) (λ b. template_code it.source (further_of it b) rest names) (template_code it.source onward first names) (template_code it.source onward rest names)
        (template_limit first names) (template_limit rest names)
    template_limit (Unquoted e) names = expression_limit e names

  pub limit_is_its_step : (e : Expression) (names : Names) → code e names ≡ expression_code it.source onward e names
  limit_is_its_step e names =
      eventually_one (λ b. it.made (suc b) e names) (code e names) (expression_code it.source onward e names)
      (eventually_suc (λ b. it.made b e names) (code e names) (limits e names))
      (eventually_alike (λ b. it.made (suc b) e names) (λ b. expression_code it.source (further_of it b) e names) (expression_code it.source onward e names) (λ b. it.step b e names) (expression_limit e names))
