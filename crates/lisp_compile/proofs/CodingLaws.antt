-- The codes of expressions, by what they are.
use Rattle.std.proofs.Common.{◌≡◌, ℕ, List, ◌∷◌, Some, Ok, refl, sym, ap, ap₂, ◌∙◌}
use Rattle.clvm_spec.specs.Tree.{Tree}
use Rattle.lisp_spec.specs.Modules.{Definition, definition_named}
use Rattle.lisp_spec.specs.Parameters.{Side}
use Rattle.lisp_spec.specs.Expressions.{Expression, Literal, Name, Choice, Listing, Operation, FunctionCall, InlineCall, Filled, Operands, NoMore, Operand, Template, Both, Unquoted}
use Rattle.lisp_spec.specs.Scopes.{body_of}
use Rattle.lisp_spec.specs.Environments.{Binding, binding_of, inline_environment}
use Rattle.lisp_code.specs.Names.{Names}
use Rattle.lisp_code.specs.Codes.{Code, Constant, pair_of, list_of, operation_of, choice_of, call_of}
use Rattle.lisp_code.specs.Code.{name_code, body_code, inline_code, operand_codes}
use Rattle.lisp_compile.specs.Coding.{Coding, further, codes_of, template_of}

three : (a b c a' b' c' : Code) → a ≡ a' → b ≡ b' → c ≡ c' → choice_of a b c ≡ choice_of a' b' c'
three a b c a' b' c' p q r = ap (λ x. choice_of x b c) p ∙ ap (λ x. choice_of a' x c) q ∙ ap (λ x. choice_of a' b' x) r

module _ (it : Coding) (names : Names) where
  codes_are : (operands : Operands) → operand_codes it.source (further it) operands names ≡ codes_of it operands names
  codes_are NoMore = refl
  codes_are (Operand first more) = ap₂ (λ code codes. code ∷ codes) (sym (it.step first names)) (codes_are more)

  pub code_literal : (tree : Tree) → it.code (Literal tree) names ≡ Constant tree
  code_literal tree = it.step (Literal tree) names

  pub code_name : (name : List ℕ) (found : Binding (List Side)) → binding_of name names ≡ found → it.code (Name name) names ≡ name_code it.source (further it) name found
  code_name name found e = it.step (Name name) names ∙ ap (name_code it.source (further it) name) e

  pub code_choice : (condition second third : Expression) → it.code (Choice condition second third) names ≡ choice_of (it.code condition names) (it.code second names) (it.code third names)
  code_choice condition second third =
      it.step (Choice condition second third) names ∙ three _ _ _ _ _ _ (sym (it.step condition names)) (sym (it.step second names)) (sym (it.step third names))

  pub code_listing : (operands : Operands) → it.code (Listing operands) names ≡ list_of (codes_of it operands names)
  code_listing operands = it.step (Listing operands) names ∙ ap list_of (codes_are operands)

  pub code_operation : (code : ℕ) (operands : Operands) → it.code (Operation code operands) names ≡ operation_of code (codes_of it operands names)
  code_operation code operands = it.step (Operation code operands) names ∙ ap (operation_of code) (codes_are operands)

  pub code_function : (name : List ℕ) (operands : Operands) → it.code (FunctionCall name operands) names ≡ call_of name (codes_of it operands names)
  code_function name operands = it.step (FunctionCall name operands) names ∙ ap (call_of name) (codes_are operands)

  -- A call of an inline goes on with the inline's body.
  pub code_inline : (name : List ℕ) (operands : Operands) (f : Definition) (e : Expression) → definition_named name it.source.inlines ≡ Some f → body_of it.source f.params f.body ≡ Ok e →
      it.code (InlineCall name operands) names ≡ further it e (inline_environment f.params operands names)
  code_inline name operands f e found read =
      it.step (InlineCall name operands) names ∙ ap (inline_code it.source (further it) operands names) found
      ∙ ap (λ read. body_code (further it) read (inline_environment f.params operands names)) read

  pub code_filled : (template : Template) → it.code (Filled template) names ≡ template_of it template names
  code_filled template = it.step (Filled template) names

  pub code_unquoted : (e : Expression) → template_of it (Unquoted e) names ≡ it.code e names
  code_unquoted e = sym (it.step e names)

  pub code_both : (first rest : Template) → template_of it (Both first rest) names ≡ pair_of (template_of it first names) (template_of it rest names)
  code_both first rest = refl
