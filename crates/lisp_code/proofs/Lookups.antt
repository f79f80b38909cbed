-- How names and functions are found on both sides.
use Rattle.std.proofs.Common.{◌≡◌, ℕ, Bool, true, false, cond, List, [], ◌∷◌, Option, Some, None, bytes_eq, refl}
use Rattle.clvm_spec.specs.Tree.{Tree}
use Rattle.lisp_spec.specs.Forms.{Form}
use Rattle.lisp_spec.specs.Parameters.{Side, Parameter, parameters, tree_at}
use Rattle.lisp_spec.specs.Expressions.{Expression, Operands, Scope}
use Rattle.lisp_spec.specs.Environments.{Environment, Bound, Binding, binding_of, bound_to, all_bound, function_environment, operand_at, standing, expressions_bound, inline_environment}
use Rattle.lisp_spec.proofs.Soundness.{AreSound, IsSoundOption, sound_at}
use Rattle.lisp_code.specs.Names.{Names, function_names}
use Rattle.lisp_code.proofs.Corresponding.{Corresponds, empty, at_tree, at_none, missing, stands, SameName, to_tree, to_no_step, no_path, expression, nothing}

module _ (argument : Tree) where
  bound_corresponds : (name : List ℕ) (path : List Side) (found : Option Tree) → tree_at path argument ≡ found → (env : Environment Tree) (names : Names) → Corresponds argument env names → Corresponds argument (bound_to name found env) (Bound name path names)
  bound_corresponds name path None e env names c = at_none name path env names e c
  bound_corresponds name path (Some tree) e env names c = at_tree name path tree env names e c

  trees_correspond : (ps : List Parameter) → Corresponds argument (all_bound (λ path. tree_at path argument) ps) (all_bound Some ps)
  trees_correspond [] = empty
  trees_correspond (p ∷ more) = bound_corresponds p.name p.path (tree_at p.path argument) refl _ _ (trees_correspond more)

  pub function_corresponds : (params : Form) → Corresponds argument (function_environment params argument) (function_names params)
  function_corresponds params = trees_correspond (parameters params)

  module _ (scope : Scope) (operands : Operands) (sound : AreSound scope operands) (caller : Environment Tree) (names : Names) (c : Corresponds argument caller names) where
    standing_corresponds : (name : List ℕ) (e : Option Expression) → IsSoundOption scope e → (env : Environment Tree) (others : Names) → Corresponds argument env others → Corresponds argument (standing name e caller env) (standing name e names others)
    standing_corresponds name None s env others d = missing name env others d
    standing_corresponds name (Some e) s env others d = stands name e scope caller env names others s c d

    expressions_correspond : (ps : List Parameter) → Corresponds argument (expressions_bound ps operands caller) (expressions_bound ps operands names)
    expressions_correspond [] = empty
    expressions_correspond (p ∷ more) = standing_corresponds p.name (operand_at p.path operands) (sound_at scope p.path operands sound) _ _ (expressions_correspond more)

  pub inline_corresponds : (scope : Scope) (params : Form) (operands : Operands) → AreSound scope operands → (caller : Environment Tree) (names : Names) → Corresponds argument caller names →
      Corresponds argument (inline_environment params operands caller) (inline_environment params operands names)
  inline_corresponds scope params operands sound caller names c = expressions_correspond scope operands sound caller names c (parameters params)

  one_of : (b : Bool) (x y : Binding Tree) (x' y' : Binding (List Side)) → SameName argument x x' → SameName argument y y' → SameName argument (cond b x y) (cond b x' y')
  one_of true x y x' y' p q = p
  one_of false x y x' y' p q = q

  pub same_name : (name : List ℕ) (env : Environment Tree) (names : Names) → Corresponds argument env names → SameName argument (binding_of name env) (binding_of name names)
  same_name name env names empty = nothing
  same_name name env names (at_tree other path tree env' names' e c) = one_of (bytes_eq other name) _ _ _ _ (to_tree path tree e) (same_name name env' names' c)
  same_name name env names (at_none other path env' names' e c) = one_of (bytes_eq other name) _ _ _ _ (to_no_step path e) (same_name name env' names' c)
  same_name name env names (missing other env' names' c) = one_of (bytes_eq other name) _ _ _ _ no_path (same_name name env' names' c)
  same_name name env names (stands other e scope there env' there' names' s d c) = one_of (bytes_eq other name) _ _ _ _ (expression e scope there there' s d) (same_name name env' names' c)
