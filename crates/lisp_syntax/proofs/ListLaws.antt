-- Lists of one and of three elements, as the definitions of expressions match on them.
use Rattle.std.proofs.Common.{◌≡◌, ℕ, List, [], ◌∷◌, Option, Some, None, Ok, Err, refl, sym, ap, ◌∙◌, subst}
use Rattle.std.specs.Prelude.{option_map, option_and_then}
use Rattle.lisp_spec.specs.Forms.{Form, Atom, Symbol, Pair, Place}
use Rattle.lisp_read.specs.FormLists.{form_elements, the_only, single, IsNotOne, IsNotThree}
use Rattle.lisp_spec.specs.ModuleFaults.{Judged, ◌>>=◌}
use Rattle.lisp_spec.specs.Expressions.{Expression, Choice, Filled, Scope, no_form, expression_of, choice_of, only_template, only_expression, template_of}

-- ---- one

pub single_is : (list only : Form) → form_elements list ≡ Some (only ∷ []) → single list ≡ Some only
single_is list only e = ap (option_and_then the_only) e

pub not_single : (list : Form) → IsNotOne list → single list ≡ None
not_single list n = by (form_elements list) refl
  where
    by : (elements : Option (List Form)) → form_elements list ≡ elements → option_and_then the_only elements ≡ None
    by None e = refl
    by (Some []) e = refl
    by (Some (f ∷ [])) e = absurd (n f e)
    by (Some (f ∷ g ∷ more)) e = refl

two_not_one : (first second only : Form) (more : Option (List Form)) → option_map (λ m. first ∷ m) (option_map (λ m. second ∷ m) more) ≡ Some (only ∷ []) → ⊥
two_not_one first second only None e = absurd cc
two_not_one first second only (Some m) e = absurd cc

module _ (scope : Scope) (pair : Place) where
  abbrev filled_with : Form → Judged Expression
  filled_with template = template_of template scope >>= λ t. Ok (Filled t)

  pub template_only : (list only : Form) → form_elements list ≡ Some (only ∷ []) → only_template list pair scope ≡ (template_of only scope >>= λ t. Ok (Filled t))
  template_only (Atom at []) only e = absurd cc
  template_only (Atom at (b ∷ bytes)) only e = absurd cc
  template_only (Symbol at name) only e = absurd cc
  template_only (Pair at first (Atom end [])) only e = let same : first ≡ only = cc in ap filled_with same
  template_only (Pair at first (Atom end (b ∷ bytes))) only e = absurd cc
  template_only (Pair at first (Symbol end name)) only e = absurd cc
  template_only (Pair at first (Pair next second rest)) only e = absurd (two_not_one first second only (form_elements rest) e)

  pub template_not : (list : Form) → IsNotOne list → only_template list pair scope ≡ no_form pair
  template_not (Atom at bytes) n = refl
  template_not (Symbol at name) n = refl
  template_not (Pair at first (Atom end [])) n = absurd (n first refl)
  template_not (Pair at first (Atom end (b ∷ bytes))) n = refl
  template_not (Pair at first (Symbol end name)) n = refl
  template_not (Pair at first (Pair next second rest)) n = refl

  pub expression_only : (list only : Form) → form_elements list ≡ Some (only ∷ []) → only_expression list pair scope ≡ expression_of only scope
  expression_only (Atom at []) only e = absurd cc
  expression_only (Atom at (b ∷ bytes)) only e = absurd cc
  expression_only (Symbol at name) only e = absurd cc
  expression_only (Pair at first (Atom end [])) only e = let same : first ≡ only = cc in ap (λ f. expression_of f scope) same
  expression_only (Pair at first (Atom end (b ∷ bytes))) only e = absurd cc
  expression_only (Pair at first (Symbol end name)) only e = absurd cc
  expression_only (Pair at first (Pair next second rest)) only e = absurd (two_not_one first second only (form_elements rest) e)

  pub expression_not : (list : Form) → IsNotOne list → only_expression list pair scope ≡ no_form pair
  expression_not (Atom at bytes) n = refl
  expression_not (Symbol at name) n = refl
  expression_not (Pair at first (Atom end [])) n = absurd (n first refl)
  expression_not (Pair at first (Atom end (b ∷ bytes))) n = refl
  expression_not (Pair at first (Symbol end name)) n = refl
  expression_not (Pair at first (Pair next second rest)) n = refl

-- ---- three

four_not_three : (x y z w a b c : Form) (more : Option (List Form)) →
    option_map (λ m. x ∷ m) (option_map (λ m. y ∷ m) (option_map (λ m. z ∷ m) (option_map (λ m. w ∷ m) more))) ≡ Some (a ∷ b ∷ c ∷ []) → ⊥
four_not_three x y z w a b c None e = absurd cc
four_not_three x y z w a b c (Some m) e = absurd cc

module _ (scope : Scope) (pair : Place) where
  abbrev chosen : Form → Form → Form → Judged Expression
  chosen a b c = expression_of a scope >>= λ x. expression_of b scope >>= λ y. expression_of c scope >>= λ z. Ok (Choice x y z)

  pub choice_three : (list a b c : Form) → form_elements list ≡ Some (a ∷ b ∷ c ∷ []) →
      choice_of list pair scope ≡ (expression_of a scope >>= λ x. expression_of b scope >>= λ y. expression_of c scope >>= λ z. Ok (Choice x y z))
  choice_three (Atom at []) a b c e = absurd cc
  choice_three (Atom at (h ∷ bytes)) a b c e = absurd cc
  choice_three (Symbol at name) a b c e = absurd cc
  choice_three (Pair at x (Atom end [])) a b c e = absurd cc
  choice_three (Pair at x (Atom end (h ∷ bytes))) a b c e = absurd cc
  choice_three (Pair at x (Symbol end name)) a b c e = absurd cc
  choice_three (Pair at x (Pair next y (Atom end []))) a b c e = absurd cc
  choice_three (Pair at x (Pair next y (Atom end (h ∷ bytes)))) a b c e = absurd cc
  choice_three (Pair at x (Pair next y (Symbol end name))) a b c e = absurd cc
  choice_three (Pair at x (Pair next y (Pair last z (Atom end [])))) a b c e =
      let first : x ≡ a = cc in let second : y ≡ b = cc in let third : z ≡ c = cc in ap (λ f. chosen f y z) first ∙ ap (λ f. chosen a f z) second ∙ ap (chosen a b) third
  choice_three (Pair at x (Pair next y (Pair last z (Atom end (h ∷ bytes))))) a b c e = absurd cc
  choice_three (Pair at x (Pair next y (Pair last z (Symbol end name)))) a b c e = absurd cc
  choice_three (Pair at x (Pair next y (Pair last z (Pair end w rest)))) a b c e = absurd (four_not_three x y z w a b c (form_elements rest) e)

  pub choice_not : (list : Form) → IsNotThree list → choice_of list pair scope ≡ no_form pair
  choice_not (Atom at bytes) n = refl
  choice_not (Symbol at name) n = refl
  choice_not (Pair at x (Atom end bytes)) n = refl
  choice_not (Pair at x (Symbol end name)) n = refl
  choice_not (Pair at x (Pair next y (Atom end bytes))) n = refl
  choice_not (Pair at x (Pair next y (Symbol end name))) n = refl
  choice_not (Pair at x (Pair next y (Pair last z (Atom end [])))) n = absurd (n x y z refl)
  choice_not (Pair at x (Pair next y (Pair last z (Atom end (h ∷ bytes))))) n = refl
  choice_not (Pair at x (Pair next y (Pair last z (Symbol end name)))) n = refl
  choice_not (Pair at x (Pair next y (Pair last z (Pair end w rest)))) n = refl
