-- A macro with a new name goes last, and is found by its name.
use Rattle.std.proofs.Common.{◌≡◌, ℕ, Bool, true, false, List, [], ◌∷◌, ◌++◌, Option, Some, None, option_map, bytes_eq, MatchOption, Bor, refl, ap, sym, ◌∙◌}
use Rattle.std.specs.Cmp.Lexicographic.{nat_list_eq_equiv}
use Rattle.std.specs.Map.{lookup}
use Rattle.std.specs.Option.{option_copied}
use Rattle.std.proofs.lemmas.Bool.{cond-true, cond-false}
use Rattle.indexmap.specs.IndexMap.{insert_entry}
use Rattle.lisp_spec.specs.Macros.{Macro, macro_named}
use Rattle.lisp_spec.proofs.CycleProofs.{is_same}
use Rattle.lisp_macro.specs.declared.macros.Definition.{Definition}
use Rattle.lisp_macro.specs.Defined.{macro_with, macros_of}

turned : (a b : List ℕ) → bytes_eq a b ≡ bytes_eq b a
turned a b = nat_list_eq_equiv.symm a b

some_not_none : {A B : Type 0} (a : A) → Some a ≡ None → B
some_not_none a e = absurd cc

module _ (e : List ℕ × Definition) (entries : List (List ℕ × Definition)) (name : List ℕ) where
  more_last : (definition : Definition) (b : Bool) → bytes_eq e.0 name ≡ b → (macro_named name (macros_of entries) ≡ None → macros_of (insert_entry bytes_eq entries name definition) ≡ macros_of entries ++ macro_with name definition ∷ []) →
      macro_named name (macros_of (e ∷ entries)) ≡ None → macros_of (insert_entry bytes_eq (e ∷ entries) name definition) ≡ macros_of (e ∷ entries) ++ macro_with name definition ∷ []
  more_last definition true q last none = some_not_none (macro_with e.0 e.1) (sym (cond-true (bytes_eq e.0 name) _ _ q) ∙ none)
  more_last definition false q last none =
      ap macros_of (cond-false (bytes_eq name e.0) _ _ (turned name e.0 ∙ q))
      ∙ ap (λ more. macro_with e.0 e.1 ∷ more) (last (sym (cond-false (bytes_eq e.0 name) _ _ q) ∙ none))

  more_found : (b : Bool) → bytes_eq e.0 name ≡ b → macro_named name (macros_of entries) ≡ option_map (macro_with name) (lookup (bytes_eq name) entries) →
      macro_named name (macros_of (e ∷ entries)) ≡ option_map (macro_with name) (lookup (bytes_eq name) (e ∷ entries))
  more_found true q more =
      cond-true (bytes_eq e.0 name) _ _ q ∙ ap (λ n. Some (macro_with n e.1)) (is_same e.0 name q)
      ∙ sym (ap (option_map (macro_with name)) (cond-true (bytes_eq name e.0) _ _ (turned name e.0 ∙ q)))
  more_found false q more =
      cond-false (bytes_eq e.0 name) _ _ q ∙ more
      ∙ sym (ap (option_map (macro_with name)) (cond-false (bytes_eq name e.0) _ _ (turned name e.0 ∙ q)))

pub added_last : (entries : List (List ℕ × Definition)) (name : List ℕ) (definition : Definition) → macro_named name (macros_of entries) ≡ None →
    macros_of (insert_entry bytes_eq entries name definition) ≡ macros_of entries ++ macro_with name definition ∷ []
added_last [] name definition none = refl
added_last (e ∷ entries) name definition none = more_last e entries name definition (bytes_eq e.0 name) refl (added_last entries name definition) none

found_is : (entries : List (List ℕ × Definition)) (name : List ℕ) → macro_named name (macros_of entries) ≡ option_map (macro_with name) (lookup (bytes_eq name) entries)
found_is [] name = refl
found_is (e ∷ entries) name = more_found e entries name (bytes_eq e.0 name) refl (found_is entries name)

pub found : (entries : List (List ℕ × Definition)) (name : List ℕ) (macros : List Macro) (result : Option (Bor Definition)) → macros_of entries ≡ macros → option_copied result ≡ lookup (bytes_eq name) entries →
    MatchOption result (macro_named name macros ≡ None) (λ (definition : Bor Definition). macro_named name macros ≡ Some (macro_with name definition.now))
found entries name macros None is e = ap (macro_named name) (sym is) ∙ found_is entries name ∙ ap (option_map (macro_with name)) (sym e)
found entries name macros (Some definition) is e = ap (macro_named name) (sym is) ∙ found_is entries name ∙ ap (option_map (macro_with name)) (sym e)
