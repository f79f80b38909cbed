-- In a module without fault no name that is met is without meaning.
use Rattle.std.proofs.Common.{◌≡◌, ℕ, true, List, ◌++◌, map, append_assoc, refl, sym, subst}
use Rattle.std.proofs.lemmas.List.{map-append}
use Rattle.lisp_spec.specs.Modules.{Module, Definition, Constant, constant_names}
use Rattle.lisp_spec.specs.Parameters.{parameter_names}
use Rattle.lisp_spec.specs.Forms.{Form}
use Rattle.lisp_spec.specs.ModuleFaults.{is_among}
use Rattle.lisp_spec.specs.Scopes.{module_scope}
use Rattle.lisp_spec.specs.Meaning.{meaning}
use Rattle.lisp_spec.specs.ModuleLaws.{with_more, NoNameIsWithoutMeaning}
use Rattle.lisp_spec.proofs.Reading.{is_read}
use Rattle.lisp_spec.proofs.Widening.{IsWider, is_wide}
use Rattle.lisp_spec.proofs.NamesFound.{found_first, among_both}
use Rattle.lisp_spec.proofs.Extending.{Extends, bodies_alike}
use Rattle.lisp_spec.proofs.ModuleProofs.{names_are_bound}

module _ (m : Module) (constants : List Constant) (functions : List Definition) where
  abbrev more : Module
  more = with_more m constants functions

  among_more : {A : Type 0} (label : A → List ℕ) (xs ys : List A) (name : List ℕ) → is_among name (map label xs) ≡ true → is_among name (map label (xs ++ ys)) ≡ true
  among_more label xs ys name e = subst (λ names. is_among name names ≡ true) (sym (map-append label xs ys)) (among_both name (map label xs) (map label ys) e)

  is_wider : (params : Form) → IsWider (module_scope m params) (module_scope more params)
  is_wider params = record {
    symbols = λ name among.
        subst (λ names. is_among name (parameter_names params ++ names) ≡ true) (sym (map-append (λ c. c.name) m.constants constants))
        (subst (λ names. is_among name names ≡ true) (append_assoc (parameter_names params) (constant_names m.constants) (constant_names constants))
        (among_both name (parameter_names params ++ constant_names m.constants) (constant_names constants) among));
    functions = λ name among. among_more (λ d. d.name) m.functions functions name among;
    inlines = refl;
    may_run = refl;
  }

  extended : Extends m more
  extended = record {
    constants = λ name among. found_first (λ c. c.name) name m.constants constants among;
    functions = λ name among. found_first (λ d. d.name) name m.functions functions among;
    inlines = refl;
    bodies = λ params body e h. is_wide (module_scope m params) (module_scope more params) (is_wider params) body e (is_read (module_scope m params) body e h);
  }

pub no_name_is_without_meaning : NoNameIsWithoutMeaning
unfolding meaning
no_name_is_without_meaning texts text m stands constants functions argument n =
    let bound = names_are_bound texts text m stands in
    bodies_alike m (with_more m constants functions) (extended m constants functions) bound.0 bound.1 n m.params m.body bound.2 argument
