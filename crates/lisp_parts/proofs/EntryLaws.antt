-- The names that definitions have and that texts are asked by are of ASCII characters, as symbols are.
use Rattle.std.proofs.Common.{◌≡◌, ℕ, zero, suc, Bool, true, false, ◌&&◌, cond, List, [], ◌∷◌, Option, Some, None, refl, sym, subst, arith}
use Rattle.std.specs.Prelude.{codes}
use Rattle.std.specs.List.{list_all}
use Rattle.std.specs.Str.{IsUtf8, IsAscii}
use Rattle.std.proofs.lemmas.Str.{IsUtf8-from_ascii}
use Rattle.std.proofs.lemmas.Bool.Decides.{nat_tests}
use Rattle.lisp_spec.specs.Forms.{Form, Atom, Symbol, Pair, Place, place_of_form}
use Rattle.lisp_read.specs.FormLists.{form_elements, is_symbol}
use Rattle.lisp_spec.specs.Parameters.{is_parameter_tree}
use Rattle.lisp_spec.specs.Definitions.{Role, Function, Inline, Macro, Entry, Defines, Includes, Shapeless, is_ascii, with_params, constant, include, entry_with, entry_in, entry_of}
use Rattle.lisp_parts.specs.Symbols.{IsAsciiName, HasAsciiSymbols, HaveAsciiSymbols}
use Rattle.lisp_parts.proofs.SymbolLaws.{elements_are_ascii}

-- ---- texts

first_of : {P : Type 0} (a b : Bool) → (a && b) ≡ true → (a ≡ true → P) → P
first_of true b e f = f refl
first_of false b e f = absurd cc

second_of : (a b : Bool) → (a && b) ≡ true → b ≡ true
second_of true b e = e
second_of false b e = cc

all_are_ascii : (name : List ℕ) → IsAsciiName name → IsAscii name
all_are_ascii [] e i = omega arith
all_are_ascii (b ∷ name) e zero = first_of (is_ascii b) (list_all is_ascii name) e (λ t. grind (arith, nat_tests, t))
all_are_ascii (b ∷ name) e (suc i) = all_are_ascii name (second_of (is_ascii b) (list_all is_ascii name) e) i

pub is_text : (name : List ℕ) → IsAsciiName name → IsUtf8 name
is_text name e = IsUtf8-from_ascii name (all_are_ascii name e)

-- ---- entries

abbrev pub IsAsciiEntry : Entry → Type 0
IsAsciiEntry (Defines d) = IsAsciiName d.name
IsAsciiEntry (Includes name) = IsAsciiName name
IsAsciiEntry Shapeless = Unit {0}

either : (b : Bool) (x y : Entry) → (b ≡ true → IsAsciiEntry x) → IsAsciiEntry y → IsAsciiEntry (cond b x y)
either true x y p q = p refl
either false x y p q = q

ascii_with_params : (role : Role) (place : Place) (parts : List Form) → HaveAsciiSymbols parts → IsAsciiEntry (with_params role place parts)
ascii_with_params role place [] a = tt
ascii_with_params role place (Atom at bytes ∷ parts) a = tt
ascii_with_params role place (Pair at first rest ∷ parts) a = tt
ascii_with_params role place (Symbol at name ∷ []) a = tt
ascii_with_params role place (Symbol at name ∷ params ∷ []) a = tt
ascii_with_params role place (Symbol at name ∷ params ∷ body ∷ []) a = either (is_parameter_tree params) _ _ (λ e. a.0) tt
ascii_with_params role place (Symbol at name ∷ params ∷ body ∷ more ∷ parts) a = tt

ascii_constant : (place : Place) (parts : List Form) → HaveAsciiSymbols parts → IsAsciiEntry (constant place parts)
ascii_constant place [] a = tt
ascii_constant place (Atom at bytes ∷ parts) a = tt
ascii_constant place (Pair at first rest ∷ parts) a = tt
ascii_constant place (Symbol at name ∷ []) a = tt
ascii_constant place (Symbol at name ∷ body ∷ []) a = a.0
ascii_constant place (Symbol at name ∷ body ∷ more ∷ parts) a = tt

ascii_include : (parts : List Form) → HaveAsciiSymbols parts → IsAsciiEntry (include parts)
ascii_include [] a = tt
ascii_include (Atom at bytes ∷ []) a = either (list_all is_ascii bytes) _ _ (λ e. e) tt
ascii_include (Atom at bytes ∷ more ∷ parts) a = tt
ascii_include (Symbol at name ∷ []) a = a.0
ascii_include (Symbol at name ∷ more ∷ parts) a = tt
ascii_include (Pair at first rest ∷ []) a = tt
ascii_include (Pair at first rest ∷ more ∷ parts) a = tt

abbrev from_include : Form → List Form → Entry
from_include head parts = cond (is_symbol (codes "include") head) (include parts) Shapeless

abbrev from_constant : Place → Form → List Form → Entry
from_constant place head parts = cond (is_symbol (codes "defconstant") head) (constant place parts) (from_include head parts)

abbrev from_macro : Place → Form → List Form → Entry
from_macro place head parts = cond (is_symbol (codes "defmacro") head) (with_params Macro place parts) (from_constant place head parts)

abbrev from_inline : Place → Form → List Form → Entry
from_inline place head parts = cond (is_symbol (codes "defun-inline") head) (with_params Inline place parts) (from_macro place head parts)

ascii_entry_with : (place : Place) (head : Form) (parts : List Form) → HaveAsciiSymbols parts → IsAsciiEntry (entry_with place head parts)
ascii_entry_with place head parts a =
    either (is_symbol (codes "defun") head) (with_params Function place parts) (from_inline place head parts) (λ e. ascii_with_params Function place parts a)
    (either (is_symbol (codes "defun-inline") head) (with_params Inline place parts) (from_macro place head parts) (λ e. ascii_with_params Inline place parts a)
    (either (is_symbol (codes "defmacro") head) (with_params Macro place parts) (from_constant place head parts) (λ e. ascii_with_params Macro place parts a)
    (either (is_symbol (codes "defconstant") head) (constant place parts) (from_include head parts) (λ e. ascii_constant place parts a)
    (either (is_symbol (codes "include") head) (include parts) Shapeless (λ e. ascii_include parts a) tt))))

ascii_entry_in : (place : Place) (form : Form) (elements : Option (List Form)) → HasAsciiSymbols form → form_elements form ≡ elements → IsAsciiEntry (entry_in place elements)
ascii_entry_in place form None a e = tt
ascii_entry_in place form (Some []) a e = tt
ascii_entry_in place form (Some (head ∷ parts)) a e = let all = elements_are_ascii form (head ∷ parts) a e in ascii_entry_with place head parts all.1

pub entry_is_ascii : (form : Form) (entry : Entry) → HasAsciiSymbols form → entry ≡ entry_of form → IsAsciiEntry entry
entry_is_ascii form entry a e = subst IsAsciiEntry (sym e) (ascii_entry_in (place_of_form form) form (form_elements form) a refl)
