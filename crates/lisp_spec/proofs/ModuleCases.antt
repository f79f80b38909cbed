-- How the cases of modules are written: a text, and texts that a library has.
use Rattle.std.specs.Prelude.{◌≡◌, ℕ, List, Some, None, Ok, Err, is_ok, true, bytes_eq, codes, map, if◌then◌else◌}
use Prim.Native.String.{String}
use Rattle.clvm_spec.specs.Tree.{Tree}
use Rattle.lisp_spec.specs.Modules.{Module, Constant, Definition}
use Rattle.lisp_spec.specs.ModuleFaults.{Kind, fault, Judged}
use Rattle.lisp_spec.specs.Inclusion.{Texts}
use Rattle.lisp_spec.specs.ExpressionWeights.{module_bound}
use Rattle.lisp_spec.specs.ModuleOf.{module_of}

abbrev pub no_texts : Texts
no_texts name = None

-- a library of one text
abbrev pub one_text : String → String → Texts
one_text name text asked = if bytes_eq asked (codes name) then Some (codes text) else None

-- and of one more
abbrev pub with_text : String → String → Texts → Texts
with_text name text texts asked = if bytes_eq asked (codes name) then Some (codes text) else texts asked

-- the first fault of a module, with the number of its text and its place
abbrev pub faulty_with : Texts → String → Kind → ℕ → ℕ → Type 0
faulty_with texts text kind number at = module_of (codes text) texts ≡ Err (fault kind (record { text = number; at = at }))

abbrev pub faulty : String → Kind → ℕ → Type 0
faulty text kind at = faulty_with no_texts text kind 0 at

abbrev pub given : {A : Type 0} → (Module → A) → Judged Module → Judged A
given part (Ok m) = Ok (part m)
given part (Err first) = Err first

-- what a module without fault has
abbrev pub has : {A : Type 0} → (Module → A) → Texts → String → A → Type 0
has part texts text it = given part (module_of (codes text) texts) ≡ Ok it

abbrev pub names : List Definition → List (List ℕ)
names definitions = map (λ d. d.name) definitions

abbrev pub constants : Texts → String → List Constant → Type 0
constants texts text values = has (λ m. m.constants) texts text values

abbrev pub functions : Texts → String → List (List ℕ) → Type 0
functions texts text list = has (λ m. names m.functions) texts text list

abbrev pub inlines : Texts → String → List (List ℕ) → Type 0
inlines texts text list = has (λ m. names m.inlines) texts text list

abbrev pub bound : String → ℕ → Type 0
bound text n = has module_bound no_texts text n

-- a module has no fault
abbrev pub sound_with : Texts → String → Type 0
sound_with texts text = is_ok (module_of (codes text) texts) ≡ true

abbrev pub sound : String → Type 0
sound text = sound_with no_texts text

abbrev pub constant : String → Tree → Constant
constant name value = record { name = codes name; value = value }
