-- How the cases of meaning by computation are written: forms by their text, trees by theirs.
use Rattle.std.specs.Prelude.{◌≡◌, ℕ, List, [], codes}
use Prim.Native.String.{String}
use Rattle.clvm_spec.proofs.Cases.{tree}
use Rattle.lisp_spec.specs.Modules.{Definition, Constant, Module}
use Rattle.lisp_spec.specs.Meaning.{Meaning, Value, module_meaning}
use Rattle.lisp_spec.proofs.MacroCases.{placed}

abbrev pub definition : String → String → String → Definition
definition name params body = record { name = codes name; params = placed params; body = placed body }

abbrev pub constant : String → String → Constant
constant name value = record { name = codes name; value = tree value }

abbrev pub source : String → List Constant → List Definition → List Definition → String → Module
source params constants functions inlines body = record { params = placed params; constants = constants; functions = functions; inlines = inlines; body = placed body }

-- a module without definitions
abbrev pub plain : String → String → Module
plain params body = source params [] [] [] body

abbrev pub means : Module → String → ℕ → Meaning → Type 0
means module_ argument n meaning = module_meaning module_ (tree argument) n ≡ meaning

abbrev pub gives : Module → String → ℕ → String → Type 0
gives module_ argument n value = module_meaning module_ (tree argument) n ≡ Value (tree value)
