-- That a constant's value is what its expression means: laws of the definitions, each proved once for the crates above.
use Rattle.std.specs.Prelude.{◌≡◌, ◌⊎◌, ℕ, List, [], ◌∷◌, Ok, Err}
use Rattle.clvm_spec.specs.Tree.{Tree}
use Rattle.lisp_spec.specs.Forms.{Form, Place}
use Rattle.lisp_spec.specs.Modules.{Module, Constant}
use Rattle.lisp_spec.specs.Definitions.{Written, constants_in}
use Rattle.lisp_spec.specs.Inclusion.{Texts, Parts, parts_of_text, definitions_of}
use Rattle.lisp_spec.specs.ModuleOf.{Draft, draft_of, module_of}
use Rattle.lisp_spec.specs.Environments.{Empty}
use Rattle.lisp_spec.specs.Meaning.{Value, Failed, Wide, meaning}
use Rattle.lisp_spec.specs.ModuleFaults.{ConstantFails, fault}
use Rattle.lisp_spec.specs.Expressions.{Expression}
use Rattle.lisp_spec.specs.Scopes.{constant_scope, IsExpression}
use Rattle.lisp_spec.specs.Constants.{expression_value}

-- The form is this expression, in a constant in which these names may stand.
abbrev pub MayBeConstant : List (List ℕ) → Form → Expression → Type 0
MayBeConstant names f e = IsExpression (constant_scope names) f e

-- A constant whose expression has a value means that value, in each module that has the earlier constants, however small
-- the count is.
abbrev pub ConstantsMeanTheirValues : Type 0
ConstantsMeanTheirValues = (m : Module) (names : List (List ℕ)) (place : Place) (f : Form) (e : Expression) (n : ℕ) (value : Tree) → MayBeConstant names f e →
    expression_value place m.constants e ≡ Ok value → meaning m e Empty n ≡ Value value

-- One that fails means no value.
abbrev pub FailingConstantsMeanNone : Type 0
FailingConstantsMeanNone = (m : Module) (names : List (List ℕ)) (place at : Place) (f : Form) (e : Expression) (n : ℕ) → MayBeConstant names f e →
    expression_value place m.constants e ≡ Err (fault ConstantFails at) → (meaning m e Empty n ≡ Failed) ⊎ (meaning m e Empty n ≡ Wide)

-- A form is an expression of earlier constants, which means this value in a module, whatever the count.
abbrev pub IsWhatItMeans : Module → Form → Tree → Type 0
IsWhatItMeans m f value = (names : List (List ℕ)) × (e : Expression) × MayBeConstant names f e × ((n : ℕ) → meaning m e Empty n ≡ Value value)

-- Each constant of a module is what the expression of its definition means in that module, whatever the count.
abbrev pub AreWhatTheyMean : Module → List Written → List Constant → Type 0
AreWhatTheyMean m [] [] = Unit {0}
AreWhatTheyMean m [] (c ∷ constants) = ⊥
AreWhatTheyMean m (d ∷ definitions) [] = ⊥
AreWhatTheyMean m (d ∷ definitions) (c ∷ constants) =
    (c.name ≡ d.name) × IsWhatItMeans m d.body c.value × AreWhatTheyMean m definitions constants

abbrev pub ConstantsAreWhatTheyMean : Type 0
ConstantsAreWhatTheyMean = (texts : Texts) (text : List ℕ) (parts : Parts) (written : List Written) (draft : Draft) (m : Module) →
    parts_of_text text ≡ Ok parts → definitions_of texts parts ≡ Ok written → draft_of parts written ≡ Ok draft → module_of text texts ≡ Ok m →
    AreWhatTheyMean m (constants_in draft.definitions) m.constants
