-- What holds of the module that a text stands for: laws of the definitions, each proved once for the crates above.
use Rattle.std.specs.Prelude.{◌≡◌, ℕ, ◌≤◌, false, List, [], ◌∷◌, ◌++◌, Ok}
use Rattle.std.specs.List.{AllByRecursion}
use Rattle.clvm_spec.specs.Tree.{Tree}
use Rattle.lisp_spec.specs.Forms.{Form}
use Rattle.lisp_spec.specs.Heads.{is_reserved}
use Rattle.lisp_spec.specs.Modules.{Definition, Constant, Module, definition_names, constant_names}
use Rattle.lisp_spec.specs.Parameters.{parameter_names}
use Rattle.lisp_spec.specs.Weights.{tree_weight, weight_limit}
use Rattle.lisp_spec.specs.ModuleFaults.{is_among}
use Rattle.lisp_spec.specs.Inclusion.{Texts}
use Rattle.lisp_spec.specs.Expressions.{Expression}
use Rattle.lisp_spec.specs.Scopes.{module_scope, IsExpression}
use Rattle.lisp_spec.specs.Meaning.{module_meaning}
use Rattle.lisp_spec.specs.Cycles.{reaches_itself}
use Rattle.lisp_spec.specs.ExpressionWeights.{expression_weight, definition_weight}
use Rattle.lisp_spec.specs.ModuleOf.{module_of}

-- A text, with these library texts, stands for this module.
abbrev pub StandsFor : Texts → List ℕ → Module → Type 0
StandsFor texts text m = module_of text texts ≡ Ok m

-- ---- a module without fault

-- Each pair of a body is an expression, and each symbol of it names something: the body is an expression.
abbrev pub IsBound : Module → Form → Form → Type 0
IsBound m params body = (e : Expression) × IsExpression (module_scope m params) body e

-- So are all its bodies.
abbrev pub AreBound : Module → Type 0
AreBound m =
    AllByRecursion (λ d. IsBound m d.params d.body) m.functions × AllByRecursion (λ d. IsBound m d.params d.body) m.inlines × IsBound m m.params m.body

abbrev pub NamesAreBound : Type 0
NamesAreBound = (texts : Texts) (text : List ℕ) (m : Module) → StandsFor texts text m → AreBound m

-- No name is there twice.
abbrev pub Distinct : List (List ℕ) → Type 0
Distinct [] = Unit {0}
Distinct (name ∷ names) = (is_among name names ≡ false) × Distinct names

-- The names of one tree of parameters are distinct.
abbrev pub AreDistinct : Form → Type 0
AreDistinct params = Distinct (parameter_names params)

abbrev pub ParametersAreDistinct : Type 0
ParametersAreDistinct = (texts : Texts) (text : List ℕ) (m : Module) → StandsFor texts text m →
    AllByRecursion (λ d. AreDistinct d.params) m.functions × AllByRecursion (λ d. AreDistinct d.params) m.inlines × AreDistinct m.params

abbrev pub all_names : Module → List (List ℕ)
all_names m = definition_names m.functions ++ (definition_names m.inlines ++ constant_names m.constants)

-- No two definitions have one name, and none has a name of the language.
abbrev pub DefinitionsAreNamed : Type 0
DefinitionsAreNamed = (texts : Texts) (text : List ℕ) (m : Module) → StandsFor texts text m → Distinct (all_names m) × AllByRecursion (λ name. is_reserved name ≡ false) (all_names m)

abbrev pub InlinesEnd : Type 0
InlinesEnd = (texts : Texts) (text : List ℕ) (m : Module) → StandsFor texts text m →
    AllByRecursion (λ d. reaches_itself m d.name ≡ false) m.inlines

abbrev pub WeightsAreWithinTheLimit : Type 0
WeightsAreWithinTheLimit = (texts : Texts) (text : List ℕ) (m : Module) → StandsFor texts text m →
    AllByRecursion (λ d. definition_weight m d ≤ weight_limit) m.functions × AllByRecursion (λ d. definition_weight m d ≤ weight_limit) m.inlines
    × (expression_weight m m.params m.body ≤ weight_limit)

abbrev pub ValuesAreWithinTheLimit : Type 0
ValuesAreWithinTheLimit = (texts : Texts) (text : List ℕ) (m : Module) → StandsFor texts text m →
    AllByRecursion (λ c. tree_weight c.value ≤ weight_limit) m.constants

-- A module with further constants and functions, behind its own.
abbrev pub with_more : Module → List Constant → List Definition → Module
with_more m constants functions = record m { constants = m.constants ++ constants; functions = m.functions ++ functions }

-- No name that is met is without meaning: further constants and functions, which would give it one, change nothing.
abbrev pub NoNameIsWithoutMeaning : Type 0
NoNameIsWithoutMeaning = (texts : Texts) (text : List ℕ) (m : Module) → StandsFor texts text m → (constants : List Constant) (functions : List Definition) (argument : Tree) (n : ℕ) →
    module_meaning (with_more m constants functions) argument n ≡ module_meaning m argument n
