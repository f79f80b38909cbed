-- What it means that an inline reaches a name, that the bounds in the definitions of cycles and weights are no part of
-- their meaning, and what a parameter of an inline weighs: laws of the definitions, each proved once for the crates above.
use Rattle.std.specs.Prelude.{◌≡◌, ℕ, suc, ◌≤◌, true, false, List, [], ◌∷◌, length, Option, Some, None}
use Rattle.std.specs.List.{AllByRecursion}
use Rattle.lisp_spec.specs.Forms.{Form}
use Rattle.lisp_spec.specs.Modules.{Module, definition_named}
use Rattle.lisp_spec.specs.ModuleFaults.{is_among}
use Rattle.lisp_spec.specs.Parameters.{Side}
use Rattle.lisp_spec.specs.Expressions.{Expression, Operands}
use Rattle.lisp_spec.specs.Scopes.{body_of}
use Rattle.lisp_spec.specs.Environments.{operand_at}
use Rattle.lisp_spec.specs.Cycles.{calls_of, reaches_within, reaches_itself}
use Rattle.lisp_spec.specs.ExpressionWeights.{Standing, BodyWeight, weighed, weight_at, body_weight, weight_within}

-- An inline of this name calls that one in its body.
abbrev pub Calls : Module → (from called : List ℕ) → Type 0
Calls m from called = is_among called (calls_of m (definition_named from m.inlines)) ≡ true

-- Calls lead from an inline through these to a name.
abbrev pub IsPath : Module → (from : List ℕ) → (through : List (List ℕ)) → (name : List ℕ) → Type 0
IsPath m from [] name = Calls m from name
IsPath m from (called ∷ more) name = Calls m from called × IsPath m called more name

abbrev pub Reaches : Module → (from name : List ℕ) → Type 0
Reaches m from name = (through : List (List ℕ)) × IsPath m from through name

-- To look at as many calls as there are inlines finds whatever any number of calls reaches.
abbrev pub FindsReached : Type 0
FindsReached = (m : Module) (from name : List ℕ) → Reaches m from name → reaches_within (length m.inlines) m from name ≡ true

abbrev pub FoundIsReached : Type 0
FoundIsReached = (m : Module) (from name : List ℕ) (bound : ℕ) → reaches_within bound m from name ≡ true → Reaches m from name

-- where no inline of a module reaches itself
abbrev pub HasNoCycle : Module → Type 0
HasNoCycle m = AllByRecursion (λ d. reaches_itself m d.name ≡ false) m.inlines

-- There any bound above the number of inlines gives the same weight.
abbrev pub WeightsAreWithinTheNesting : Type 0
WeightsAreWithinTheNesting = (m : Module) → HasNoCycle m → (bound : ℕ) → length m.inlines ≤ bound → (params : Form) (standing : Standing) (e : Expression) →
    weight_within (suc bound) m params standing e ≡ weight_within (suc (length m.inlines)) m params standing e

-- the weight of an expression, with nothing to bound it
abbrev pub weight_of : Module → Form → Standing → Expression → ℕ
weight_of m params standing e = weight_within (suc (length m.inlines)) m params standing e

-- So the weight of an expression is that of its parts, and an inline call's that of the inline's body.
abbrev pub WeightIsItsStep : Type 0
WeightIsItsStep = (m : Module) → HasNoCycle m → (params : Form) (standing : Standing) (e : Expression) →
    weight_of m params standing e ≡ weighed (λ inline inner. body_weight (weight_of m inline.params inner) (body_of m inline.params inline.body)) m params standing e

-- what stands at a path weighs; 1 where the path has a missing step
abbrev pub weight_or_one : (Expression → ℕ) → Option Expression → ℕ
weight_or_one weigh None = 1
weight_or_one weigh (Some e) = weigh e

-- A parameter of an inline weighs as much as the expression that it stands for.
abbrev pub ParametersWeighWhatTheyStandFor : Type 0
ParametersWeighWhatTheyStandFor = (weight : BodyWeight) (m : Module) (params : Form) (standing : Standing) (path : List Side) (operands : Operands) →
    weight_at weight m params standing path operands ≡ weight_or_one (weighed weight m params standing) (operand_at path operands)
