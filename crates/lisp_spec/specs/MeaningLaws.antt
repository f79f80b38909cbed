-- What the count is to a meaning: laws of the definition, each proved once for the crates above.
use Rattle.std.specs.Prelude.{◌≡◌, ◌≢◌, ℕ, ◌≤◌}
use Rattle.clvm_spec.specs.Tree.{Tree}
use Rattle.lisp_spec.specs.Modules.{Module}
use Rattle.lisp_spec.specs.Expressions.{Expression}
use Rattle.lisp_spec.specs.Environments.{Environment}
use Rattle.lisp_spec.specs.Meaning.{Value, Failed, Wide, Out, meaning}

-- A larger count keeps a value, a failure and a number too wide.
abbrev pub LargerCountKeepsValues : Type 0
LargerCountKeepsValues = (source : Module) (e : Expression) (env : Environment Tree) (n more : ℕ) (value : Tree) → n ≤ more →
    meaning source e env n ≡ Value value → meaning source e env more ≡ Value value

abbrev pub LargerCountKeepsFailures : Type 0
LargerCountKeepsFailures = (source : Module) (e : Expression) (env : Environment Tree) (n more : ℕ) → n ≤ more →
    meaning source e env n ≡ Failed → meaning source e env more ≡ Failed

abbrev pub LargerCountKeepsWide : Type 0
LargerCountKeepsWide = (source : Module) (e : Expression) (env : Environment Tree) (n more : ℕ) → n ≤ more →
    meaning source e env n ≡ Wide → meaning source e env more ≡ Wide

-- Two counts that suffice give the same, so there are never two values.
abbrev pub CountsGiveTheSame : Type 0
CountsGiveTheSame = (source : Module) (e : Expression) (env : Environment Tree) (n m : ℕ) →
    meaning source e env n ≢ Out → meaning source e env m ≢ Out → meaning source e env n ≡ meaning source e env m
