-- What currying keeps: laws of the definitions, each proved once for the crates above. They follow from the definitions.
use Rattle.std.specs.Prelude.{◌≡◌, List, [], ◌∷◌, Some, None, map}
use Rattle.clvm_spec.specs.Tree.{Tree}
use Rattle.clvm_spec.specs.Hashing.{tree_hash}
use Rattle.clvm_spec.specs.Currying.{curried, curried_hash, CurriedParts, uncurried}

-- The curried tree's hash follows from the hashes of the program and of the arguments.
abbrev pub HashFollows : Type 0
HashFollows = (program : Tree) (arguments : List Tree) → tree_hash (curried program arguments) ≡ curried_hash (tree_hash program) (map tree_hash arguments)

abbrev pub program_and_arguments : Tree → Tree → List Tree → CurriedParts
program_and_arguments program first more = record { program = program; arguments = first ∷ more }

-- What was curried with at least one argument gives its parts back, and nothing else gives any.
abbrev pub GivesPartsBack : Type 0
GivesPartsBack = (program first : Tree) (more : List Tree) → uncurried (curried program (first ∷ more)) ≡ Some (program_and_arguments program first more)

abbrev pub GivesNoneWithoutArgument : Type 0
GivesNoneWithoutArgument = (program : Tree) → uncurried (curried program []) ≡ None

abbrev pub WasCurried : Type 0
WasCurried = (tree : Tree) (found : CurriedParts) → uncurried tree ≡ Some found →
    (first : Tree) × (more : List Tree) × (found.arguments ≡ first ∷ more) × (tree ≡ curried found.program (first ∷ more))
