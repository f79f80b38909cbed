-- Curried programs: a program with its first arguments given, the hash of one, and its parts. Source: Chialisp reference.
use Rattle.std.specs.Prelude.{ℕ, ◌&&◌, List, [], ◌∷◌, Option, Some, None, option_map, if◌then◌else◌}
use Rattle.clvm_spec.specs.declared.op_codes.TheConstants.{QUOTE, APPLY, NEW_PAIR}
use Rattle.clvm_spec.specs.Hashing.{atom_hash, pair_hash, list_hash}
use Rattle.clvm_spec.specs.Tree.{Tree, Atom, Pair, list_tree}
use Rattle.clvm_spec.specs.Evaluation.{is_byte, is_code}

-- `(q . TREE)`
abbrev pub quote_of : Tree → Tree
quote_of tree = Pair (Atom (QUOTE ∷ [])) tree

-- the form of an operator on its operands
abbrev pub operator_code : ℕ → List Tree → Tree
operator_code code operands = Pair (Atom (code ∷ [])) (list_tree operands)

-- the path to the whole environment
abbrev pub whole_path : ℕ
whole_path = 1

-- `(c (q . A1) (c (q . A2) .. 1))`: an environment with these in front
abbrev pub environment_with : List Tree → Tree
environment_with [] = Atom (whole_path ∷ [])
environment_with (argument ∷ arguments) = operator_code NEW_PAIR (quote_of argument ∷ environment_with arguments ∷ [])

-- `(a (q . PROGRAM) (c (q . A1) (c (q . A2) .. 1)))`
abbrev pub curried : (program : Tree) (arguments : List Tree) → Tree
curried program arguments = operator_code APPLY (quote_of program ∷ environment_with arguments ∷ [])

-- ---- its hash, from those of its parts

abbrev pub quote_hash : List ℕ → List ℕ
quote_hash hash = pair_hash (atom_hash (QUOTE ∷ [])) hash

abbrev pub form_hash : ℕ → List ℕ → List ℕ → List ℕ
form_hash code x y = list_hash (atom_hash (code ∷ []) ∷ x ∷ y ∷ [])

abbrev pub environment_hash : List (List ℕ) → List ℕ
environment_hash [] = atom_hash (whole_path ∷ [])
environment_hash (hash ∷ hashes) = form_hash NEW_PAIR (quote_hash hash) (environment_hash hashes)

abbrev pub curried_hash : (program : List ℕ) (arguments : List (List ℕ)) → List ℕ
curried_hash program arguments = form_hash APPLY (quote_hash program) (environment_hash arguments)

-- ---- back to the parts

-- the arguments of `(c (q . A1) (c (q . A2) .. 1))`
abbrev pub environment_arguments : Tree → Option (List Tree)
environment_arguments (Atom bytes) = if is_byte whole_path bytes then Some [] else None
environment_arguments (Pair c (Pair (Pair q argument) (Pair more (Atom [])))) =
    if is_code NEW_PAIR c && is_code QUOTE q then option_map (λ arguments. argument ∷ arguments) (environment_arguments more) else None
environment_arguments other = None

pub record CurriedParts : Type 0 where
  pub program : Tree
  pub arguments : List Tree

-- There is at least one argument.
abbrev pub with_program : Tree → Option (List Tree) → Option CurriedParts
with_program program None = None
with_program program (Some []) = None
with_program program (Some (argument ∷ more)) = Some (record { program = program; arguments = argument ∷ more })

abbrev pub uncurried : Tree → Option CurriedParts
uncurried (Pair a (Pair (Pair q program) (Pair environment (Atom [])))) =
    if is_code APPLY a && is_code QUOTE q then with_program program (environment_arguments environment) else None
uncurried other = None
