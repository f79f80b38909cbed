-- The laws of currying.
use Rattle.std.proofs.Common.{◌≡◌, ℕ, Bool, true, false, cond, ◌&&◌, List, [], ◌∷◌, Option, Some, None, map, option_map, refl, sym, ap, ap₂, ◌∙◌, subst}
use Rattle.std.proofs.lemmas.Bool.{eqb-true, and_parts}
use Rattle.clvm_spec.specs.declared.op_codes.TheConstants.{QUOTE, APPLY, NEW_PAIR}
use Rattle.clvm_spec.specs.Tree.{Tree, Atom, Pair, nil}
use Rattle.clvm_spec.specs.Hashing.{tree_hash}
use Rattle.clvm_spec.specs.Evaluation.{is_byte, is_code}
use Rattle.clvm_spec.specs.Currying.{quote_of, operator_code, environment_with, whole_path, curried, form_hash, quote_hash, environment_hash, environment_arguments, CurriedParts, with_program}
use Rattle.clvm_spec.specs.CurryingLaws.{HashFollows, GivesPartsBack, GivesNoneWithoutArgument, WasCurried, program_and_arguments}

environment_hash_follows : (arguments : List Tree) → tree_hash (environment_with arguments) ≡ environment_hash (map tree_hash arguments)
environment_hash_follows [] = refl
environment_hash_follows (argument ∷ arguments) = ap (λ h. form_hash NEW_PAIR (quote_hash (tree_hash argument)) h) (environment_hash_follows arguments)

pub hash_follows : HashFollows
hash_follows program arguments = ap (λ h. form_hash APPLY (quote_hash (tree_hash program)) h) (environment_hash_follows arguments)

arguments_back : (arguments : List Tree) → environment_arguments (environment_with arguments) ≡ Some arguments
arguments_back [] = refl
arguments_back (argument ∷ arguments) = ap (λ found. option_map (λ more. argument ∷ more) found) (arguments_back arguments)

pub gives_parts_back : GivesPartsBack
gives_parts_back program first more = ap (with_program program) (arguments_back (first ∷ more))

pub gives_none_without_argument : GivesNoneWithoutArgument
gives_none_without_argument program = refl

-- ---- only what was curried

found_when : {A : Type 0} (b : Bool) (o : Option A) (found : A) → cond b o None ≡ Some found → (b ≡ true) × (o ≡ Some found)
found_when true o found e = (refl, e)
found_when false o found e = cc

found_by : {A B : Type 0} (f : A → B) (o : Option A) (found : B) → option_map f o ≡ Some found → (a : A) × (o ≡ Some a) × (f a ≡ found)
found_by f None found e = cc
found_by f (Some a) found e = (a, refl, cc)

code_is : (code : ℕ) (tree : Tree) → is_code code tree ≡ true → tree ≡ Atom (code ∷ [])
code_is code (Atom []) e = cc
code_is code (Atom (b ∷ [])) e = ap (λ b. Atom (b ∷ [])) (eqb-true b code e)
code_is code (Atom (b ∷ c ∷ bytes)) e = cc
code_is code (Pair first rest) e = cc

form_is : (code : ℕ) (head quote tree : Tree) (other : Tree) → (is_code code head && is_code QUOTE quote) ≡ true → Pair head (Pair (Pair quote tree) (Pair other nil)) ≡ operator_code code (quote_of tree ∷ other ∷ [])
form_is code head quote tree other e =
    let both = and_parts (is_code code head) (is_code QUOTE quote) e in
    ap₂ (λ h q. Pair h (Pair (Pair q tree) (Pair other nil))) (code_is code head both.0) (code_is QUOTE quote both.1)

arguments_are : (tree : Tree) (arguments : List Tree) → environment_arguments tree ≡ Some arguments → tree ≡ environment_with arguments
arguments_are (Atom bytes) arguments e =
    let found = found_when (is_byte whole_path bytes) (Some []) arguments e in
    let none : [] ≡ arguments = cc in
    code_is whole_path (Atom bytes) found.0 ∙ ap environment_with none
arguments_are (Pair c (Pair (Pair q argument) (Pair more (Atom [])))) arguments e =
    let found = found_when (is_code NEW_PAIR c && is_code QUOTE q) (option_map (λ rest. argument ∷ rest) (environment_arguments more)) arguments e in
    let rest = found_by (λ rest. argument ∷ rest) (environment_arguments more) arguments found.1 in
    form_is NEW_PAIR c q argument more found.0 ∙ ap (λ rest. operator_code NEW_PAIR (quote_of argument ∷ rest ∷ [])) (arguments_are more rest.0 rest.1) ∙ ap environment_with rest.2
arguments_are other arguments e = cc

Found : Tree → CurriedParts → Type 0
Found tree found = (first : Tree) × (more : List Tree) × (found.arguments ≡ first ∷ more) × (tree ≡ curried found.program (first ∷ more))

with_program_is : (program environment : Tree) (arguments : Option (List Tree)) (found : CurriedParts) → environment_arguments environment ≡ arguments → with_program program arguments ≡ Some found → Found (operator_code APPLY (quote_of program ∷ environment ∷ [])) found
unfolding Found
with_program_is program environment None found g e = cc
with_program_is program environment (Some []) found g e = cc
with_program_is program environment (Some (first ∷ more)) found g e =
    let same : program_and_arguments program first more ≡ found = cc in
    subst (λ (f : CurriedParts). Found (operator_code APPLY (quote_of program ∷ environment ∷ [])) f) same
    (first, more, refl, ap (λ rest. operator_code APPLY (quote_of program ∷ rest ∷ [])) (arguments_are environment (first ∷ more) g))

pub was_curried : WasCurried
unfolding Found
was_curried (Pair a (Pair (Pair q program) (Pair environment (Atom [])))) found e =
    let both = found_when (is_code APPLY a && is_code QUOTE q) (with_program program (environment_arguments environment)) found e in
    subst (λ (t : Tree). Found t found) (sym (form_is APPLY a q program environment both.0)) (with_program_is program environment (environment_arguments environment) found refl both.1)
was_curried other found e = cc
