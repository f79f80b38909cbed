-- The parts of a curried tree by those of its forms.
use Rattle.std.proofs.Common.{◌≡◌, ◌∙◌, ℕ, Bool, true, false, cond, ◌&&◌, List, [], ◌∷◌, ◌++◌, Option, Some, None, option_map, refl, sym, ap, ap₂, length, ◌<◌, arith, append_assoc}
use Rattle.std.proofs.lemmas.List.{append-nil, map-append}
use Rattle.std.proofs.lemmas.Bool.{eqb-true, and_parts}
use Rattle.clvm_spec.specs.Tree.{Tree, Atom, Pair, nil}
use Rattle.clvm_tree.specs.Nodes.{tree_at}
use Rattle.clvm_tree.specs.Operators.{trees_at}
use Rattle.clvm_tree.specs.declared.Node.{Node}
use Rattle.clvm_spec.specs.Operators.{is_nil}
use Rattle.clvm_spec.specs.Evaluation.{is_code}
use Rattle.clvm_spec.specs.Currying.{quote_of, operator_code, environment_arguments, uncurried, with_program}
use Rattle.lisp_library.specs.Parts.{form_parts}

and_true : (b : Bool) → (b && true) ≡ b
and_true true = refl
and_true false = refl

found_when : {A : Type 0} (b : Bool) (value found : A) → cond b (Some value) None ≡ Some found → (b ≡ true) × (value ≡ found)
found_when true value found e = (refl, cc)
found_when false value found e = cc

none_when : {A : Type 0} (b : Bool) (value : A) → cond b (Some value) None ≡ None → b ≡ false
none_when true value e = cc
none_when false value e = refl

code_is : (code : ℕ) (tree : Tree) → is_code code tree ≡ true → tree ≡ Atom (code ∷ [])
code_is code (Atom []) e = cc
code_is code (Atom (b ∷ [])) e = ap (λ b. Atom (b ∷ [])) (eqb-true b code e)
code_is code (Atom (b ∷ c ∷ bytes)) e = cc
code_is code (Pair first rest) e = cc

nil_is : (tree : Tree) → is_nil tree ≡ true → tree ≡ nil
nil_is (Atom []) e = refl
nil_is (Atom (b ∷ bytes)) e = cc
nil_is (Pair first rest) e = cc

form_is : (operator : ℕ) (tree quoted last : Tree) → form_parts operator tree ≡ Some (quoted, last) → tree ≡ operator_code operator (quote_of quoted ∷ last ∷ [])
form_is operator (Pair head (Pair (Pair q tree) (Pair other end))) quoted last e =
    let found = found_when (is_code operator head && (is_code 1 q && is_nil end)) (tree, other) (quoted, last) e in
    let first = and_parts (is_code operator head) (is_code 1 q && is_nil end) found.0 in
    let second = and_parts (is_code 1 q) (is_nil end) first.1 in
    let is_quoted : tree ≡ quoted = ap (λ p. p.0) found.1 in
    let is_last : other ≡ last = ap (λ p. p.1) found.1 in
    ap₂ Pair (code_is operator head first.0) (ap₂ Pair (ap₂ Pair (code_is 1 q second.0) is_quoted) (ap₂ Pair is_last (nil_is end second.1)))
form_is operator other quoted last e = cc

pub more_arguments : (tree argument more : Tree) → form_parts 4 tree ≡ Some (argument, more)
    → environment_arguments tree ≡ option_map (λ arguments. argument ∷ arguments) (environment_arguments more)
more_arguments tree argument more e = ap environment_arguments (form_is 4 tree argument more e)

pub no_more_arguments : (tree : Tree) → form_parts 4 tree ≡ None → environment_arguments tree ≡ cond (is_code 1 tree) (Some []) None
no_more_arguments (Atom bytes) e = refl
no_more_arguments (Pair c (Pair (Pair q argument) (Pair more (Atom [])))) e =
    let none = none_when (is_code 4 c && (is_code 1 q && true)) (argument, more) e in
    ap (λ b. cond b (option_map (λ arguments. argument ∷ arguments) (environment_arguments more)) None) (ap (λ b. is_code 4 c && b) (sym (and_true (is_code 1 q))) ∙ none)
no_more_arguments other e = refl

pub uncurried-Some : (tree program environment : Tree) → form_parts 2 tree ≡ Some (program, environment) → uncurried tree ≡ with_program program (environment_arguments environment)
uncurried-Some tree program environment e = ap uncurried (form_is 2 tree program environment e)

pub uncurried-None : (tree : Tree) → form_parts 2 tree ≡ None → uncurried tree ≡ None
uncurried-None (Pair a (Pair (Pair q program) (Pair environment (Atom [])))) e =
    let none = none_when (is_code 2 a && (is_code 1 q && true)) (program, environment) e in
    ap (λ b. cond b (with_program program (environment_arguments environment)) None) (ap (λ b. is_code 2 a && b) (sym (and_true (is_code 1 q))) ∙ none)
uncurried-None other e = refl

-- ---- arguments, from the first to the last

one_more : (taken : List Tree) (argument : Tree) (more : Option (List Tree))
    → option_map (λ rest. taken ++ rest) (option_map (λ rest. argument ∷ rest) more) ≡ option_map (λ rest. (taken ++ argument ∷ []) ++ rest) more
one_more taken argument None = refl
one_more taken argument (Some rest) = ap Some (sym (append_assoc taken (argument ∷ []) rest))

pub argument_taken : (trees : List Tree) (taken : List Node) (argument : Node) (more last : Tree) → form_parts 4 last ≡ Some (tree_at trees argument.0, more)
    → option_map (λ rest. trees_at trees taken ++ rest) (environment_arguments last) ≡ option_map (λ rest. trees_at trees (taken ++ argument ∷ []) ++ rest) (environment_arguments more)
argument_taken trees taken argument more last e =
    ap (option_map (λ rest. trees_at trees taken ++ rest)) (more_arguments last (tree_at trees argument.0) more e)
    ∙ one_more (trees_at trees taken) (tree_at trees argument.0) (environment_arguments more)
    ∙ ap (λ xs. option_map (λ rest. xs ++ rest) (environment_arguments more)) (sym (map-append (λ node. tree_at trees node.0) taken (argument ∷ [])))

-- all arguments are taken, where what is left is the atom 01
all_taken : (b : Bool) (taken : List Tree) → option_map (λ rest. taken ++ rest) (cond b (Some []) None) ≡ cond b (Some taken) None
all_taken true taken = ap Some (append-nil taken)
all_taken false taken = refl

pub uncurried-taken : (tree program environment last : Tree) (taken : List Tree) → form_parts 2 tree ≡ Some (program, environment) → form_parts 4 last ≡ None
    → environment_arguments environment ≡ option_map (λ rest. taken ++ rest) (environment_arguments last)
    → uncurried tree ≡ with_program program (cond (is_code 1 last) (Some taken) None)
uncurried-taken tree program environment last taken form none all =
    uncurried-Some tree program environment form
    ∙ ap (with_program program) (all ∙ ap (option_map (λ rest. taken ++ rest)) (no_more_arguments last none) ∙ all_taken (is_code 1 last) taken)

pub without_argument : (program : Tree) (b : Bool) (taken : List Tree) → length taken ≡ 0 → with_program program (cond b (Some taken) None) ≡ None
without_argument program true [] none = refl
without_argument program true (argument ∷ taken) none = absurd (omega (arith, none))
without_argument program false taken none = refl

pub with_arguments : (program : Tree) (taken : List Tree) → 0 < length taken → with_program program (Some taken) ≡ Some (record { program = program; arguments = taken })
with_arguments program [] some = absurd (omega (arith, some))
with_arguments program (argument ∷ taken) some = refl
