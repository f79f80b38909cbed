-- A puzzle's layer by the parts of its forms.
use Rattle.std.proofs.Common.{◌≡◌, ◌∙◌, ℕ, Bool, true, false, cond, ◌&&◌, List, [], ◌∷◌, Option, Some, None, option_map, refl, sym, ap, ap₂}
use Rattle.std.proofs.lemmas.Bool.{eqb-true, and_parts}
use Rattle.coin_facts.specs.Steps.{◌>>=◌}
use Rattle.clvm_spec.specs.Tree.{Tree, Atom, Pair, nil}
use Rattle.clvm_spec.specs.Operators.{is_nil}
use Rattle.clvm_spec.specs.Evaluation.{is_code}
use Rattle.clvm_spec.specs.Currying.{quote_of, operator_code, environment_arguments, uncurried, with_program}
use Rattle.pool_spec.specs.Shape.{Layer, layer_of_two, layer_of}
use Rattle.singleton_forward.specs.Forms.{form_parts}

-- ---- forms

and_true : (b : Bool) → (b && true) ≡ b
and_true true = refl
and_true false = refl

found_when : {A : Type 0} (b : Bool) (value found : A) → cond b (Some value) None ≡ Some found → (b ≡ true) × (value ≡ found)
found_when true value found e = (refl, cc)
found_when false value found e = cc

none_when : {A : Type 0} (b : Bool) (value : A) → cond b (Some value) None ≡ None → b ≡ false
none_when true value e = cc
none_when false value e = refl

code_is : (code : ℕ) (tree : Tree) → is_code code tree ≡ true → tree ≡ Atom (code ∷ [])
code_is code (Atom []) e = cc
code_is code (Atom (b ∷ [])) e = ap (λ b. Atom (b ∷ [])) (eqb-true b code e)
code_is code (Atom (b ∷ c ∷ bytes)) e = cc
code_is code (Pair first rest) e = cc

nil_is : (tree : Tree) → is_nil tree ≡ true → tree ≡ nil
nil_is (Atom []) e = refl
nil_is (Atom (b ∷ bytes)) e = cc
nil_is (Pair first rest) e = cc

form_is : (operator : ℕ) (tree quoted last : Tree) → form_parts operator tree ≡ Some (quoted, last) → tree ≡ operator_code operator (quote_of quoted ∷ last ∷ [])
form_is operator (Pair head (Pair (Pair q tree) (Pair other end))) quoted last e =
    let found = found_when (is_code operator head && (is_code 1 q && is_nil end)) (tree, other) (quoted, last) e in
    let first = and_parts (is_code operator head) (is_code 1 q && is_nil end) found.0 in
    let second = and_parts (is_code 1 q) (is_nil end) first.1 in
    let is_quoted : tree ≡ quoted = ap (λ p. p.0) found.1 in
    let is_last : other ≡ last = ap (λ p. p.1) found.1 in
    ap₂ Pair (code_is operator head first.0) (ap₂ Pair (ap₂ Pair (code_is 1 q second.0) is_quoted) (ap₂ Pair is_last (nil_is end second.1)))
form_is operator other quoted last e = cc

more_arguments : (tree argument more : Tree) → form_parts 4 tree ≡ Some (argument, more)
    → environment_arguments tree ≡ option_map (λ arguments. argument ∷ arguments) (environment_arguments more)
more_arguments tree argument more e = ap environment_arguments (form_is 4 tree argument more e)

no_more_arguments : (tree : Tree) → form_parts 4 tree ≡ None → environment_arguments tree ≡ cond (is_code 1 tree) (Some []) None
no_more_arguments (Atom bytes) e = refl
no_more_arguments (Pair c (Pair (Pair q argument) (Pair more (Atom [])))) e =
    let none = none_when (is_code 4 c && (is_code 1 q && true)) (argument, more) e in
    ap (λ b. cond b (option_map (λ arguments. argument ∷ arguments) (environment_arguments more)) None) (ap (λ b. is_code 4 c && b) (sym (and_true (is_code 1 q))) ∙ none)
no_more_arguments other e = refl

uncurried_Some : (tree program environment : Tree) → form_parts 2 tree ≡ Some (program, environment) → uncurried tree ≡ with_program program (environment_arguments environment)
uncurried_Some tree program environment e = ap uncurried (form_is 2 tree program environment e)

uncurried_None : (tree : Tree) → form_parts 2 tree ≡ None → uncurried tree ≡ None
uncurried_None (Pair a (Pair (Pair q program) (Pair environment (Atom [])))) e =
    let none = none_when (is_code 2 a && (is_code 1 q && true)) (program, environment) e in
    ap (λ b. cond b (with_program program (environment_arguments environment)) None) (ap (λ b. is_code 2 a && b) (sym (and_true (is_code 1 q))) ∙ none)
uncurried_None other e = refl

-- ---- layers

layer_by : Tree → Option (List Tree) → Option Layer
layer_by program arguments = with_program program arguments >>= (λ parts. layer_of_two parts.program parts.arguments)

layer_is : (tree program environment : Tree) → form_parts 2 tree ≡ Some (program, environment) → layer_of tree ≡ layer_by program (environment_arguments environment)
unfolding layer_by
layer_is tree program environment e = ap (λ parts. parts >>= (λ parts. layer_of_two parts.program parts.arguments)) (uncurried_Some tree program environment e)

pub no-form : (tree : Tree) → form_parts 2 tree ≡ None → layer_of tree ≡ None
no-form tree e = ap (λ parts. parts >>= (λ parts. layer_of_two parts.program parts.arguments)) (uncurried_None tree e)

none_by : (program : Tree) (b : Bool) → layer_by program (cond b (Some []) None) ≡ None
unfolding layer_by
none_by program true = refl
none_by program false = refl

pub no-argument : (tree program environment : Tree) → form_parts 2 tree ≡ Some (program, environment) → form_parts 4 environment ≡ None → layer_of tree ≡ None
no-argument tree program environment e none =
    layer_is tree program environment e ∙ ap (layer_by program) (no_more_arguments environment none) ∙ none_by program (is_code 1 environment)

one_by : (program first : Tree) (b : Bool) → layer_by program (option_map (λ arguments. first ∷ arguments) (cond b (Some []) None)) ≡ None
unfolding layer_by
one_by program first true = refl
one_by program first false = refl

pub one-argument : (tree program environment first behind : Tree) → form_parts 2 tree ≡ Some (program, environment) → form_parts 4 environment ≡ Some (first, behind)
    → form_parts 4 behind ≡ None → layer_of tree ≡ None
one-argument tree program environment first behind e one none =
    layer_is tree program environment e
    ∙ ap (layer_by program) (more_arguments environment first behind one ∙ ap (option_map (λ arguments. first ∷ arguments)) (no_more_arguments behind none))
    ∙ one_by program first (is_code 1 behind)

two_by : Tree → Tree → Tree → Option (List Tree) → Option Layer
two_by program first second more = layer_by program (option_map (λ arguments. first ∷ arguments) (option_map (λ arguments. second ∷ arguments) more))

two_is : (tree program environment first behind second end : Tree) → form_parts 2 tree ≡ Some (program, environment) → form_parts 4 environment ≡ Some (first, behind)
    → form_parts 4 behind ≡ Some (second, end) → layer_of tree ≡ two_by program first second (environment_arguments end)
unfolding two_by
two_is tree program environment first behind second end e one two =
    layer_is tree program environment e
    ∙ ap (layer_by program) (more_arguments environment first behind one ∙ ap (option_map (λ arguments. first ∷ arguments)) (more_arguments behind second end two))

pub two-arguments : (tree program environment first behind second end : Tree) → form_parts 2 tree ≡ Some (program, environment) → form_parts 4 environment ≡ Some (first, behind)
    → form_parts 4 behind ≡ Some (second, end) → is_code 1 end ≡ true → layer_of tree ≡ Some (record { program = program; singleton_struct = first; inner = second })
unfolding two_by layer_by
two-arguments tree program environment first behind second end e one two last =
    two_is tree program environment first behind second end e one two ∙ ap (two_by program first second) (ap environment_arguments (code_is 1 end last))

more_by : (program first second : Tree) (more : Option (List Tree)) → (more ≡ Some [] → ⊥) → two_by program first second more ≡ None
unfolding two_by layer_by
more_by program first second None some = refl
more_by program first second (Some []) some = absurd (some refl)
more_by program first second (Some (third ∷ more)) some = refl

not_ended : (b : Bool) (argument : Tree) (more : Option (List Tree)) → cond b (option_map (λ arguments. argument ∷ arguments) more) None ≡ Some [] → ⊥
not_ended true argument (Some arguments) e = cc
not_ended true argument None e = cc
not_ended false argument more e = cc

byte_is : (b : Bool) (none : List Tree) → cond b (Some none) None ≡ Some none → b ≡ true
byte_is true none e = refl
byte_is false none e = cc

ended : (end : Tree) → environment_arguments end ≡ Some [] → is_code 1 end ≡ true
ended (Atom bytes) e = byte_is (is_code 1 (Atom bytes)) [] e
ended (Pair c (Pair (Pair q argument) (Pair more (Atom [])))) e = absurd (not_ended (is_code 4 c && is_code 1 q) argument (environment_arguments more) e)
ended other e = cc

pub more-arguments : (tree program environment first behind second end : Tree) → form_parts 2 tree ≡ Some (program, environment) → form_parts 4 environment ≡ Some (first, behind)
    → form_parts 4 behind ≡ Some (second, end) → is_code 1 end ≡ false → layer_of tree ≡ None
more-arguments tree program environment first behind second end e one two last =
    two_is tree program environment first behind second end e one two
    ∙ more_by program first second (environment_arguments end) (λ all. let there = sym last ∙ ended end all in cc)
