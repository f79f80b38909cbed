-- What is left of the walk falls with each step, and keeps its symbols.
use Rattle.std.proofs.Common.{◌≡◌, ℕ, ◌+◌, ◌<◌, ◌≤◌, List, [], ◌∷◌, ◌++◌, length, Option, Some, None, refl, ap, subst, arith}
use Rattle.lisp_spec.specs.Forms.{Form}
use Rattle.lisp_spec.specs.Inclusion.{Walk}
use Rattle.lisp_parts.specs.Symbols.{HasAsciiSymbols, HaveAsciiSymbols}
use Rattle.lisp_parts.specs.Steps.{texts_left, inner_left, InnerAscii}
use Rattle.lisp_parts.proofs.WalkLaws.{opened_levels}

abbrev pub levels_left : List (List Form) → ℕ
levels_left [] = 0
levels_left (forms ∷ levels) = length forms + 1 + levels_left levels

pub levels_left_push : (levels : List (List Form)) (forms : List Form) → levels_left (levels ++ forms ∷ []) ≡ levels_left levels + (length forms + 1)
levels_left_push [] forms = omega arith
levels_left_push (l ∷ levels) forms = omega (arith, levels_left_push levels forms)

opened_left : (levels : List (List Form)) (inner : Option (List Form)) → levels_left (opened_levels levels inner) ≡ levels_left levels + inner_left inner
opened_left levels None = omega arith
opened_left levels (Some forms) = levels_left_push levels forms

pub exhausted_falls : (n : ℕ) (levels more : List (List Form)) (level : List Form) → levels ≡ more ++ level ∷ [] → n + levels_left more < n + levels_left levels
exhausted_falls n levels more level l = omega (arith, ap levels_left l, levels_left_push more level)

pub step_falls : (before after : Walk) (levels more : List (List Form)) (form : Form) (rest : List Form) (inner : Option (List Form)) → levels ≡ more ++ (form ∷ rest) ∷ [] →
    texts_left after + inner_left inner ≤ texts_left before →
    texts_left after + levels_left (opened_levels (more ++ rest ∷ []) inner) < texts_left before + levels_left levels
step_falls before after levels more form rest inner l less =
    omega (arith, less, ap levels_left l, levels_left_push more (form ∷ rest), levels_left_push more rest, opened_left (more ++ rest ∷ []) inner)

-- ---- symbols

abbrev pub AllAscii : List (List Form) → Type 0
AllAscii [] = Unit {0}
AllAscii (forms ∷ levels) = HaveAsciiSymbols forms × AllAscii levels

pub ascii_push : (levels : List (List Form)) (forms : List Form) → AllAscii levels → HaveAsciiSymbols forms → AllAscii (levels ++ forms ∷ [])
ascii_push [] forms a b = (b, tt)
ascii_push (l ∷ levels) forms a b = (a.0, ascii_push levels forms a.1 b)

ascii_front : (levels : List (List Form)) (forms : List Form) → AllAscii (levels ++ forms ∷ []) → AllAscii levels
ascii_front [] forms a = tt
ascii_front (l ∷ levels) forms a = (a.0, ascii_front levels forms a.1)

ascii_last : (levels : List (List Form)) (forms : List Form) → AllAscii (levels ++ forms ∷ []) → HaveAsciiSymbols forms
ascii_last [] forms a = a.0
ascii_last (l ∷ levels) forms a = ascii_last levels forms a.1

pub ascii_more : (levels more : List (List Form)) (level : List Form) → levels ≡ more ++ level ∷ [] → AllAscii levels → AllAscii more
ascii_more levels more level l a = ascii_front more level (subst AllAscii l a)

pub ascii_level : (levels more : List (List Form)) (level : List Form) → levels ≡ more ++ level ∷ [] → AllAscii levels → HaveAsciiSymbols level
ascii_level levels more level l a = ascii_last more level (subst AllAscii l a)

pub ascii_form : (levels more : List (List Form)) (form : Form) (rest : List Form) → levels ≡ more ++ (form ∷ rest) ∷ [] → AllAscii levels → HasAsciiSymbols form
ascii_form levels more form rest l a = let level = ascii_level levels more (form ∷ rest) l a in level.0

pub ascii_opened : (levels more : List (List Form)) (form : Form) (rest : List Form) (inner : Option (List Form)) → levels ≡ more ++ (form ∷ rest) ∷ [] → AllAscii levels → InnerAscii inner → AllAscii (opened_levels (more ++ rest ∷ []) inner)
ascii_opened levels more form rest None l a i =
    let level = ascii_level levels more (form ∷ rest) l a in ascii_push more rest (ascii_more levels more (form ∷ rest) l a) level.1
ascii_opened levels more form rest (Some forms) l a i =
    let level = ascii_level levels more (form ∷ rest) l a in
    ascii_push (more ++ rest ∷ []) forms (ascii_push more rest (ascii_more levels more (form ∷ rest) l a) level.1) i

pub empty_is : (levels : List (List Form)) → length levels ≡ 0 → levels ≡ []
empty_is [] e = refl
empty_is (l ∷ levels) e = absurd (omega (arith, e))
