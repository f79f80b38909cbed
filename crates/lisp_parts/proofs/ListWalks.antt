-- The elements of a list, one after another.
use Rattle.std.proofs.Common.{◌≡◌, ℕ, suc, ◌==◌, length, Bool, true, false, List, [], ◌∷◌, ◌++◌, Option, Some, None, refl, sym, ap, arith, append_assoc}
use Rattle.std.specs.Prelude.{option_map}
use Rattle.lisp_read.specs.Forms.{Form, Atom, Symbol, Pair}
use Rattle.lisp_spec.specs.Forms.{Place}
use Rattle.lisp_read.specs.FormLists.{form_elements}

abbrev pub spine : Form → ℕ
spine (Atom place bytes) = 0
spine (Symbol place name) = 0
spine (Pair place first rest) = suc (spine rest)

-- elements behind others
abbrev pub behind : List Form → Option (List Form) → Option (List Form)
behind forms more = option_map (λ m. forms ++ m) more

pub behind_none : (more : Option (List Form)) → more ≡ behind [] more
behind_none None = refl
behind_none (Some m) = refl

pub behind_one : (forms : List Form) (first : Form) (more : Option (List Form)) → behind forms (option_map (λ m. first ∷ m) more) ≡ behind (forms ++ first ∷ []) more
behind_one forms first None = refl
behind_one forms first (Some m) = ap Some (sym (append_assoc forms (first ∷ []) m))

-- whether a list ends with an atom
pub atom_ends : (place : Place) (bytes : List ℕ) (empty : Bool) → (length bytes == 0) ≡ empty → empty ≡ true → form_elements (Atom place bytes) ≡ Some []
atom_ends place [] empty e t = refl
atom_ends place (b ∷ bytes) empty e t = absurd (grind (arith, e, t))

pub atom_ends_none : (place : Place) (bytes : List ℕ) (empty : Bool) → (length bytes == 0) ≡ empty → empty ≡ false → form_elements (Atom place bytes) ≡ None
atom_ends_none place [] empty e t = absurd (grind (arith, e, t))
atom_ends_none place (b ∷ bytes) empty e t = refl
