-- Names that are added one by one.
use Rattle.std.proofs.Common.{◌≡◌, ℕ, Bool, true, false, not, cond, List, [], ◌∷◌, ◌++◌, refl, sym, ap, ◌∙◌}
use Rattle.lisp_spec.specs.ModuleFaults.{is_among}

pub not_false : (b : Bool) → not b ≡ false → b ≡ true
not_false true e = refl
not_false false e = cc

pub not_true : (b : Bool) → not b ≡ true → b ≡ false
not_true true e = cc
not_true false e = refl

-- a name that isn't new is there
pub is_known : (name added : List ℕ) (names : List (List ℕ)) (new : Bool) → added ≡ name → new ≡ not (is_among added names) → new ≡ false → is_among name names ≡ true
is_known name added names new a n e = ap (λ w. is_among w names) (sym a) ∙ not_false (is_among added names) (sym n ∙ e)

pub is_new : (name added : List ℕ) (names : List (List ℕ)) (new : Bool) → added ≡ name → new ≡ not (is_among added names) → new ≡ true → is_among name names ≡ false
is_new name added names new a n e = ap (λ w. is_among w names) (sym a) ∙ not_true (is_among added names) (sym n ∙ e)

-- a new name stands behind the others
pub stands_last : (name added : List ℕ) (names after : List (List ℕ)) → added ≡ name → after ≡ cond (is_among added names) names (names ++ added ∷ []) → is_among name names ≡ false → after ≡ names ++ name ∷ []
stands_last name added names after a e n =
    e ∙ ap (λ b. cond b names (names ++ added ∷ [])) (ap (λ w. is_among w names) a ∙ n) ∙ ap (λ w. names ++ w ∷ []) a
