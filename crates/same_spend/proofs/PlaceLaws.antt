-- Lists that are made place by place.
use Rattle.std.proofs.Common.{◌≡◌, ℕ, ◌+◌, ◌<◌, ◌≤◌, List, [], ◌∷◌, ◌++◌, length, map, take, get_or, sym, ap, ◌∙◌, arith}
use Rattle.std.specs.Prelude.{zip}
use Rattle.std.proofs.lemmas.List.{map-append, take_more, take_all}
use Rattle.std.proofs.lemmas.Slice.Zip.{length-zip, get_or-zip}
use Rattle.judge_spec.specs.declared.class.Class.{Class}

pub classed-more : {A B : Type 0} (f : A × B → Class) (xs : List A) (ys : List B) (i : ℕ) (x : A) (y : B)
    → i < length xs → length ys ≡ length xs → x ≡ get_or xs i x → y ≡ get_or ys i y
    → map f (take (i + 1) (zip xs ys)) ≡ map f (take i (zip xs ys)) ++ f (x, y) ∷ []
classed-more {A} {B} f xs ys i x y h e at_xs at_ys =
    let pairs : List (A × B) = zip xs ys in
    let also : i < length ys = omega (arith, h, e) in
    let inside : i < length pairs = omega (arith, length-zip xs ys, h, also) in
    let pair : get_or pairs i (x, y) ≡ (x, y) = get_or-zip xs ys i (x, y) h also ∙ (λ j. (sym at_xs j, sym at_ys j)) in
    ap (map f) (take_more pairs i (x, y) inside) ∙ map-append f (take i pairs) (get_or pairs i (x, y) ∷ [])
    ∙ ap (λ q. map f (take i pairs) ++ f q ∷ []) pair

pub zip-whole : {A B : Type 0} (xs : List A) (ys : List B) (i : ℕ) → length ys ≡ length xs → length xs ≤ i → take i (zip xs ys) ≡ zip xs ys
zip-whole xs ys i e h = take_all i (zip xs ys) (omega (arith, length-zip xs ys, e, h))
