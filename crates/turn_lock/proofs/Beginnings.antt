-- Lists that begin others.
use Rattle.std.proofs.Common.{◌≡◌, ◌≤◌, List, [], ◌∷◌, ◌++◌, length, refl, sym, ap, ◌∙◌, subst, append_assoc, append-nil, length-append, arith}
use mathlib.Core.List.{IsPrefix}

module _ {A : Type 0} where
  pub prefix_self : (xs : List A) → IsPrefix xs xs
  prefix_self xs = ([], append-nil xs)

  pub prefix_trans : (xs ys zs : List A) → IsPrefix xs ys → IsPrefix ys zs → IsPrefix xs zs
  prefix_trans xs ys zs p q = (p.0 ++ q.0, sym (append_assoc xs p.0 q.0) ∙ ap (λ l. l ++ q.0) p.1 ∙ q.1)

  pub prefix_length : (xs ys : List A) → IsPrefix xs ys → length xs ≤ length ys
  prefix_length xs ys p = subst (λ l. length xs ≤ length l) p.1 (omega (arith, length-append xs p.0))

  -- of two beginnings of one list the shorter begins the longer
  pub shorter_begins : (xs ys zs : List A) → IsPrefix xs zs → IsPrefix ys zs → length xs ≤ length ys → IsPrefix xs ys
  shorter_begins [] ys zs p q h = (ys, refl)
  shorter_begins (x ∷ xs) [] zs p q h = absurd (omega arith)
  shorter_begins (x ∷ xs) (y ∷ ys) [] p q h = let e = p.1 in absurd cc
  shorter_begins (x ∷ xs) (y ∷ ys) (z ∷ zs) p q h =
      let e = p.1 in
      let f = q.1 in
      let tail : IsPrefix xs ys = shorter_begins xs ys zs (p.0, cc) (q.0, cc) (omega arith) in
      let g = tail.1 in (tail.0, cc)

  pub not_longer : (xs : List A) (e : A) → xs ≡ xs ++ e ∷ [] → ⊥
  not_longer xs e same = let n = ap length same in omega (arith, length-append xs (e ∷ []))

  pub same_last : (xs : List A) (e f : A) → xs ++ e ∷ [] ≡ xs ++ f ∷ [] → e ≡ f
  same_last [] e f same = cc
  same_last (x ∷ xs) e f same = same_last xs e f cc
