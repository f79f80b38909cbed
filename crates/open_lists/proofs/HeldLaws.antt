-- The forms that open lists hold, with one more list within the others.
use Rattle.std.proofs.Common.{◌≡◌, true, List, [], ◌∷◌, ◌++◌, refl, sym, ◌∙◌, ap, append_assoc, append-nil}
use Rattle.open_lists.specs.declared.list.Reach.{Reach}
use Rattle.open_lists.specs.declared.list.Reach.TheVariants.{Elements, Dot, Last}
use Rattle.open_lists.specs.declared.list.OpenList.{OpenList}
use Rattle.open_lists.specs.Reaches.{takes_form, takes_dot, forms_with, reach_with}
use Rattle.open_lists.specs.Held.{last_held, forms_held, held}

module _ {F P : Type 0} where
  held_push : (outer : List (OpenList F P)) (list : OpenList F P) → held (outer ++ list ∷ []) ≡ held outer ++ forms_held list
  held_push [] list = append-nil (forms_held list)
  held_push (l ∷ outer) list = ap (λ forms. forms_held l ++ forms) (held_push outer list) ∙ sym (append_assoc (forms_held l) (held outer) (forms_held list))

  -- The innermost list's forms stand last.
  pub held_last : (items outer : List (OpenList F P)) (list : OpenList F P) → items ≡ outer ++ list ∷ [] → held items ≡ held outer ++ forms_held list
  held_last items outer list is = ap held is ∙ held_push outer list

  -- A list that is begun holds none.
  begins : (list : OpenList F P) → list.forms.items ≡ [] → list.reach ≡ Elements → forms_held list ≡ []
  begins list no_forms none = ap (λ forms. forms ++ last_held list.reach) no_forms ∙ ap last_held none

  pub held_begun : (items outer : List (OpenList F P)) (list : OpenList F P) → items ≡ outer ++ list ∷ [] → list.forms.items ≡ [] → list.reach ≡ Elements → held items ≡ held outer
  held_begun items outer list is no_forms none = held_last items outer list is ∙ ap (λ forms. held outer ++ forms) (begins list no_forms none) ∙ append-nil (held outer)

  with_form : (forms : List F) (reach : Reach F P) (form : F) → takes_form reach ≡ true → forms_with forms reach form ++ last_held (reach_with reach form) ≡ (forms ++ last_held reach) ++ form ∷ []
  with_form forms Elements form e = append-nil (forms ++ form ∷ []) ∙ ap (λ fs. fs ++ form ∷ []) (sym (append-nil forms))
  with_form forms (Dot dot) form e = ap (λ fs. fs ++ form ∷ []) (sym (append-nil forms))
  with_form forms (Last dot last) form e = cc

  -- A form that is put is the last one.
  pub held_put : (old outer new : List (OpenList F P)) (list next : OpenList F P) (form : F) → old ≡ outer ++ list ∷ [] → new ≡ outer ++ next ∷ [] → takes_form list.reach ≡ true →
      next.forms.items ≡ forms_with list.forms.items list.reach form → next.reach ≡ reach_with list.reach form → held new ++ [] ≡ held old ++ form ∷ []
  held_put old outer new list next form is_old is_new takes is_forms is_reach =
      append-nil (held new) ∙ held_last new outer next is_new
      ∙ ap (λ forms. held outer ++ (forms ++ last_held next.reach)) is_forms
      ∙ ap (λ reach. held outer ++ (forms_with list.forms.items list.reach form ++ last_held reach)) is_reach
      ∙ ap (λ forms. held outer ++ forms) (with_form list.forms.items list.reach form takes)
      ∙ sym (append_assoc (held outer) (forms_held list) (form ∷ []))
      ∙ ap (λ forms. forms ++ form ∷ []) (sym (held_last old outer list is_old))

  no_last : (forms : List F) (reach : Reach F P) → takes_dot forms reach ≡ true → last_held reach ≡ []
  no_last forms Elements e = refl
  no_last forms (Dot dot) e = refl
  no_last forms (Last dot form) e = cc

  -- A dot is no form.
  pub held_dot : (old outer new : List (OpenList F P)) (list next : OpenList F P) (dot : P) → old ≡ outer ++ list ∷ [] → new ≡ outer ++ next ∷ [] → takes_dot list.forms.items list.reach ≡ true →
      next ≡ record list { reach = Dot dot } → held new ≡ held old
  held_dot old outer new list next dot is_old is_new takes is_next =
      held_last new outer next is_new ∙ ap (λ l. held outer ++ forms_held l) is_next
      ∙ ap (λ last. held outer ++ (list.forms.items ++ last)) (sym (no_last list.forms.items list.reach takes))
      ∙ sym (held_last old outer list is_old)
