-- The turn when it starts, and how passes are split and joined.
use Rattle.std.proofs.Common.{◌≡◌, ℕ, zero, suc, false, List, [], ◌∷◌, ◌++◌, set, length, Some, refl, sym, ap, ◌∙◌, subst, inl, inr, ⊎_elim}
use mathlib.Core.Option as maybe
use mathlib.Core.Option.{some-ne-none}
use lib.ListN.{get_elem?}
use Rattle.atomic_table.specs.Table.{State, Splits, Joins}
use Rattle.atomic_table.specs.Table as table
use Rattle.atomic_table.proofs.Lists.{at_longer, at_snoc, set_again, set_else}
use Rattle.turn_lock.specs.declared.rule.View.{View}
use Rattle.turn_lock.specs.Makers.{Maker, IsUnnamed}
use Rattle.turn_lock.specs.Rule.{newcomer, stranger, founder, Fits, IsHome, IsOut}
use Rattle.turn_lock.specs.Steps.{with_sight_of}
use Rattle.turn_lock.proofs.Made.{unnamed_before}
use Rattle.turn_lock.proofs.Seats.{only_one, each_longer, apart_longer}
use Rattle.turn_lock.proofs.Views.{fits-founder, fits-newcomer, fits-stranger, fits-joined}
use Rattle.turn_lock.proofs.IdleSteps.{Rule, with_views, idle_moves}

only_place : {V : Type 0} (v : V) (j : ℕ) (u : V) → get_elem? (v ∷ []) j ≡ maybe.some u → j ≡ 0
only_place v zero u at = refl
only_place v (suc j) u at = absurd (some-ne-none u (sym at))

module _ {S O E : Type 0} (opening : S → O) (history : S → List E) (maker : E → Maker) where
  pub starts : (value : S) (count : ℕ) → count ≡ length (history value) → IsUnnamed maker (history value)
      → Rule opening history maker (table.opening (0 ∷ count ∷ []) (Some value ∷ []) (founder maker (opening value) (history value)))
  starts value count long unnamed =
      let v : View O E = founder maker (opening value) (history value) in
      record {
        list = history value;
        start = opening value;
        place = inl record {
          value = value;
          words = ap (λ n. 0 ∷ n ∷ []) long;
          home = refl;
          list_is = refl;
          opening_is = refl;
          idle = only_one (λ u. u.holding ≡ false) v refl;
        };
        fits = only_one (Fits maker (history value) (opening value)) v (fits-founder maker (history value) (opening value) unnamed);
        apart = λ i j n u w at_i at_j _ _. only_place v i u at_i ∙ sym (only_place v j w at_j);
        named = unnamed_before maker (history value) unnamed;
      }

  -- A second seat comes, which knows as much and has no name.
  pub splits : (id : ℕ) (v : View O E) → Splits (Rule opening history maker) id v v (newcomer v.opening v.seen)
  splits id v s k at =
      let w : View O E = newcomer v.opening v.seen in
      subst (λ views. Rule opening history maker (with_views s (views ++ w ∷ []))) (sym (set_again s.views id v at)) record {
        list = k.list;
        start = k.start;
        place = ⊎_elim
            (λ (h : IsHome opening history maker s k.list k.start).
            inl record {
              value = h.value;
              words = h.words;
              home = h.home;
              list_is = h.list_is;
              opening_is = h.opening_is;
              idle = each_longer (λ u. u.holding ≡ false) s.views w refl h.idle;
            })
            (λ (h : IsOut opening history maker s k.list).
            inr record {
              seat = h.seat;
              view = h.view;
              words = h.words;
              home = h.home;
              at = at_longer s.views (w ∷ []) h.seat h.view h.at;
              holding = h.holding;
              list_is = h.list_is;
              others = λ j u ne there. ⊎_elim (λ (old : get_elem? s.views j ≡ maybe.some u). h.others j u ne old) (λ (new : w ≡ u). ap (λ x. x.holding) (sym new)) (at_snoc s.views w u j there);
            })
            k.place;
        fits = each_longer (Fits maker k.list k.start) s.views w (fits-newcomer maker k.list k.start v (k.fits id v at)) k.fits;
        apart = apart_longer s.views w k.apart refl;
        named = k.named;
      }

  -- An idle seat ends, and another idle one knows what both did.
  pub joins : (id other : ℕ) (v w : View O E) → v.holding ≡ false → w.holding ≡ false → Joins (Rule opening history maker) id v other w (with_sight_of v w) stranger
  joins id other v w idle_v idle_w s k at ne there =
      let at_w : get_elem? s.views other ≡ maybe.some w = sym (set_else s.views id other (with_sight_of v w) ne) ∙ there in
      let both = idle_moves opening history maker s k id v (with_sight_of v w) at idle_v idle_v (fits-joined maker k.list k.start v w (k.fits id v at) (k.fits other w at_w)) (λ n is. is) in
      idle_moves opening history maker (with_views s (set s.views id (with_sight_of v w))) both other w stranger there idle_w refl (fits-stranger maker both.list both.start) (λ n is. absurd cc)
