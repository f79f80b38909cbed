-- One more pair of which a part is built.
use Rattle.std.proofs.Common.{◌≡◌, ◌+◌, List, [], ◌∷◌, ◌++◌, refl, ap, arith}
use Rattle.lisp_read.specs.Forms.{Form}
use Rattle.lisp_read.specs.declared.copies.Level.{Level}
use Rattle.lisp_read.specs.Copies.{plugged, plug, level_left, left}

module _ {S T : Type 0} (seen : S → Form) where
  pub plug_push : (built : T → Form) (levels : List (Level S T)) (level : Level S T) (form : Form) → plug seen built (levels ++ level ∷ []) form ≡ plug seen built levels (plugged seen built level form)
  plug_push built [] level form = refl
  plug_push built (l ∷ levels) level form = ap (plugged seen built l) (plug_push built levels level form)

  pub left_push : (levels : List (Level S T)) (level : Level S T) → left seen (levels ++ level ∷ []) ≡ left seen levels + level_left seen level
  left_push [] level = omega arith
  left_push (l ∷ levels) level = omega (arith, left_push levels level)
