-- What a form that is read stands for. Source: this project's own.
use Rattle.std.specs.Prelude.{◌≡◌, ℕ, ◌+◌, ◌≤◌, List, [], ◌∷◌, length, Option, Some, None}
use Rattle.std.proofs.Common.{Bor}
use Rattle.clvm_spec.specs.Tree.{Tree}
use Rattle.clvm_spec.specs.Text.{Named, Names}
use Rattle.clvm_spec.specs.Text as text
use Rattle.clvm_tree.specs.Nodes.{tree_at, IsKnown, Grows}
use Rattle.clvm_text.specs.declared.form.Form.{Form}
use Rattle.clvm_text.specs.declared.form.Form.TheVariants as form

abbrev pub formed : List Tree → Form → Named
formed trees (form.Tree node) = Names (tree_at trees node.0)
formed trees (form.Unknown from) = text.Unknown from.now

abbrev pub unknown_of : Form → Option (Bor (List ℕ))
unknown_of (form.Tree node) = None
unknown_of (form.Unknown from) = Some from

abbrev pub IsKnownForm : List Tree → Form → Type 0
IsKnownForm trees (form.Tree node) = IsKnown trees node.0
IsKnownForm trees (form.Unknown from) = Unit {0}

abbrev pub AreKnownForms : List Tree → List Form → Type 0
AreKnownForms trees [] = Unit {0}
AreKnownForms trees (form ∷ forms) = IsKnownForm trees form × AreKnownForms trees forms

-- A call that adds at most one node has given a form, of which this is told.
pub record Makes (old new : List Tree) (made : Form) (told : Named) : Type 0 where
  pub grows : Grows old new
  pub few : length new ≤ length old + 1
  pub known : IsKnownForm new made
  pub stands : formed new made ≡ told
