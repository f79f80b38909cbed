use Rattle.std.proofs.Common.{◌≡◌, ◌+◌, ◌≤◌, length}
use Rattle.clvm_tree.specs.Nodes.{Grows}
use Rattle.open_lists.specs.Lists.{folded, whole}
use Rattle.clvm_text.specs.Forms.{formed, IsKnownForm, AreKnownForms}
use Rattle.clvm_text.specs.Parsing.{reading}
use Rattle.clvm_text.proofs.reader.whole.Given as goal

abbrev pub invariant-elements : goal.invariant-elements
invariant-elements l = record {
  grows : Grows l.fn.trees l.trees;
  few : length l.trees + length l.forms.items ≤ length l.fn.trees + length l.fn.list.forms.items;
  known : IsKnownForm l.trees l.rest;
  others : AreKnownForms l.fn.trees l.forms.items;
  same : folded (reading l.fn.trees) l.fn.list.place l.forms.items (formed l.trees l.rest) ≡ whole (reading l.fn.trees) l.fn.list;
}

abbrev pub decreases-elements : goal.decreases-elements
decreases-elements l = length l.forms.items
