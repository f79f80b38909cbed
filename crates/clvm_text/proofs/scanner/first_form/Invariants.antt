use Rattle.std.proofs.Common.{◌≡◌, ◌+◌, ◌*◌, ◌≤◌, length}
use Rattle.clvm_spec.specs.Tokens.{token_of}
use Rattle.clvm_spec.specs.Text.{form_of}
use Rattle.clvm_tree.specs.Nodes.{Grows}
use Rattle.open_lists.specs.Lists.{told}
use Rattle.open_lists.specs.Held.{held}
use Rattle.clvm_text.specs.Forms.{AreKnownForms}
use Rattle.clvm_text.specs.Parsing.{reading}
use Rattle.clvm_text.proofs.scanner.first_form.Given as goal

abbrev pub invariant-tokens : goal.invariant-tokens
invariant-tokens l = record {
  grows : Grows l.fn.trees l.trees;
  count : length l.trees + length (held l.lists.lists.items) + 2 * length l.rest ≤ length l.fn.trees + 2 * length l.text;
  known : AreKnownForms l.trees (held l.lists.lists.items);
  same : form_of l.text ≡ told (reading l.trees) 0 l.lists.lists.items (token_of l.rest);
}

abbrev pub decreases-tokens : goal.decreases-tokens
decreases-tokens l = length l.rest
