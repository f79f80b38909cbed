use Rattle.std.proofs.Common.{◌≡◌, ◌+◌, ◌-◌, ◌*◌, ◌≤◌, ◌++◌, vec_len}
use Rattle.std.specs.Prelude.{string_bytes, string_len}
use Rattle.clvm_spec.specs.Text.{printed}
use Rattle.clvm_tree.specs.Nodes.{tree_at}
use Rattle.clvm_text.proofs.PrintLaws.{texts, AreKnown}
use Rattle.clvm_text.proofs.printer.print.Given as goal

abbrev pub invariant-pending : goal.invariant-pending
invariant-pending l = record {
  known : AreKnown l.trees l.pending.items;
  within : string_len l.text ≤ l.most;
  written : string_bytes l.text ++ texts l.trees l.pending.items ≡ printed (tree_at l.trees l.fn.node.0);
}

abbrev pub decreases-pending : goal.decreases-pending
decreases-pending l = 2 * (l.most + 1 - string_len l.text) + vec_len l.pending
