use Rattle.std.proofs.Common.{◌≡◌, ◌+◌, ◌≤◌, length, map, take}
use Rattle.std.specs.List.{sum_by}
use Rattle.clvm_tree.specs.Nodes.{AreKnown, Grows}
use Rattle.clvm_tree.specs.Operators.{trees_at}
use Rattle.clvm_spec.specs.Spelled.{spelled_tree}
use Rattle.tool_curry.proofs.line.read_arguments.Given as goal

abbrev pub invariant-loop-word : goal.invariant-loop-word
invariant-loop-word l = record {
  grows : Grows l.fn.trees l.trees;
  few : length l.trees ≤ length l.fn.trees + sum_by length (take l.word-index l.words);
  known : AreKnown l.trees l.nodes.items;
  stand : trees_at l.trees l.nodes.items ≡ map spelled_tree (take l.word-index l.words);
}
