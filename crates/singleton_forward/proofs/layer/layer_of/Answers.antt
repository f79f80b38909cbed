use Rattle.std.proofs.Common.{sym, arith}
use Rattle.clvm_tree.specs.Nodes.{tree_at}
use Rattle.singleton_forward.proofs.LayerLaws.{no-argument, one-argument, two-arguments, more-arguments}
use Rattle.singleton_forward.proofs.layer.layer_of.Goals as goal

pub returns-in_err-singleton_struct : goal.returns-in_err-singleton_struct
returns-in_err-singleton_struct c =
    let trees = c.args.trees.now in
    rw c.from_residual-in_err-singleton_struct.ensures
    (no-argument (tree_at trees c.args.puzzle.0) (tree_at trees c.in_ok-program.program.0) (tree_at trees c.in_ok-program.environment.0)
    c.in_ok-program.ensures.parts c.in_err-singleton_struct.ensures)

pub returns-in_err-inner : goal.returns-in_err-inner
returns-in_err-inner c =
    let trees = c.args.trees.now in
    rw c.from_residual-in_err-inner.ensures
    (one-argument (tree_at trees c.args.puzzle.0) (tree_at trees c.in_ok-program.program.0) (tree_at trees c.in_ok-program.environment.0)
    (tree_at trees c.in_ok-singleton_struct.singleton_struct.0) (tree_at trees c.in_ok-singleton_struct.behind.0)
    c.in_ok-program.ensures.parts c.in_ok-singleton_struct.ensures.parts c.in_err-inner.ensures)

pub returns-then-is_code : goal.returns-then-is_code
returns-then-is_code c =
    let trees = c.args.trees.now in
    let program = c.in_ok-program.ensures in
    let struct = c.in_ok-singleton_struct.ensures in
    let inner = c.in_ok-inner.ensures in
    record {
      program_known = omega (arith, program.quoted_earlier, c.requires);
      struct_known = omega (arith, struct.quoted_earlier, program.last_earlier, c.requires);
      inner_known = omega (arith, inner.quoted_earlier, struct.last_earlier, program.last_earlier, c.requires);
      says = two-arguments (tree_at trees c.args.puzzle.0) (tree_at trees c.in_ok-program.program.0) (tree_at trees c.in_ok-program.environment.0)
          (tree_at trees c.in_ok-singleton_struct.singleton_struct.0) (tree_at trees c.in_ok-singleton_struct.behind.0)
          (tree_at trees c.in_ok-inner.inner.0) (tree_at trees c.in_ok-inner.end.0)
          program.parts struct.parts inner.parts (sym c.if-is_code.ensures);
    }

pub returns-else-is_code : goal.returns-else-is_code
returns-else-is_code c =
    let trees = c.args.trees.now in
    more-arguments (tree_at trees c.args.puzzle.0) (tree_at trees c.in_ok-program.program.0) (tree_at trees c.in_ok-program.environment.0)
    (tree_at trees c.in_ok-singleton_struct.singleton_struct.0) (tree_at trees c.in_ok-singleton_struct.behind.0)
    (tree_at trees c.in_ok-inner.inner.0) (tree_at trees c.in_ok-inner.end.0)
    c.in_ok-program.ensures.parts c.in_ok-singleton_struct.ensures.parts c.in_ok-inner.ensures.parts (sym c.if-is_code.ensures)
