use Rattle.std.proofs.Common.{Ok, ap, sym, ◌∙◌, arith}
use Rattle.lisp_syntax.specs.declared.reader.Task.TheVariants.{Reads, Puts}
use Rattle.lisp_syntax.specs.Marks.{marks_of}
use Rattle.lisp_syntax.specs.Shapes.{◌before◌, shape_written, shape_left}
use Rattle.lisp_syntax.specs.Tasks.{tasks_written, tasks_left}
use Rattle.lisp_syntax.proofs.TaskLaws.{left_push, one_put, two_put, three_put}
use Rattle.lisp_syntax.proofs.reader.take_up.Goals as goal

pub returns-in_ok-push-in-One-2-clause-same : goal.returns-in_ok-push-in-One-2-clause-same
returns-in_ok-push-in-One-2-clause-same c = λ scope.
    one_put scope c.args.nodes.now.items c.args.tasks.now.items c.push-in-One.new.self.items c.push-in-One-2.new.self.items c.in-One.part c.in-One.node
    c.in_ok-push-in-One.ensures.items c.in_ok-push-in-One-2.ensures.items
    ∙ ap (λ s. Ok (marks_of c.args.nodes.now.items) before shape_written scope s before tasks_written scope c.args.tasks.now.items) (sym c.in-One.is)

pub returns-in_ok-push-in-One-2-clause-less : goal.returns-in_ok-push-in-One-2-clause-less
returns-in_ok-push-in-One-2-clause-less c =
    omega (
      arith,
      ap tasks_left c.in_ok-push-in-One-2.ensures.items,
      left_push c.push-in-One.new.self.items (Reads c.in-One.part),
      ap tasks_left c.in_ok-push-in-One.ensures.items,
      left_push c.args.tasks.now.items (Puts c.in-One.node),
      ap shape_left c.in-One.is,
    )

pub returns-in_ok-push-in-Two-3-clause-same : goal.returns-in_ok-push-in-Two-3-clause-same
returns-in_ok-push-in-Two-3-clause-same c = λ scope.
    two_put scope c.args.nodes.now.items c.args.tasks.now.items c.push-in-Two.new.self.items c.push-in-Two-2.new.self.items c.push-in-Two-3.new.self.items c.in-Two.first c.in-Two.second c.in-Two.node
    c.in_ok-push-in-Two.ensures.items c.in_ok-push-in-Two-2.ensures.items c.in_ok-push-in-Two-3.ensures.items
    ∙ ap (λ s. Ok (marks_of c.args.nodes.now.items) before shape_written scope s before tasks_written scope c.args.tasks.now.items) (sym c.in-Two.is)

pub returns-in_ok-push-in-Two-3-clause-less : goal.returns-in_ok-push-in-Two-3-clause-less
returns-in_ok-push-in-Two-3-clause-less c =
    omega (
      arith,
      ap tasks_left c.in_ok-push-in-Two-3.ensures.items,
      left_push c.push-in-Two-2.new.self.items (Reads c.in-Two.first),
      ap tasks_left c.in_ok-push-in-Two-2.ensures.items,
      left_push c.push-in-Two.new.self.items (Reads c.in-Two.second),
      ap tasks_left c.in_ok-push-in-Two.ensures.items,
      left_push c.args.tasks.now.items (Puts c.in-Two.node),
      ap shape_left c.in-Two.is,
    )

pub returns-in_ok-push-in-Three-4-clause-same : goal.returns-in_ok-push-in-Three-4-clause-same
returns-in_ok-push-in-Three-4-clause-same c = λ scope.
    three_put scope c.args.nodes.now.items c.args.tasks.now.items c.push-in-Three.new.self.items c.push-in-Three-2.new.self.items c.push-in-Three-3.new.self.items c.push-in-Three-4.new.self.items
    c.in-Three.first c.in-Three.second c.in-Three.third c.in-Three.node
    c.in_ok-push-in-Three.ensures.items c.in_ok-push-in-Three-2.ensures.items c.in_ok-push-in-Three-3.ensures.items c.in_ok-push-in-Three-4.ensures.items
    ∙ ap (λ s. Ok (marks_of c.args.nodes.now.items) before shape_written scope s before tasks_written scope c.args.tasks.now.items) (sym c.in-Three.is)

pub returns-in_ok-push-in-Three-4-clause-less : goal.returns-in_ok-push-in-Three-4-clause-less
returns-in_ok-push-in-Three-4-clause-less c =
    omega (
      arith,
      ap tasks_left c.in_ok-push-in-Three-4.ensures.items,
      left_push c.push-in-Three-3.new.self.items (Reads c.in-Three.first),
      ap tasks_left c.in_ok-push-in-Three-3.ensures.items,
      left_push c.push-in-Three-2.new.self.items (Reads c.in-Three.second),
      ap tasks_left c.in_ok-push-in-Three-2.ensures.items,
      left_push c.push-in-Three.new.self.items (Reads c.in-Three.third),
      ap tasks_left c.in_ok-push-in-Three.ensures.items,
      left_push c.args.tasks.now.items (Puts c.in-Three.node),
      ap shape_left c.in-Three.is,
    )
