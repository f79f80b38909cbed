use Rattle.std.proofs.Common.{arith}
use Rattle.lisp_compile.proofs.PathLaws.{below_seven}
use Rattle.lisp_compile.proofs.path.number.Goals as goal

pub overflow_mul-number : goal.overflow_mul-number
overflow_mul-number c = let h = below_seven c.args.sides.now c.sides.at c.requires (omega (arith, c.sides-test.true)) in omega (arith, c.sides.invariant.number, h)

pub overflow_mul-number-in-Rest : goal.overflow_mul-number-in-Rest
overflow_mul-number-in-Rest c = let h = below_seven c.args.sides.now c.sides.at c.requires (omega (arith, c.sides-test.true)) in omega (arith, c.sides.invariant.number, h)

pub overflow_add-number : goal.overflow_add-number
overflow_add-number c = let h = below_seven c.args.sides.now c.sides.at c.requires (omega (arith, c.sides-test.true)) in omega (arith, c.sides.invariant.number, h)
