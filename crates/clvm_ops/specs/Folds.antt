-- How the program calculates with any count of numbers. This project's own.
use Rattle.std.specs.Prelude.{ℤ, List, map}
use Rattle.clvm_spec.specs.Tree.{Tree}
use Rattle.clvm_spec.specs.Numbers.{number}
use Rattle.clvm_spec.specs.Operators.{Bitwise, conjunction, disjunction, exclusion}
use Rattle.clvm_tree.specs.declared.Node.{Node}
use Rattle.clvm_ops.specs.OperandAtoms.{atoms_at}
use Rattle.clvm_ops.specs.declared.folds.BitStep.{BitStep}
use Rattle.clvm_ops.specs.declared.folds.BitStep.TheVariants.{And, Or, Xor}

abbrev pub numbers_at : List Tree → List Node → List ℤ
numbers_at trees nodes = map number (atoms_at trees nodes)

abbrev pub bitwise_of : BitStep → Bitwise
bitwise_of And = conjunction
bitwise_of Or = disjunction
bitwise_of Xor = exclusion
