-- How a row of the table writes the columns of the definitions' table. This project's own.
use Rattle.std.specs.Prelude.{ℕ, Option, Some, None}
use Rattle.clvm_spec.specs.declared.operands.Operands.{Operands}
use Rattle.clvm_spec.specs.declared.operands.Operands.TheVariants.{Any, Pairs, Atoms, Numbers, AtomAndNumbers}
use Rattle.case_table.specs.declared.operator_table.TheConstants.{ANY_COUNT, ANY, PAIRS, ATOMS, NUMBERS, ATOM_AND_NUMBERS}

-- the largest count of operands, one number standing for any count
abbrev pub high_code : Option ℕ → ℕ
high_code None = ANY_COUNT
high_code (Some most) = most

abbrev pub kind_code : Operands → ℕ
kind_code Any = ANY
kind_code Pairs = PAIRS
kind_code Atoms = ATOMS
kind_code Numbers = NUMBERS
kind_code AtomAndNumbers = ATOM_AND_NUMBERS
