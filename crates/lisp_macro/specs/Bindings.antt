-- What stands for the first parameter of a name, found in one walk down the parameters and the operands. This project's own.
use Rattle.std.specs.Prelude.{ℕ, List, Option, Some, None, option_map, option_and_then, bytes_eq, if◌then◌else◌}
use Rattle.std.specs.Borrow.{Bor}
use Rattle.lisp_spec.specs.Forms.{Form, Atom, Symbol, Pair}
use Rattle.lisp_macro.specs.Values.{first_part, rest_part}

-- a form that is lent, or none
abbrev pub part_of : Option (Bor Form) → Option Form
part_of operand = option_map (λ (o : Bor Form). o.now) operand

abbrev pub or_else : {A : Type 0} → Option A → Option A → Option A
or_else (Some a) other = Some a
or_else None other = other

-- the part of the operands at the parameter's path, if there is such a parameter; there is no part where a step leads into what is no pair
abbrev pub named_in : List ℕ → Form → Option Form → Option (Option Form)
named_in name (Atom at bytes) operand = None
named_in name (Symbol at other) operand = if bytes_eq other name then Some operand else None
named_in name (Pair at first rest) operand = or_else (named_in name first (option_and_then first_part operand)) (named_in name rest (option_and_then rest_part operand))
