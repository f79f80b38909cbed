-- The conditions that the language knows by name are those that spends have: a law of the definitions. Source: Chia documentation
-- of conditions.
use Rattle.std.specs.Prelude.{◌≡◌, ℕ, List, map}
use Rattle.cond_spec.specs.ConditionTable.{rows}
use Rattle.lisp_spec.specs.BuiltIns.{condition_codes}

abbrev pub names_of_language : List (List ℕ × ℕ)
names_of_language = map {B = List ℕ × ℕ} (λ c. (c.name, c.code)) condition_codes

abbrev pub names_of_table : List (List ℕ × ℕ)
names_of_table = map {B = List ℕ × ℕ} (λ row. (row.name, row.code)) rows

-- The text that a module includes has the names and codes of the table of conditions, in its order.
abbrev pub NamesAreTheTables : Type 0
NamesAreTheTables = names_of_language ≡ names_of_table
