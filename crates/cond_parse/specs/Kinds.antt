-- What the kind of a row of the table of numbers says of how its operands are read. Source: this project's own.
use Rattle.std.specs.Prelude.{◌≡◌, ℕ, ℤ, List, [], ◌∷◌, Option}
use Rattle.clvm_spec.specs.Tree.{Tree}
use Rattle.case_table.specs.Conditions.{Kind, NoOperand, KeyAndText, HashAndAmount, Amount, Text, Hash, Moment, MessageTo, MessageFrom, ConditionRow}
use Rattle.coin_facts.specs.declared.hash32.Hash32.{Hash32}
use Rattle.coin_facts.specs.Atoms.{hash_of, key_of, amount_of}
use Rattle.cond_spec.specs.declared.condition.Condition.{Condition}
use Rattle.cond_spec.specs.declared.party.Party.{Party}
use Rattle.cond_spec.specs.Operands.{text_of, moment_of, none, one, two}
use Rattle.cond_spec.specs.Parties.{sender_side, receiver_side, message}
use Rattle.cond_spec.specs.ConditionTable.{Row}

abbrev pub HasKind : Kind → (Tree → Option Condition) → Type 0
HasKind NoOperand read = (make : Condition) × (read ≡ none make)
HasKind KeyAndText read = (make : List ℕ → List ℕ → Condition) × (read ≡ two key_of text_of make)
HasKind HashAndAmount read = (make : Hash32 → ℕ → Condition) × (read ≡ two hash_of amount_of make)
HasKind Amount read = (make : ℕ → Condition) × (read ≡ one amount_of make)
HasKind Text read = (make : List ℕ → Condition) × (read ≡ one text_of make)
HasKind Hash read = (make : Hash32 → Condition) × (read ≡ one hash_of make)
HasKind Moment read = (make : ℤ → Condition) × (read ≡ one moment_of make)
HasKind MessageTo read = (make : ℕ → List ℕ → Party → Condition) × (read ≡ message receiver_side make)
HasKind MessageFrom read = (make : ℕ → List ℕ → Party → Condition) × (read ≡ message sender_side make)

-- row by row
abbrev pub HaveKinds : List ConditionRow → List Row → Type 0
HaveKinds [] [] = Unit {0}
HaveKinds (number ∷ numbers) (row ∷ rows) = HasKind number.kind row.read × HaveKinds numbers rows
HaveKinds [] (row ∷ rows) = ⊥
HaveKinds (number ∷ numbers) [] = ⊥
