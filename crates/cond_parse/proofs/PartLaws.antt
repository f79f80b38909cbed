-- What follows each operand of a message.
use Rattle.std.proofs.Common.{ℕ, List, Option, Some}
use Rattle.clvm_spec.specs.Tree.{Tree}
use Rattle.coin_facts.specs.declared.hash32.Hash32.{Hash32}
use Rattle.coin_facts.specs.Atoms.{hash_of, amount_of}
use Rattle.cond_spec.specs.declared.condition.Condition.{Condition}
use Rattle.cond_spec.specs.declared.party.Party.{Party}
use Rattle.cond_spec.specs.Operands.{text_of, operand}
use Rattle.cond_spec.specs.Parties.{names, part, party}

abbrev pub behind_amount : (Party → Condition) → Option Hash32 → Option Hash32 → Option Hash32 → Option ℕ → Tree → Option Condition
behind_amount make id parent puzzle_hash amount rest = Some (make (record { id = id; parent = parent; puzzle_hash = puzzle_hash; amount = amount }))

abbrev pub behind_puzzle_hash : ℕ → (Party → Condition) → Option Hash32 → Option Hash32 → Option Hash32 → Tree → Option Condition
behind_puzzle_hash side make id parent puzzle_hash rest = part (names 1 side) amount_of rest (behind_amount make id parent puzzle_hash)

abbrev pub behind_parent : ℕ → (Party → Condition) → Option Hash32 → Option Hash32 → Tree → Option Condition
behind_parent side make id parent rest = part (names 2 side) hash_of rest (behind_puzzle_hash side make id parent)

abbrev pub behind_id : ℕ → (Party → Condition) → Option Hash32 → Tree → Option Condition
behind_id side make id rest = part (names 4 side) hash_of rest (behind_parent side make id)

abbrev pub behind_text : (ℕ → ℕ) → (ℕ → List ℕ → Party → Condition) → ℕ → List ℕ → Tree → Option Condition
behind_text side make mode text rest = party (side mode) rest (make mode text)

abbrev pub behind_mode : (ℕ → ℕ) → (ℕ → List ℕ → Party → Condition) → ℕ → Tree → Option Condition
behind_mode side make mode rest = operand text_of rest (behind_text side make mode)
