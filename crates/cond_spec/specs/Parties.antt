-- The sides of messages. The high three bits of a mode are the sender's, the low three the receiver's. Of a side 7 means the
-- id of its coin alone; else 4 its parent, 2 its puzzle hash and 1 its amount, in this order. Source: CHIP-0025.
use Rattle.std.specs.Prelude.{ℕ, ◌/◌, ◌%◌, ◌==◌, ◌&&◌, List, Bool, not, Option, Some, None, if◌then◌else◌}
use Rattle.clvm_spec.specs.Tree.{Tree}
use Rattle.coin_facts.specs.declared.coin.Coin.{Coin}
use Rattle.coin_facts.specs.CoinId.{coin_id}
use Rattle.coin_facts.specs.Steps.{when}
use Rattle.coin_facts.specs.Atoms.{hash_of, amount_of}
use Rattle.cond_spec.specs.declared.condition.Condition.{Condition}
use Rattle.cond_spec.specs.declared.party.Party.{Party}
use Rattle.cond_spec.specs.Operands.{text_of, mode_of, operand}

abbrev pub sender_side : ℕ → ℕ
sender_side mode = mode / 8

abbrev pub receiver_side : ℕ → ℕ
receiver_side mode = mode % 8

abbrev pub is_by_id : ℕ → Bool
is_by_id side = side == 7

abbrev pub names : ℕ → ℕ → Bool
names bit side = not (is_by_id side) && (side / bit % 2 == 1)

-- what a side tells of its own coin
abbrev pub party_of : ℕ → Coin → Party
party_of side coin = record {
  id = when (is_by_id side) (coin_id coin);
  parent = when (names 4 side) coin.parent;
  puzzle_hash = when (names 2 side) coin.puzzle_hash;
  amount = when (names 1 side) coin.amount;
}

-- goes on with an operand where the side names it, else with the same operands
abbrev pub part : {A : Type 0} → Bool → (Tree → Option A) → Tree → (Option A → Tree → Option Condition) → Option Condition
part named form operands next = if named then operand form operands (λ value rest. next (Some value) rest) else next None operands

-- what operands tell of the other side
abbrev pub party : ℕ → Tree → (Party → Condition) → Option Condition
party side operands make =
    part (is_by_id side) hash_of operands (λ id rest.
    part (names 4 side) hash_of rest (λ parent rest.
    part (names 2 side) hash_of rest (λ puzzle_hash rest.
    part (names 1 side) amount_of rest (λ amount rest.
    Some (make (record { id = id; parent = parent; puzzle_hash = puzzle_hash; amount = amount }))))))

-- mode, text, and the parts of the other side
abbrev pub message : (ℕ → ℕ) → (ℕ → List ℕ → Party → Condition) → Tree → Option Condition
message side make operands =
    operand mode_of operands (λ mode rest. operand text_of rest (λ text parts. party (side mode) parts (make mode text)))
