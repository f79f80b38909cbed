-- The conditions that are judged so far: created coins. Source: Chia documentation of conditions; what is read of operands
-- is this project's own.
use Rattle.std.specs.Prelude.{ℕ, List, Option, None, option_map, option_and_then, if◌then◌else◌}
use Rattle.std.specs.List.{sum_by}
use Rattle.clvm_spec.specs.Tree.{Tree, Atom, Pair}
use Rattle.clvm_spec.specs.ProperList.{elements}
use Rattle.clvm_spec.specs.Evaluation.{is_code}
use Rattle.coin_facts.specs.declared.hash32.Hash32.{Hash32}
use Rattle.coin_facts.specs.Steps.{all_of}
use Rattle.coin_facts.specs.Atoms.{hash_of, amount_of}
use Rattle.cond_spec.specs.declared.codes.TheConstants.{CREATE_COIN}
use Rattle.cond_spec.specs.declared.costs.TheConstants.{CREATE_COIN_COST}

pub data Condition : Type 0 where
  -- makes a coin of this puzzle hash and amount
  CreateCoin : Hash32 → ℕ → Condition

-- the operands of 51, CREATE_COIN
abbrev pub create_coin : Tree → Option Condition
create_coin (Pair hash (Pair amount rest)) = option_and_then (λ h. option_map (λ n. CreateCoin h n) (amount_of amount)) (hash_of hash)
create_coin (Pair hash (Atom bytes)) = None
create_coin (Atom bytes) = None

-- No other condition is read so far.
abbrev pub condition_of : Tree → Option Condition
condition_of (Pair code operands) = if is_code CREATE_COIN code then create_coin operands else None
condition_of (Atom bytes) = None

-- the conditions of a proper list, from the first
abbrev pub conditions_of : Tree → Option (List Condition)
conditions_of value = option_and_then (all_of condition_of) (elements value)

abbrev pub cost_of_condition : Condition → ℕ
cost_of_condition (CreateCoin hash amount) = CREATE_COIN_COST

abbrev pub cost_of_conditions : List Condition → ℕ
cost_of_conditions conditions = sum_by cost_of_condition conditions
