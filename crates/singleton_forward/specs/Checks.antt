-- The nine checks of the Forward shape in the parts in which they are asked. Source: this project's own.
use Rattle.std.specs.Prelude.{ℕ, ◌&&◌, List, not, Result, Ok, Err}
use Rattle.std.specs.List.{list_any}
use Rattle.clvm_spec.specs.Tree.{Tree}
use Rattle.clvm_spec.specs.Outcomes.{Outcome}
use Rattle.clvm_spec.specs.Spelled.{spelled_tree}
use Rattle.coin_facts.specs.declared.hash32.Hash32.{Hash32}
use Rattle.coin_facts.specs.declared.coin.Coin.{Coin}
use Rattle.block_spec.specs.declared.spend.Spend.{Spend}
use Rattle.cond_spec.specs.declared.condition.Condition.{Condition}
use Rattle.judge_spec.specs.Facts.{run_of}
use Rattle.pool_spec.specs.Shape.{where_found, where_held, conditions_in, Layer, layer_of, is_top_layer, is_struct_of, Proof, Solution, solution_of, is_of_inner, is_odd, is_child, binds_to_coin, Shape}
use Rattle.singleton_forward.specs.Outputs.{is_made_again}

-- goes on with what the earlier checks find
abbrev pub where_ok : {A B : Type 0} → Result A ℕ → (A → Result B ℕ) → Result B ℕ
where_ok (Ok found) go = go found
where_ok (Err number) go = Err number

-- checks 1 to 3
abbrev pub layer_checked : Hash32 → Tree → Result Layer ℕ
layer_checked singleton puzzle =
    where_found 1 (layer_of puzzle) (λ layer.
    where_held 2 (is_top_layer singleton layer) (
    where_held 3 (is_struct_of singleton layer.singleton_struct) (Ok layer)))

-- check 4
abbrev pub solution_checked : Spend → Result Solution ℕ
solution_checked spend = where_found 4 (solution_of spend) Ok

-- checks 5 to 7
abbrev pub proof_checked : Coin → Layer → Proof → Result Proof ℕ
proof_checked coin layer proof =
    where_held 5 (is_of_inner layer proof) (
    where_held 6 (is_odd coin.amount && is_odd proof.amount) (
    where_held 7 (is_child coin proof) (Ok proof)))

-- the first half of check 8
abbrev pub run_checked : Outcome → Result (List Condition) ℕ
run_checked outcome = where_found 8 (conditions_in outcome) Ok

-- its second half, and check 9
abbrev pub conditions_checked : Coin → List Condition → Result (List Condition) ℕ
conditions_checked coin conditions =
    where_held 8 (is_made_again coin conditions) (where_held 9 (not (list_any binds_to_coin conditions)) (Ok conditions))

-- checks 4 to 7, of a spend whose puzzle has this layer
abbrev pub outlined_by : Spend → Layer → Result Solution ℕ
outlined_by spend layer =
    where_ok (solution_checked spend) (λ solution. where_ok (proof_checked spend.coin layer solution.proof) (λ proof. Ok solution))

-- checks 1 to 7
abbrev pub outlined : Hash32 → Spend → Result Solution ℕ
outlined singleton spend = where_ok (layer_checked singleton (spelled_tree spend.puzzle)) (outlined_by spend)

-- checks 8 and 9
abbrev pub shaped_by : Spend → Outcome → Solution → Result Shape ℕ
shaped_by spend outcome solution =
    where_ok (run_checked outcome) (λ conditions.
    where_ok (conditions_checked spend.coin conditions) (λ conditions. Ok (record { spend = spend; solution = solution })))

-- all nine
abbrev pub shaped : ℕ → Hash32 → Spend → Result Shape ℕ
shaped limit singleton spend = where_ok (outlined singleton spend) (shaped_by spend (run_of limit spend))
