-- The checks one after the other are the checks in parts.
use Rattle.std.proofs.Common.{◌≡◌, ℕ, Bool, true, false, ◌&&◌, not, Option, Some, None, Result, Ok, Err, refl, ap, sym, ◌∙◌}
use Rattle.std.specs.List.{list_any}
use Rattle.clvm_spec.specs.Spelled.{spelled_tree}
use Rattle.coin_facts.specs.declared.hash32.Hash32.{Hash32}
use Rattle.block_spec.specs.declared.spend.Spend.{Spend}
use Rattle.judge_spec.specs.Facts.{run_of}
use Rattle.pool_spec.specs.Shape.{where_found, where_held, conditions_in, makes_itself, Layer, layer_of, is_top_layer, is_struct_of, Solution, solution_of, is_of_inner, is_odd, is_child, binds_to_coin, Shape, shape_of}
use Rattle.singleton_forward.specs.Checks.{where_ok, layer_checked, solution_checked, proof_checked, run_checked, outlined_by, shaped_by, shaped}

-- ---- parts of a list of checks

after_ok : {A B C : Type 0} (found : Result A ℕ) (go : A → Result B ℕ) (on : B → Result C ℕ) → where_ok (where_ok found go) on ≡ where_ok found (λ x. where_ok (go x) on)
after_ok (Ok found) go on = refl
after_ok (Err number) go on = refl

found_ok : {A B : Type 0} (number : ℕ) (found : Option A) (go : A → Result B ℕ) → where_found number found go ≡ where_ok (where_found number found Ok) go
found_ok number (Some found) go = refl
found_ok number None go = refl

two_held : {A B : Type 0} (i j : ℕ) (b c : Bool) (found : A) (go : A → Result B ℕ) → where_held i b (where_held j c (go found)) ≡ where_ok (where_held i b (where_held j c (Ok found))) go
two_held i j true true found go = refl
two_held i j true false found go = refl
two_held i j false c found go = refl

three_held : {A B : Type 0} (i j k : ℕ) (b c d : Bool) (found : A) (go : A → Result B ℕ)
    → where_held i b (where_held j c (where_held k d (go found))) ≡ where_ok (where_held i b (where_held j c (where_held k d (Ok found)))) go
three_held i j k true true true found go = refl
three_held i j k true true false found go = refl
three_held i j k true false d found go = refl
three_held i j k false c d found go = refl

layer_held : {B : Type 0} (singleton : Hash32) (found : Option Layer) (go : Layer → Result B ℕ)
    → where_found 1 found (λ layer. where_held 2 (is_top_layer singleton layer) (where_held 3 (is_struct_of singleton layer.singleton_struct) (go layer)))
    ≡ where_ok (where_found 1 found (λ layer. where_held 2 (is_top_layer singleton layer) (where_held 3 (is_struct_of singleton layer.singleton_struct) (Ok layer)))) go
layer_held singleton (Some layer) go = two_held 2 3 (is_top_layer singleton layer) (is_struct_of singleton layer.singleton_struct) layer go
layer_held singleton None go = refl

-- ---- the shape

by_conditions : ℕ → Spend → Solution → Result Shape ℕ
by_conditions limit spend solution =
    where_found 8 (conditions_in (run_of limit spend)) (λ conditions.
    where_held 8 (makes_itself spend conditions) (where_held 9 (not (list_any binds_to_coin conditions)) (Ok (record { spend = spend; solution = solution }))))

conditions-held : (limit : ℕ) (spend : Spend) (solution : Solution) → by_conditions limit spend solution ≡ shaped_by spend (run_of limit spend) solution
unfolding by_conditions
conditions-held limit spend solution =
    found_ok 8 (conditions_in (run_of limit spend)) _
    ∙ (λ i. where_ok (run_checked (run_of limit spend)) (λ conditions.
    two_held 8 9 (makes_itself spend conditions) (not (list_any binds_to_coin conditions)) conditions (λ conditions. Ok (record { spend = spend; solution = solution })) i))

proof-held : (limit : ℕ) (spend : Spend) (layer : Layer) (solution : Solution)
    → where_held 5 (is_of_inner layer solution.proof) (where_held 6 (is_odd spend.coin.amount && is_odd solution.proof.amount) (where_held 7 (is_child spend.coin solution.proof) (by_conditions limit spend solution)))
    ≡ where_ok (where_ok (proof_checked spend.coin layer solution.proof) (λ proof. Ok solution)) (shaped_by spend (run_of limit spend))
proof-held limit spend layer solution =
    three_held 5 6 7 (is_of_inner layer solution.proof) (is_odd spend.coin.amount && is_odd solution.proof.amount) (is_child spend.coin solution.proof) solution.proof (λ proof. by_conditions limit spend solution)
    ∙ ap (λ r. where_ok (proof_checked spend.coin layer solution.proof) (λ proof. r)) (conditions-held limit spend solution)
    ∙ sym (after_ok (proof_checked spend.coin layer solution.proof) (λ proof. Ok solution) (shaped_by spend (run_of limit spend)))

solution-held : (limit : ℕ) (spend : Spend) (layer : Layer)
    → where_found 4 (solution_of spend) (λ solution. where_held 5 (is_of_inner layer solution.proof) (where_held 6 (is_odd spend.coin.amount && is_odd solution.proof.amount) (where_held 7 (is_child spend.coin solution.proof) (by_conditions limit spend solution))))
    ≡ where_ok (outlined_by spend layer) (shaped_by spend (run_of limit spend))
solution-held limit spend layer =
    (λ i. where_found 4 (solution_of spend) (λ solution. proof-held limit spend layer solution i))
    ∙ found_ok 4 (solution_of spend) _
    ∙ sym (after_ok (solution_checked spend) (λ solution. where_ok (proof_checked spend.coin layer solution.proof) (λ proof. Ok solution)) (shaped_by spend (run_of limit spend)))

pub shaped-is : (limit : ℕ) (singleton : Hash32) (spend : Spend) → shape_of limit singleton spend ≡ shaped limit singleton spend
unfolding shape_of by_conditions
shaped-is limit singleton spend =
    layer_held singleton (layer_of (spelled_tree spend.puzzle)) _
    ∙ (λ i. where_ok (layer_checked singleton (spelled_tree spend.puzzle)) (λ layer. solution-held limit spend layer i))
    ∙ sym (after_ok (layer_checked singleton (spelled_tree spend.puzzle)) (outlined_by spend) (shaped_by spend (run_of limit spend)))
