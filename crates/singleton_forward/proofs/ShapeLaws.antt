-- The shape of a spend from its checks in parts.
use Rattle.std.proofs.Common.{◌≡◌, ℕ, List, Option, Some, None, Result, Ok, Err, IsTrue, refl, ap, sym, ◌∙◌, subst}
use Rattle.std.specs.Prelude.{is_some}
use Rattle.clvm_spec.specs.Tree.{Tree}
use Rattle.clvm_spec.specs.Evaluation.{run_outcome, fuel_of}
use Rattle.clvm_spec.specs.Spelled.{spelled_tree}
use Rattle.clvm_tree.specs.Nodes.{Grows}
use Rattle.clvm_tree.proofs.NodeLaws.{stays}
use Rattle.coin_facts.specs.declared.hash32.Hash32.{Hash32}
use Rattle.block_spec.specs.declared.spend.Spend.{Spend}
use Rattle.cond_spec.specs.declared.condition.Condition.{Condition}
use Rattle.judge_spec.specs.Facts.{run_of}
use Rattle.pool_spec.specs.Shape.{where_found, where_held, Layer, layer_of, is_top_layer, is_struct_of, Proof, Solution, solution_of, shape_of}
use Rattle.singleton_forward.specs.declared.fault.ShapeFault.{ShapeFault}
use Rattle.singleton_forward.specs.declared.fault.ShapeFault.TheVariants.{Broken, OutOfMemory}
use Rattle.singleton_forward.specs.declared.layer.Layer as nodes
use Rattle.singleton_forward.specs.declared.solution.Proof as found
use Rattle.singleton_forward.specs.Checks.{where_ok, layer_checked, solution_checked, proof_checked, run_checked, conditions_checked, outlined_by, outlined, shaped_by, shaped}
use Rattle.singleton_forward.specs.Faults.{IsBroken}
use Rattle.singleton_forward.specs.Layers.{layer_at, IsLayerFound}
use Rattle.singleton_forward.specs.Solutions.{with_last}
use Rattle.singleton_forward.specs.Shapes.{last_in, shape_seen}
use Rattle.singleton_forward.proofs.CheckLaws.{shaped-is}

-- ---- faults

-- What is broken in a part is broken in all.
broken_on : {A B : Type 0} (part : Result A ℕ) (go : A → Result B ℕ) (fault : ShapeFault) → IsBroken part fault → IsBroken (where_ok part go) fault
broken_on part go (Broken number) e = ap (λ r. where_ok r go) e
broken_on part go OutOfMemory e = tt

broken_after : {A B : Type 0} (part : Result A ℕ) (value : A) (go : A → Result B ℕ) (fault : ShapeFault) → part ≡ Ok value → IsBroken (go value) fault → IsBroken (where_ok part go) fault
broken_after part value go (Broken number) is e = ap (λ r. where_ok r go) is ∙ e
broken_after part value go OutOfMemory is e = tt

broken_same : {A : Type 0} (a b : Result A ℕ) (fault : ShapeFault) → a ≡ b → IsBroken b fault → IsBroken a fault
broken_same a b (Broken number) same e = same ∙ e
broken_same a b OutOfMemory same e = tt

-- ---- checks 1 to 7

-- The layer of nodes stands.
pub layer-stays : (old new : List Tree) (checked : Result Layer ℕ) (layer : nodes.Layer) → Grows old new → IsLayerFound old checked layer → checked ≡ Ok (layer_at new layer)
layer-stays old new checked layer grows is =
    let program = sym (stays old new layer.program.0 grows is.program_known) in
    let struct = sym (stays old new layer.singleton_struct.0 grows is.struct_known) in
    let inner = sym (stays old new layer.inner.0 grows is.inner_known) in
    is.says ∙ (λ i. Ok (record { program = program i; singleton_struct = struct i; inner = inner i }))

pub layer-broken : (singleton : Hash32) (spend : Spend) (puzzle : Tree) (fault : ShapeFault) → puzzle ≡ spelled_tree spend.puzzle → IsBroken (layer_checked singleton puzzle) fault → IsBroken (outlined singleton spend) fault
layer-broken singleton spend puzzle fault same broken =
    broken_on (layer_checked singleton (spelled_tree spend.puzzle)) (outlined_by spend) fault (subst (λ tree. IsBroken (layer_checked singleton tree) fault) same broken)

layer_ok : (singleton : Hash32) (spend : Spend) (puzzle : Tree) (layer : Layer) → puzzle ≡ spelled_tree spend.puzzle → layer_checked singleton puzzle ≡ Ok layer → layer_checked singleton (spelled_tree spend.puzzle) ≡ Ok layer
layer_ok singleton spend puzzle layer same e = ap (layer_checked singleton) (sym same) ∙ e

pub solution-broken : (singleton : Hash32) (spend : Spend) (puzzle : Tree) (layer : Layer) (fault : ShapeFault) → puzzle ≡ spelled_tree spend.puzzle → layer_checked singleton puzzle ≡ Ok layer
    → IsBroken (solution_checked spend) fault → IsBroken (outlined singleton spend) fault
solution-broken singleton spend puzzle layer fault same first broken =
    broken_after (layer_checked singleton (spelled_tree spend.puzzle)) layer (outlined_by spend) fault (layer_ok singleton spend puzzle layer same first)
    (broken_on (solution_checked spend) (λ solution. where_ok (proof_checked spend.coin layer solution.proof) (λ proof. Ok solution)) fault broken)

solution_ok : (spend : Spend) (solution : Solution) → solution_of spend ≡ Some solution → solution_checked spend ≡ Ok solution
solution_ok spend solution e = ap (λ read. where_found 4 read Ok) e

pub proof-broken : (singleton : Hash32) (spend : Spend) (puzzle : Tree) (layer : Layer) (solution : Solution) (fault : ShapeFault) → puzzle ≡ spelled_tree spend.puzzle → layer_checked singleton puzzle ≡ Ok layer
    → solution_of spend ≡ Some solution → IsBroken (proof_checked spend.coin layer solution.proof) fault → IsBroken (outlined singleton spend) fault
proof-broken singleton spend puzzle layer solution fault same first second broken =
    broken_after (layer_checked singleton (spelled_tree spend.puzzle)) layer (outlined_by spend) fault (layer_ok singleton spend puzzle layer same first)
    (broken_after (solution_checked spend) solution (λ solution. where_ok (proof_checked spend.coin layer solution.proof) (λ proof. Ok solution)) fault (solution_ok spend solution second)
    (broken_on (proof_checked spend.coin layer solution.proof) (λ proof. Ok solution) fault broken))

pub outlined-ok : (singleton : Hash32) (spend : Spend) (puzzle : Tree) (layer : Layer) (solution : Solution) (proof : Proof) → puzzle ≡ spelled_tree spend.puzzle → layer_checked singleton puzzle ≡ Ok layer
    → solution_of spend ≡ Some solution → proof_checked spend.coin layer solution.proof ≡ Ok proof → outlined singleton spend ≡ Ok solution
outlined-ok singleton spend puzzle layer solution proof same first second third =
    ap (λ r. where_ok r (outlined_by spend)) (layer_ok singleton spend puzzle layer same first)
    ∙ ap (λ r. where_ok r (λ solution. where_ok (proof_checked spend.coin layer solution.proof) (λ proof. Ok solution))) (solution_ok spend solution second)
    ∙ ap (λ r. where_ok r (λ proof. Ok solution)) third

-- ---- what the checks 1 to 7 say

proof_then : (checked : Result Proof ℕ) (solution all : Solution) → where_ok checked (λ proof. Ok solution) ≡ Ok all → solution ≡ all
proof_then (Ok proof) solution all e = cc
proof_then (Err number) solution all e = cc

solution_then : (spend : Spend) (layer : Layer) (read : Option Solution) (all : Solution)
    → where_ok (where_found 4 read Ok) (λ solution. where_ok (proof_checked spend.coin layer solution.proof) (λ proof. Ok solution)) ≡ Ok all → read ≡ Some all
solution_then spend layer (Some solution) all e = ap Some (proof_then (proof_checked spend.coin layer solution.proof) solution all e)
solution_then spend layer None all e = cc

outlined_then : (spend : Spend) (checked : Result Layer ℕ) (all : Solution) → where_ok checked (outlined_by spend) ≡ Ok all → solution_of spend ≡ Some all
outlined_then spend (Ok layer) all e = solution_then spend layer (solution_of spend) all e
outlined_then spend (Err number) all e = cc

pub outlined-solution : (singleton : Hash32) (spend : Spend) (all : Solution) → outlined singleton spend ≡ Ok all → solution_of spend ≡ Some all
outlined-solution singleton spend all e = outlined_then spend (layer_checked singleton (spelled_tree spend.puzzle)) all e

curried_then : (singleton : Hash32) (spend : Spend) (read : Option Layer) (all : Solution)
    → where_ok (where_found 1 read (λ layer. where_held 2 (is_top_layer singleton layer) (where_held 3 (is_struct_of singleton layer.singleton_struct) (Ok layer)))) (outlined_by spend) ≡ Ok all
    → IsTrue (is_some read)
curried_then singleton spend (Some layer) all e = refl
curried_then singleton spend None all e = cc

pub outlined-curried : (singleton : Hash32) (spend : Spend) (all : Solution) → outlined singleton spend ≡ Ok all → IsTrue (is_some (layer_of (spelled_tree spend.puzzle)))
outlined-curried singleton spend all e = curried_then singleton spend (layer_of (spelled_tree spend.puzzle)) all e

-- ---- all checks

run_is : (limit : ℕ) (spend : Spend) (program env : Tree) → program ≡ spelled_tree spend.puzzle → env ≡ spelled_tree spend.solution → run_outcome program env (fuel_of limit) ≡ run_of limit spend
run_is limit spend program env p e = (λ i. run_outcome (p i) (e i) (fuel_of limit))

pub outline-broken : (limit : ℕ) (singleton : Hash32) (spend : Spend) (fault : ShapeFault) → IsBroken (outlined singleton spend) fault → IsBroken (shape_of limit singleton spend) fault
outline-broken limit singleton spend fault broken =
    broken_same (shape_of limit singleton spend) (shaped limit singleton spend) fault (shaped-is limit singleton spend)
    (broken_on (outlined singleton spend) (shaped_by spend (run_of limit spend)) fault broken)

pub run-broken : (limit : ℕ) (singleton : Hash32) (spend : Spend) (solution : Solution) (fault : ShapeFault) → outlined singleton spend ≡ Ok solution
    → IsBroken (run_checked (run_of limit spend)) fault → IsBroken (shape_of limit singleton spend) fault
run-broken limit singleton spend solution fault outline broken =
    broken_same (shape_of limit singleton spend) (shaped limit singleton spend) fault (shaped-is limit singleton spend)
    (broken_after (outlined singleton spend) solution (shaped_by spend (run_of limit spend)) fault outline
    (broken_on (run_checked (run_of limit spend)) (λ conditions. where_ok (conditions_checked spend.coin conditions) (λ conditions. Ok (record { spend = spend; solution = solution }))) fault broken))

pub run-broken-at : (limit : ℕ) (singleton : Hash32) (spend : Spend) (solution : Solution) (program env : Tree) (fault : ShapeFault) → outlined singleton spend ≡ Ok solution
    → program ≡ spelled_tree spend.puzzle → env ≡ spelled_tree spend.solution → IsBroken (run_checked (run_outcome program env (fuel_of limit))) fault → IsBroken (shape_of limit singleton spend) fault
run-broken-at limit singleton spend solution program env fault outline p e broken =
    run-broken limit singleton spend solution fault outline (subst (λ outcome. IsBroken (run_checked outcome) fault) (run_is limit spend program env p e) broken)

pub run-ok-at : (limit : ℕ) (spend : Spend) (program env : Tree) (conditions : List Condition) → program ≡ spelled_tree spend.puzzle → env ≡ spelled_tree spend.solution
    → run_checked (run_outcome program env (fuel_of limit)) ≡ Ok conditions → run_checked (run_of limit spend) ≡ Ok conditions
run-ok-at limit spend program env conditions p e ok = ap run_checked (sym (run_is limit spend program env p e)) ∙ ok

pub conditions-broken : (limit : ℕ) (singleton : Hash32) (spend : Spend) (solution : Solution) (conditions : List Condition) (fault : ShapeFault) → outlined singleton spend ≡ Ok solution
    → run_checked (run_of limit spend) ≡ Ok conditions → IsBroken (conditions_checked spend.coin conditions) fault → IsBroken (shape_of limit singleton spend) fault
conditions-broken limit singleton spend solution conditions fault outline run broken =
    broken_same (shape_of limit singleton spend) (shaped limit singleton spend) fault (shaped-is limit singleton spend)
    (broken_after (outlined singleton spend) solution (shaped_by spend (run_of limit spend)) fault outline
    (broken_after (run_checked (run_of limit spend)) conditions (λ conditions. where_ok (conditions_checked spend.coin conditions) (λ conditions. Ok (record { spend = spend; solution = solution }))) fault run
    (broken_on (conditions_checked spend.coin conditions) (λ conditions. Ok (record { spend = spend; solution = solution })) fault broken)))

pub shape-ok : (limit : ℕ) (singleton : Hash32) (spend : Spend) (proof : found.Proof) (last : Tree) (conditions : List Condition) → outlined singleton spend ≡ Ok (with_last proof last)
    → run_checked (run_of limit spend) ≡ Ok conditions → conditions_checked spend.coin conditions ≡ Ok conditions → shape_of limit singleton spend ≡ Ok (shape_seen spend proof)
shape-ok limit singleton spend proof last conditions outline run held =
    let solution = with_last proof last in
    shaped-is limit singleton spend
    ∙ ap (λ r. where_ok r (shaped_by spend (run_of limit spend))) outline
    ∙ ap (λ r. where_ok r (λ conditions. where_ok (conditions_checked spend.coin conditions) (λ conditions. Ok (record { spend = spend; solution = solution })))) run
    ∙ ap (λ r. where_ok r (λ conditions. Ok (record { spend = spend; solution = solution }))) held
    ∙ ap (λ read. Ok (record { spend = spend; solution = with_last proof (last_in read) })) (sym (outlined-solution singleton spend solution outline))
