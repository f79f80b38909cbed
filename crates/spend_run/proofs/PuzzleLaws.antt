-- Facts by the puzzle and the run of a spend.
use Rattle.std.proofs.Common.{◌≡◌, ℕ, Bool, true, false, if◌then◌else◌, Result, Err, IfOk, IfErr, ap, sym, ◌∙◌, subst}
use Rattle.std.specs.Str.{bytes_eq}
use Rattle.std.proofs.lemmas.Result.{IfOk-weaker, IfErr-weaker}
use Rattle.clvm_spec.specs.Tree.{Tree}
use Rattle.clvm_spec.specs.Hashing.{tree_hash}
use Rattle.clvm_spec.specs.Spelled.{spelled_tree}
use Rattle.clvm_spec.specs.Evaluation.{run_outcome, fuel_of}
use Rattle.block_spec.specs.declared.spend.Spend.{Spend}
use Rattle.judge_spec.specs.Facts.{OtherPuzzle, of_run, run_of, has_its_puzzle, facts_of}
use Rattle.spend_run.specs.declared.fault.SpendFault.{SpendFault}
use Rattle.spend_run.specs.declared.run.Reading.{Reading}
use Rattle.spend_run.specs.Breaches.{IsBreach}
use Rattle.spend_run.specs.Found.{asked}
use Rattle.spend_run.specs.Readings.{IsReadAt, IsBreachAt}

pub other-puzzle : (limit : ℕ) (spend : Spend) → has_its_puzzle spend ≡ false → facts_of limit spend ≡ Err OtherPuzzle
unfolding facts_of
other-puzzle limit spend e = ap (λ b. if b then of_run limit spend (run_of limit spend) else Err OtherPuzzle) e

own-puzzle : (limit : ℕ) (spend : Spend) → has_its_puzzle spend ≡ true → facts_of limit spend ≡ of_run limit spend (run_of limit spend)
unfolding facts_of
own-puzzle limit spend e = ap (λ b. if b then of_run limit spend (run_of limit spend) else Err OtherPuzzle) e

pub its-puzzle : (spend : Spend) (tree : Tree) (b answer : Bool) → tree ≡ spelled_tree spend.puzzle → answer ≡ bytes_eq (tree_hash tree) spend.coin.puzzle_hash.bytes → answer ≡ b → has_its_puzzle spend ≡ b
its-puzzle spend tree b answer same is e = ap (λ t. bytes_eq (tree_hash t) spend.coin.puzzle_hash.bytes) (sym same) ∙ sym is ∙ e

run-is : (limit : ℕ) (spend : Spend) (program env : Tree) → program ≡ spelled_tree spend.puzzle → env ≡ spelled_tree spend.solution → run_of limit spend ≡ run_outcome program env (fuel_of limit)
run-is limit spend program env p e = (λ i. run_outcome (sym p i) (sym e i) (fuel_of limit))

pub facts-read : (limit : ℕ) (spend : Spend) (program env : Tree) (result : Result Reading SpendFault) → has_its_puzzle spend ≡ true → program ≡ spelled_tree spend.puzzle → env ≡ spelled_tree spend.solution
    → IfOk result (IsReadAt limit (run_outcome program env (fuel_of limit))) → IfOk result (λ reading. facts_of limit spend ≡ asked spend reading.cost reading.conditions)
facts-read limit spend program env result own p e ok =
    IfOk-weaker result (IsReadAt limit (run_outcome program env (fuel_of limit))) (λ reading. facts_of limit spend ≡ asked spend reading.cost reading.conditions)
    (λ reading is. own-puzzle limit spend own ∙ ap (of_run limit spend) (run-is limit spend program env p e) ∙ is spend) ok

pub facts-broken : (limit : ℕ) (spend : Spend) (program env : Tree) (result : Result Reading SpendFault) → has_its_puzzle spend ≡ true → program ≡ spelled_tree spend.puzzle → env ≡ spelled_tree spend.solution
    → IfErr result (IsBreachAt limit (run_outcome program env (fuel_of limit))) → IfErr result (IsBreach (facts_of limit spend))
facts-broken limit spend program env result own p e err =
    IfErr-weaker result (IsBreachAt limit (run_outcome program env (fuel_of limit))) (IsBreach (facts_of limit spend))
    (λ fault is. subst (λ found. IsBreach found fault) (sym (own-puzzle limit spend own ∙ ap (of_run limit spend) (run-is limit spend program env p e))) (is spend)) err
