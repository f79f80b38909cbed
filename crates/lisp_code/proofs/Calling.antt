-- Calls in code, of functions that have a place and of names that have none.
use Rattle.std.proofs.Common.{◌≡◌, ℕ, zero, suc, ◌<◌, ◌≤◌, List, [], ◌∷◌, Some, None, arith}
use Rattle.clvm_spec.specs.Tree.{Tree, Pair}
use Rattle.lisp_spec.specs.Parameters.{Side, ToFirst, tree_at}
use Rattle.lisp_spec.specs.Meaning.{Meaning, Failed, if_value}
use Rattle.lisp_code.specs.Pieces.{operator_code}
use Rattle.lisp_code.specs.Frames.{call_code}
use Rattle.lisp_code.proofs.Refining.{out, same, Covered, Rises}
use Rattle.lisp_code.proofs.Plain.{plain}
use Rattle.lisp_code.proofs.Refined.{refines_equal, covered_then, covered_from, covered_suc, covered_third, covered_at_suc, covered_by, rises_same}
use Rattle.lisp_code.proofs.PlainForms.{plain_rises, call_says, call_gives, unknown_call}
use Rattle.std.proofs.Common.{sym}

-- ---- what is meant, a call gives

pub unknown_gives : (list env : Tree) (x : Meaning) → Covered x (λ m. plain m list env) → Covered (if_value x (λ t. Failed)) (λ m. plain m (call_code None list) env)
unknown_gives list env x c =
    covered_suc _ (λ m. plain m (operator_code 8 (list ∷ [])) env)
    (covered_by _ _ _ (λ m. refines_equal _ _ (sym (unknown_call m list env)))
    (covered_then x (λ m. plain m list env) (λ t. Failed) (λ m t. Failed) (plain_rises list env) (λ t. rises_same Failed) c (λ t. (0, same Failed))))

pub known_gives : (table argument list code : Tree) (path : List Side) → tree_at path table ≡ Some code → (x : Meaning) (go : Tree → Meaning) →
    ((t : Tree) → Covered (go t) (λ m. plain m code (Pair table t))) → Covered x (λ m. plain m list (Pair table argument)) →
    Covered (if_value x go) (λ m. plain m (call_code (Some (ToFirst ∷ path)) list) (Pair table argument))
known_gives table argument list code path at x go goes c =
    covered_third _ (λ m. plain m (call_code (Some (ToFirst ∷ path)) list) (Pair table argument))
    (covered_by _ _ _ (λ m. refines_equal _ _ (call_gives table argument m path list code at))
    (covered_then x (λ m. plain (suc m) list (Pair table argument)) go (λ m t. plain (suc (suc m)) code (Pair table t))
    (λ a b le. plain_rises list (Pair table argument) (suc a) (suc b) (omega arith))
    (λ t a b le. plain_rises code (Pair table t) (suc (suc a)) (suc (suc b)) (omega arith))
    (covered_at_suc _ (λ m. plain m list (Pair table argument)) (plain_rises list (Pair table argument)) c)
    (λ t. covered_at_suc _ (λ m. plain (suc m) code (Pair table t)) (λ a b le. plain_rises code (Pair table t) (suc a) (suc b) (omega arith)) (covered_at_suc _ (λ m. plain m code (Pair table t)) (plain_rises code (Pair table t)) (goes t)))))

-- ---- what a call gives, is meant

pub unknown_says : (most : ℕ) (list env : Tree) (y : ℕ → Meaning) → Rises y → ((m : ℕ) → m ≤ most → Covered (plain m list env) y) →
    (m : ℕ) → m ≤ most → Covered (plain m (call_code None list) env) (λ n. if_value (y n) (λ t. Failed))
unknown_says most list env y rises c zero le = (0, out _)
unknown_says most list env y rises c (suc m) le =
    covered_from _ _ _ (refines_equal _ _ (unknown_call m list env))
    (covered_then (plain m list env) y (λ t. Failed) (λ n t. Failed) rises (λ t. rises_same Failed) (c m (omega arith)) (λ t. (0, same Failed)))

pub known_says : (most : ℕ) (table argument list code : Tree) (path : List Side) → tree_at path table ≡ Some code → (y : ℕ → Meaning) → Rises y → (go : ℕ → Tree → Meaning) → ((t : Tree) → Rises (λ n. go n t)) →
    ((m : ℕ) → m < most → (t : Tree) → Covered (plain m code (Pair table t)) (λ n. go n t)) → ((m : ℕ) → m ≤ most → Covered (plain m list (Pair table argument)) y) →
    (m : ℕ) → m ≤ most → Covered (plain m (call_code (Some (ToFirst ∷ path)) list) (Pair table argument)) (λ n. if_value (y n) (go n))
known_says most table argument list code path at y rises go go_rises goes c zero le = (0, out _)
known_says most table argument list code path at y rises go go_rises goes c (suc m) le =
    covered_from _ _ _ (call_says table argument m path list code at)
    (covered_then (plain m list (Pair table argument)) y (λ t. plain m code (Pair table t)) go rises go_rises (c m (omega arith)) (λ t. goes m (omega arith) t))
