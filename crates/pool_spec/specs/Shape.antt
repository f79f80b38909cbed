-- The Forward shape: the spend of a singleton that can be moved onto the singleton's newest coin. The first check that is
-- broken is told by its number. Source: after `fast_forward_singleton` of chia_rs; the checks and their order are this
-- project's own.
use Rattle.std.specs.Prelude.{ℕ, ◌%◌, ◌==◌, ◌&&◌, List, [], ◌∷◌, length, filter, nat_le, Bool, true, false, not, is_some, Option, Some, None, Result, Ok, Err, if◌then◌else◌}
use Rattle.std.specs.List.{list_any}
use Rattle.std.specs.Str.{bytes_eq}
use Rattle.clvm_spec.specs.Tree.{Tree, Atom, Pair}
use Rattle.clvm_spec.specs.ProperList.{elements}
use Rattle.clvm_spec.specs.Hashing.{tree_hash}
use Rattle.clvm_spec.specs.Spelled.{spelled_tree}
use Rattle.clvm_spec.specs.Outcomes.{Outcome, Done, Failed, Spent, Wide}
use Rattle.clvm_spec.specs.Currying.{uncurried}
use Rattle.coin_facts.specs.declared.hash32.Hash32.{Hash32}
use Rattle.coin_facts.specs.declared.coin.Coin.{Coin}
use Rattle.coin_facts.specs.CoinId.{coin_id}
use Rattle.coin_facts.specs.IdLists.{is_same_id}
use Rattle.coin_facts.specs.Steps.{◌>>=◌, when}
use Rattle.coin_facts.specs.Atoms.{hash_of, amount_of}
use Rattle.block_spec.specs.declared.spend.Spend.{Spend}
use Rattle.cond_spec.specs.declared.condition.Condition.{Condition}
use Rattle.cond_spec.specs.declared.condition.Condition.TheVariants.{AggSigParent, AggSigParentAmount, AggSigParentPuzzle, AggSigMe, AssertMyCoinId, AssertMyBirthSeconds, AssertMyBirthHeight, AssertEphemeral}
use Rattle.cond_spec.specs.Conditions.{Listing, Lists, MalformedAt, UnknownAt, conditions_of}
use Rattle.cond_spec.specs.Acts.{of_spend, coin_made}
use Rattle.judge_spec.specs.Facts.{run_of}
use Rattle.pool_spec.specs.declared.limits.TheConstants.{MOST_FORWARD_SOLUTION}

-- ---- checks one after the other

-- goes on with what a check finds, else tells its number
abbrev pub where_found : {A B : Type 0} → ℕ → Option A → (A → Result B ℕ) → Result B ℕ
where_found number (Some found) go = go found
where_found number None go = Err number

-- goes on where a check holds
abbrev pub where_held : {A : Type 0} → ℕ → Bool → Result A ℕ → Result A ℕ
where_held number holds found = if holds then found else Err number

-- ---- the conditions of a run, where it gives any

abbrev pub listed : Listing → Option (List Condition)
listed (Lists conditions) = Some conditions
listed (MalformedAt place) = None
listed (UnknownAt place) = None

abbrev pub conditions_in : Outcome → Option (List Condition)
conditions_in (Done value left) = listed (conditions_of value)
conditions_in (Failed why form) = None
conditions_in (Spent which) = None
conditions_in Wide = None

-- nothing where the run isn't done, or a condition is malformed or unknown
abbrev pub run_conditions : ℕ → Spend → Option (List Condition)
run_conditions limit spend = conditions_in (run_of limit spend)

-- ---- the puzzle

-- a program that is curried with a singleton's struct and its inner puzzle
pub record Layer : Type 0 where
  pub program : Tree
  pub singleton_struct : Tree
  pub inner : Tree

-- Check 1: the puzzle is curried with exactly two arguments.
abbrev pub layer_of_two : Tree → List Tree → Option Layer
layer_of_two program (first ∷ second ∷ []) = Some (record { program = program; singleton_struct = first; inner = second })
layer_of_two program _ = None

abbrev pub layer_of : Tree → Option Layer
layer_of puzzle = do
  parts ← uncurried puzzle
  layer_of_two parts.program parts.arguments

-- Check 2: the tree hash of the curried program is the session's singleton hash.
abbrev pub is_top_layer : Hash32 → Layer → Bool
is_top_layer singleton layer = bytes_eq (tree_hash layer.program) singleton.bytes

-- Check 3: the struct is (M . (L . Q)), where M is the singleton hash, and L and Q are atoms of 32 bytes.
abbrev pub is_struct_of : Hash32 → Tree → Bool
is_struct_of singleton (Pair (Atom m) (Pair l q)) = bytes_eq m singleton.bytes && is_some (hash_of l) && is_some (hash_of q)
is_struct_of singleton _ = false

-- ---- the solution

-- (PP PI PA): the parent of the coin's parent, the hash of its inner puzzle, and its amount
pub record Proof : Type 0 where
  pub parent : Hash32
  pub inner : Hash32
  pub amount : ℕ

abbrev pub proof_of_parts : List Tree → Option Proof
proof_of_parts (pp ∷ pi ∷ pa ∷ []) = do
  parent ← hash_of pp
  inner ← hash_of pi
  amount ← amount_of pa
  Some (record { parent = parent; inner = inner; amount = amount })
proof_of_parts _ = None

abbrev pub proof_of : Tree → Option Proof
proof_of tree = elements tree >>= proof_of_parts

-- (PROOF AMOUNT LAST)
pub record Solution : Type 0 where
  pub proof : Proof
  pub last : Tree

abbrev pub solution_of_parts : ℕ → List Tree → Option Solution
solution_of_parts own (first ∷ second ∷ last ∷ []) = do
  proof ← proof_of first
  amount ← amount_of second
  when (amount == own) (record { proof = proof; last = last })
solution_of_parts own _ = None

-- Check 4: the solution has at most so many bytes and is a proper list of three. The first is a proof, the second the coin's
-- amount, and the third may be anything.
abbrev pub solution_of : Spend → Option Solution
solution_of spend =
    if nat_le (length spend.solution) MOST_FORWARD_SOLUTION
    then (elements (spelled_tree spend.solution) >>= solution_of_parts spend.coin.amount)
    else None

-- Check 5: PI is the tree hash of the inner puzzle.
abbrev pub is_of_inner : Layer → Proof → Bool
is_of_inner layer proof = bytes_eq proof.inner.bytes (tree_hash layer.inner)

-- Check 6: the coin's amount and PA are odd.
abbrev pub is_odd : ℕ → Bool
is_odd n = n % 2 == 1

-- Check 7: the coin's parent is the coin of PP, the coin's puzzle hash, and PA.
abbrev pub proven_parent : Coin → Proof → Coin
proven_parent coin proof = record { parent = proof.parent; puzzle_hash = coin.puzzle_hash; amount = proof.amount }

abbrev pub is_child : Coin → Proof → Bool
is_child coin proof = is_same_id coin.parent (coin_id (proven_parent coin proof))

-- ---- the run

abbrev pub odd_coins : Spend → List Condition → List Coin
odd_coins spend conditions = filter (λ made. is_odd made.amount) (of_spend coin_made (record { coin = spend.coin; conditions = conditions }))

abbrev pub is_again : Coin → List Coin → Bool
is_again coin (made ∷ []) = is_same_id made.puzzle_hash coin.puzzle_hash && (made.amount == coin.amount)
is_again coin _ = false

-- Check 8: the run gives conditions, and of its created coins exactly one has an odd amount, which has the coin's puzzle hash
-- and amount.
abbrev pub makes_itself : Spend → List Condition → Bool
makes_itself spend conditions = is_again spend.coin (odd_coins spend conditions)

-- Check 9: there is no condition 43, 47, 48, 50, 70, 74, 75 or 76.
abbrev pub binds_to_coin : Condition → Bool
binds_to_coin (AggSigParent key text) = true
binds_to_coin (AggSigParentAmount key text) = true
binds_to_coin (AggSigParentPuzzle key text) = true
binds_to_coin (AggSigMe key text) = true
binds_to_coin (AssertMyCoinId id) = true
binds_to_coin (AssertMyBirthSeconds moment) = true
binds_to_coin (AssertMyBirthHeight moment) = true
binds_to_coin AssertEphemeral = true
binds_to_coin _ = false

-- ---- the shape

-- a spend of the Forward shape, with what its solution says
pub record Shape : Type 0 where
  pub spend : Spend
  pub solution : Solution

-- checks 2 to 9
abbrev pub shape_by_layer : ℕ → Hash32 → Spend → Layer → Result Shape ℕ
shape_by_layer limit singleton spend layer =
    where_held 2 (is_top_layer singleton layer) (
    where_held 3 (is_struct_of singleton layer.singleton_struct) (
    where_found 4 (solution_of spend) (λ solution.
    where_held 5 (is_of_inner layer solution.proof) (
    where_held 6 (is_odd spend.coin.amount && is_odd solution.proof.amount) (
    where_held 7 (is_child spend.coin solution.proof) (
    where_found 8 (run_conditions limit spend) (λ conditions.
    where_held 8 (makes_itself spend conditions) (
    where_held 9 (not (list_any binds_to_coin conditions)) (
    Ok (record { spend = spend; solution = solution }))))))))))

-- the shape, or the first check that is broken
unfoldable pub shape_of : (limit : ℕ) → (singleton : Hash32) → Spend → Result Shape ℕ
shape_of limit singleton spend = where_found 1 (layer_of (spelled_tree spend.puzzle)) (shape_by_layer limit singleton spend)
