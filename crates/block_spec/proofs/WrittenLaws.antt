-- A block's bytes are read as that block.
use Rattle.std.proofs.Common.{◌≡◌, ℕ, ◌^◌, ◌<◌, ◌≤◌, ◌==◌, ◌&&◌, Bool, true, false, cond, nat_lt, nat_le, Option, Some, None, List, [], ◌∷◌, map, length, ℤ, pos, negsuc, refl, ap, sym, ◌∙◌, arith}
use Rattle.std.specs.Prelude.{IsTrue, option_map, is_some, unwrap_or}
use Rattle.std.specs.Int.{w128, cast_unsigned}
use Rattle.std.specs.List.{AllByRecursion}
use Rattle.std.specs.Option.{ok_or}
use Rattle.std.specs.Str.{bytes_eq}
use Rattle.std.proofs.lemmas.Bool.{lt-ltb, eq-eqb, cond-true, and_parts}
use Rattle.std.proofs.lemmas.Slice.Eq.{bytes_eq-Decides}
use Rattle.std.proofs.lemmas.List.{append-nil}
use Rattle.clvm_spec.specs.Tree.{Tree, Atom, nil, list_tree}
use Rattle.clvm_spec.specs.Spelling.{spelling, HasSpelling}
use Rattle.clvm_spec.specs.Reading.{front_read, IsTree, IsLonger, whole_of, whole_read, tree_of}
use Rattle.clvm_spec.specs.Numbers.{unsigned, is_natural, complemented, number, shortest_atom}
use Rattle.clvm_spec.specs.Laws.{AreBytes}
use Rattle.clvm_spec.specs.Spelled.{is_spelled, spelled_tree}
use Rattle.clvm_spec.proofs.WholeLaws.{reads_spelled, whole_is_spelled}
use Rattle.clvm_spec.proofs.ShortestLaws.{wide, number-shortest, length-without, length-high_first}
use Rattle.clvm_spec.proofs.ListLaws.{elements_of_list}
use Rattle.coin_facts.specs.declared.hash32.Hash32.{Hash32}
use Rattle.coin_facts.specs.declared.sizes.TheConstants.{HASH_BYTES, KEY_BYTES}
use Rattle.coin_facts.specs.Steps.{◌>>=◌, all_of, when}
use Rattle.coin_facts.specs.Atoms.{hash_of, number_atom, number_below}
use Rattle.block_spec.specs.declared.spend.Spend.{Spend}
use Rattle.block_spec.specs.declared.attested.Signed.{Signed}
use Rattle.block_spec.specs.declared.block.Block.{Block}
use Rattle.block_spec.specs.Attestable.{AreAttestable, IsAttestable}
use Rattle.block_spec.specs.BundleTree.{spend_tree, generator, signed_tree, attested_tree}
use Rattle.block_spec.specs.BlockTree.{block_tree, block_bytes}
use Rattle.block_spec.specs.BlockReading.{hash_of_tree, spend_of, spends_of, signed_of, attested_of, block_of_tree, block_of_whole, block_of}
use Rattle.block_spec.specs.BlockLaws.{IsHash, IsWritableSpend, IsWritable, WrittenIsRead}

-- ---- atoms

hash-read : (hash : Hash32) → IsHash hash → hash_of (Atom hash.bytes) ≡ Some hash
hash-read hash is =
    let hash_with : List ℕ → Hash32 = λ bytes. record { bytes = bytes } in
    ap (λ test. option_map hash_with (when test hash.bytes)) (eq-eqb (length hash.bytes) HASH_BYTES is)

natural : (bytes : List ℕ) (n : ℕ) → number bytes ≡ pos n → unsigned bytes ≡ n
natural [] n e = cc
natural (b ∷ bytes) n e = by_sign (is_natural b) e
  where
    by_sign : (test : Bool) → cond test (pos (unsigned (b ∷ bytes))) (negsuc (unsigned (complemented (b ∷ bytes)))) ≡ pos n → unsigned (b ∷ bytes) ≡ n
    by_sign true e = cc
    by_sign false e = cc

shortest-number : (n : ℕ) → n < 2 ^ 127 → unsigned (shortest_atom (pos n)) ≡ n
shortest-number n small = natural (shortest_atom (pos n)) n (number-shortest (pos n) (record { sfits = small }))

pub number-read : (limit n : ℕ) → n < limit → n < 2 ^ 127 → number_below limit (number_atom n) ≡ Some n
number-read limit n below small =
    let bytes = shortest_atom (pos n) in
    let is = shortest-number n small in
    let fits : nat_lt (unsigned bytes) limit ≡ true = ap (λ m. nat_lt m limit) is ∙ lt-ltb n limit below in
    let same : bytes_eq bytes (shortest_atom (pos (unsigned bytes))) ≡ true = ap (λ m. bytes_eq bytes (shortest_atom (pos m))) is ∙ (bytes_eq-Decides bytes bytes).1 refl in
    (λ j. option_map unsigned (when (fits j && same j) bytes)) ∙ ap Some is

short-number : (n : ℤ) → length (shortest_atom n) ≤ 16
unfolding shortest_atom
short-number n = omega (arith, length-without (wide (cast_unsigned w128 n)), length-high_first 16 (cast_unsigned w128 n))

-- ---- spelled trees

SpelledAs : List ℕ → Tree → Type 0
SpelledAs bytes tree = HasSpelling tree × (bytes ≡ spelling tree)

spelled-by : (bytes : List ℕ) (found : Option Tree) → AreBytes bytes → tree_of bytes ≡ found → is_some found ≡ true → SpelledAs bytes (unwrap_or found nil)
unfolding SpelledAs
spelled-by bytes (Some tree) are is e = (whole_is_spelled bytes tree are).0 is
spelled-by bytes None are is e = cc

spelled : (bytes : List ℕ) → AreBytes bytes → IsTrue (is_spelled bytes) → SpelledAs bytes (spelled_tree bytes)
spelled bytes are is = spelled-by bytes (tree_of bytes) are refl (and_parts (is_some (tree_of bytes)) (nat_le (length bytes) 0x400_0000) is).0

list-spelled : (trees : List Tree) → AllByRecursion HasSpelling trees → HasSpelling (list_tree trees)
list-spelled [] all = omega arith
list-spelled (tree ∷ trees) all = (all.0, list-spelled trees all.1)

-- ---- spends

spend-read : (spend : Spend) → IsWritableSpend spend → spend_of (spend_tree spend) ≡ Some spend
unfolding SpelledAs
spend-read spend can =
    let puzzle = (spelled spend.puzzle can.puzzle.0 can.puzzle.1).1 in
    let solution = (spelled spend.solution can.solution.0 can.solution.1).1 in
    let made : Hash32 → ℕ → Hash32 → List ℕ → List ℕ → Spend =
    λ parent amount hash puzzle solution. record { coin = record { parent = parent; puzzle_hash = hash; amount = amount }; puzzle = puzzle; solution = solution } in
    let hash = hash_of_tree (spelled_tree spend.puzzle) in
    (λ j. hash-read spend.coin.parent can.parent j >>= λ parent.
    number-read (2 ^ 64) spend.coin.amount can.amount (omega (arith, can.amount)) j >>= λ amount.
    Some (made parent amount hash (spelling (spelled_tree spend.puzzle)) (spelling (spelled_tree spend.solution))))
    ∙ (λ j. Some (made spend.coin.parent spend.coin.amount (can.own j) (sym puzzle j) (sym solution j)))

all-spends : (spends : List Spend) → AllByRecursion IsWritableSpend spends → all_of spend_of (map spend_tree spends) ≡ Some spends
all-spends [] all = refl
all-spends (spend ∷ spends) all = λ j. spend-read spend all.0 j >>= λ first. all-spends spends all.1 j >>= λ others. Some (first ∷ others)

spends-read : (spends : List Spend) → AllByRecursion IsWritableSpend spends → spends_of (generator spends) ≡ Some spends
spends-read spends all = ap (λ found. found >>= all_of spend_of) (elements_of_list (map spend_tree spends)) ∙ all-spends spends all

spend-spelled : (spend : Spend) → IsWritableSpend spend → HasSpelling (spend_tree spend)
unfolding SpelledAs
spend-spelled spend can = (
  omega (arith, can.parent),
  (
    (spelled spend.puzzle can.puzzle.0 can.puzzle.1).0,
    (omega (arith, short-number (pos spend.coin.amount)), ((spelled spend.solution can.solution.0 can.solution.1).0, omega arith)),
  ),
)

spends-spelled : (spends : List Spend) → AllByRecursion IsWritableSpend spends → AllByRecursion HasSpelling (map spend_tree spends)
spends-spelled [] all = tt
spends-spelled (spend ∷ spends) all = (spend-spelled spend all.0, spends-spelled spends all.1)

-- ---- what is attested

signed-read : (signed : Signed) → IsAttestable signed → signed_of (signed_tree signed) ≡ Some signed
signed-read signed can =
    let signed_with : List ℕ → List ℕ → Signed = λ key message. record { key = key; message = message } in
    λ j. when (eq-eqb (length signed.key) KEY_BYTES can.0 j) signed.key >>= λ key. Some (signed_with key signed.message)

all-signed : (attested : List Signed) → AreAttestable attested → all_of signed_of (map signed_tree attested) ≡ Some attested
all-signed [] all = refl
all-signed (signed ∷ attested) all = λ j. signed-read signed all.0 j >>= λ first. all-signed attested all.1 j >>= λ others. Some (first ∷ others)

attested-read : (attested : List Signed) → AreAttestable attested → attested_of (attested_tree attested) ≡ Some attested
attested-read attested all = ap (λ found. found >>= all_of signed_of) (elements_of_list (map signed_tree attested)) ∙ all-signed attested all

signed-spelled : (attested : List Signed) → AreAttestable attested → AllByRecursion HasSpelling (map signed_tree attested)
signed-spelled [] all = tt
signed-spelled (signed ∷ attested) all =
    ((omega (arith, all.0.0), omega (arith, all.0.1)), signed-spelled attested all.1)

-- ---- blocks

tree-read : (block : Block) → IsWritable block → block_of_tree (block_tree block) ≡ Some block
tree-read block can =
    let block_with : Hash32 → ℕ → ℕ → Hash32 → List Spend → List Signed → Block = λ previous height seconds reward spends attested.
    record { previous = previous; height = height; seconds = seconds; reward_hash = reward; spends = spends; attested = attested } in
    λ j. hash-read block.previous can.previous j >>= λ previous.
    number-read (2 ^ 32) block.height can.height (omega (arith, can.height)) j >>= λ height.
    number-read (2 ^ 64) block.seconds can.seconds (omega (arith, can.seconds)) j >>= λ seconds.
    hash-read block.reward_hash can.reward j >>= λ reward.
    spends-read block.spends can.spends j >>= λ spends.
    attested-read block.attested can.attested j >>= λ attested.
    Some (block_with previous height seconds reward spends attested)

tree-spelled : (block : Block) → IsWritable block → HasSpelling (block_tree block)
tree-spelled block can =
    let spends = list-spelled (map spend_tree block.spends) (spends-spelled block.spends can.spends) in
    let attested = list-spelled (map signed_tree block.attested) (signed-spelled block.attested can.attested) in (
      omega (arith, can.previous),
      (
        omega (arith, short-number (pos block.height)),
        (
          omega (arith, short-number (pos block.seconds)),
          (omega (arith, can.reward), ((omega arith, (spends, omega arith)), (attested, omega arith))),
        ),
      ),
    )

whole-read : (tree : Tree) → HasSpelling tree → whole_read (spelling tree) ≡ IsTree tree
whole-read tree has =
    let bytes = spelling tree in
    ap (whole_of (length bytes)) (ap front_read (sym (append-nil bytes)) ∙ reads_spelled tree [] has)
    ∙ cond-true (length bytes == length bytes) (IsTree tree) (IsLonger (length bytes)) (eq-eqb (length bytes) (length bytes) refl)

pub written-is-read : WrittenIsRead
unfolding block_of
written-is-read block can =
    ap (block_of_whole (block_bytes block)) (whole-read (block_tree block) (tree-spelled block can))
    ∙ ap (λ found. ok_or found 0) (tree-read block can)
