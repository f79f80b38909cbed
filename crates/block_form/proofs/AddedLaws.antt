-- The lengths of spellings and of spends.
use Rattle.std.proofs.Common.{◌≡◌, ℕ, ◌+◌, ◌<◌, ◌≤◌, pos, nat_lt, List, [], ◌∷◌, ◌++◌, length, slice_index_or, Option, Some, IsSome, unwrap_or, refl, ap, sym, ◌∙◌, arith, length-append}
use Rattle.std.specs.List.{sum_by}
use Rattle.std.proofs.lemmas.Bool.{false≢true, cond_both, lt-ltb, cond-true}
use Rattle.std.proofs.lemmas.List.Sums.{sum_by-cons}
use Rattle.clvm_spec.specs.Tree.{Tree, nil}
use Rattle.clvm_spec.specs.Spelling.{prefix, atom_spelling, spelling}
use Rattle.clvm_spec.specs.Numbers.{has_sign_byte, shortest_atom, without_sign_bytes}
use Rattle.clvm_spec.specs.Reading.{tree_of}
use Rattle.clvm_spec.proofs.NumberLaws.{all_bytes}
use Rattle.clvm_spec.proofs.WholeLaws.{whole_is_spelled}
use Rattle.block_spec.specs.declared.spend.Spend.{Spend}
use Rattle.clvm_spec.specs.Spelled.{spelled_tree}
use Rattle.block_spec.specs.BundleTree.{spend_tree, spends_tree}
use Rattle.block_spec.specs.Added.{added_bytes, AddsUp}

-- an atom of two bytes or more, and fewer than 64
pub length-prefix : (size : ℕ) → size < 64 → length (prefix size) ≡ 1
length-prefix size few =
    ap length (cond-true (nat_lt size 0x40) ((0x80 + size) ∷ []) _ (lt-ltb size 0x40 few))

pub length-atom_spelling : (b c : ℕ) (bytes : List ℕ) → length (b ∷ c ∷ bytes) < 64 → length (atom_spelling (b ∷ c ∷ bytes)) ≡ 1 + length (b ∷ c ∷ bytes)
length-atom_spelling b c bytes few =
    omega (arith, length-append (prefix (length (b ∷ c ∷ bytes))) (b ∷ c ∷ bytes), length-prefix (length (b ∷ c ∷ bytes)) few)

-- the bytes of a spelled tree are as many as its spelling has
pub length-spelled_tree : (bytes : List ℕ) → ((i : ℕ) → slice_index_or bytes i 0 < 256) → IsSome (tree_of bytes) → length (spelling (spelled_tree bytes)) ≡ length bytes
length-spelled_tree bytes small some =
    let spells = (whole_is_spelled bytes (spelled_tree bytes) (all_bytes bytes small)).0 (is_its_value (tree_of bytes) some) in
    ap length (sym spells.1)
  where
    is_its_value : (o : Option Tree) → IsSome o → o ≡ Some (unwrap_or o nil)
    is_its_value (Some tree) h = refl
    is_its_value o h = absurd (false≢true h)

length-four : (a b c d : List ℕ) → length (0xff ∷ a ++ (0xff ∷ b ++ (0xff ∷ c ++ (0xff ∷ d ++ 0x80 ∷ [])))) ≡ 5 + length a + length b + length c + length d
length-four a b c d =
    let last = 0xff ∷ d ++ 0x80 ∷ [] in
    let third = 0xff ∷ c ++ last in
    let second = 0xff ∷ b ++ third in
    omega (arith, length-append a second, length-append b third, length-append c last, length-append d (0x80 ∷ []))

-- a spend's own bytes, from those of its four parts
pub length-spend_tree : (spend : Spend) (parent puzzle amount solution : ℕ)
    → parent ≡ length (atom_spelling spend.coin.parent.bytes)
    → puzzle ≡ length (spelling (spelled_tree spend.puzzle))
    → amount ≡ length (atom_spelling (shortest_atom (pos spend.coin.amount)))
    → solution ≡ length (spelling (spelled_tree spend.solution))
    → 6 + parent + puzzle + amount + solution ≡ added_bytes spend
length-spend_tree spend parent puzzle amount solution ep eq ea es =
    (λ j. 6 + ep j + eq j + ea j + es j)
    ∙ more _ _ _ _
    ∙ ap (λ n. 1 + n) (sym (length-four (atom_spelling spend.coin.parent.bytes) (spelling (spelled_tree spend.puzzle)) (atom_spelling (shortest_atom (pos spend.coin.amount))) (spelling (spelled_tree spend.solution))))
  where
    more : (a b c d : ℕ) → 6 + a + b + c + d ≡ 1 + (5 + a + b + c + d)
    more a b c d = omega arith

pub without_sign_bytes-shrinks : (bytes : List ℕ) → length (without_sign_bytes bytes) ≤ length bytes
unfolding without_sign_bytes
without_sign_bytes-shrinks [] = omega arith
without_sign_bytes-shrinks (b ∷ bytes) =
    let P : List ℕ → Type 0 = λ l. length l ≤ length (b ∷ bytes) in
    cond_both (has_sign_byte (b ∷ bytes)) (without_sign_bytes bytes) (b ∷ bytes) P (λ _. omega (arith, without_sign_bytes-shrinks bytes)) (λ _. omega arith)
