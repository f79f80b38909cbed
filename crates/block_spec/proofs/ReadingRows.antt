-- Blocks as bytes, computed: what is written, what is read, and the place of what is wrong.
use Rattle.std.proofs.Common.{◌≡◌, ℕ, ◌-◌, ◌^◌, Ok, Err, Result, List, [], ◌∷◌, ◌++◌, replicate, refl}
use Rattle.clvm_spec.specs.Tree.{Tree, Atom, Pair, nil, list_tree}
use Rattle.clvm_spec.specs.Spelling.{spelling}
use Rattle.clvm_spec.specs.Numbers.{without_sign_bytes, shortest_atom}
use Rattle.clvm_spec.specs.Reading.{head_at, tree_at_front}
use Rattle.coin_facts.specs.declared.hash32.Hash32.{Hash32}
use Rattle.coin_facts.specs.Atoms.{number_atom}
use Rattle.block_spec.specs.declared.spend.Spend.{Spend}
use Rattle.block_spec.specs.declared.attested.Signed.{Signed}
use Rattle.block_spec.specs.declared.block.Block.{Block}
use Rattle.block_spec.specs.BundleTree.{generator}
use Rattle.block_spec.specs.BlockTree.{block_bytes}
use Rattle.block_spec.specs.BlockReading.{hash_of_tree, block_of}

-- ---- the parts

abbrev bytes32 : ℕ → List ℕ
bytes32 byte = replicate 32 byte

abbrev hash : ℕ → Hash32
hash byte = record { bytes = bytes32 byte }

abbrev block : ℕ → ℕ → List Spend → List Signed → Block
block height seconds spends attested =
    record { previous = hash 0x11; height = height; seconds = seconds; reward_hash = hash 0x22; spends = spends; attested = attested }

abbrev with_puzzle_hash : Hash32 → Spend
with_puzzle_hash puzzle_hash = record {
  coin = record { parent = hash 0; puzzle_hash = puzzle_hash; amount = 1000 };
  puzzle = 1 ∷ [];
  solution = 0x80 ∷ [];
}

abbrev signed : Signed
signed = record { key = replicate 48 7; message = 5 ∷ 6 ∷ [] }

-- what the spelling of such a list is as a block
abbrev read_of : List Tree → Result Block ℕ
read_of parts = block_of (spelling (list_tree parts))

abbrev parts_with : Tree → Tree → Tree → Tree → Result Block ℕ
parts_with previous height seconds reward = read_of (previous ∷ height ∷ seconds ∷ reward ∷ generator [] ∷ nil ∷ [])

abbrev lists_with : Tree → Tree → Result Block ℕ
lists_with spends attested = read_of (Atom (bytes32 0x11) ∷ number_atom 1 ∷ number_atom 100 ∷ Atom (bytes32 0x22) ∷ spends ∷ attested ∷ [])

abbrev quoted : List Tree → Tree
quoted spends = list_tree (Atom (1 ∷ []) ∷ list_tree spends ∷ [])

abbrev a_hash : Tree
a_hash = Atom (bytes32 0x11)

-- ---- what is written

the_bytes_of_a_block : block_bytes (block 1 100 [] []) ≡ (0xff ∷ 0xa0 ∷ []) ++ bytes32 0x11 ++ (0xff ∷ 1 ∷ 0xff ∷ 0x64 ∷ 0xff ∷ 0xa0 ∷ []) ++ bytes32 0x22 ++ (0xff ∷ 0xff ∷ 1 ∷ 0xff ∷ 0x80 ∷ 0x80 ∷ 0xff ∷ 0x80 ∷ 0x80 ∷ [])
unfolding without_sign_bytes shortest_atom
the_bytes_of_a_block = refl

-- ---- what is read

an_empty_block : block_of (block_bytes (block 1 100 [] [])) ≡ Ok (block 1 100 [] [])
unfolding block_of head_at tree_at_front without_sign_bytes shortest_atom
an_empty_block = refl

the_greatest_numbers : block_of (block_bytes (block (2 ^ 32 - 1) (2 ^ 64 - 1) [] (signed ∷ []))) ≡ Ok (block (2 ^ 32 - 1) (2 ^ 64 - 1) [] (signed ∷ []))
unfolding block_of head_at tree_at_front without_sign_bytes shortest_atom
the_greatest_numbers = refl

-- Whatever puzzle hash was written, a coin has that of its puzzle.
a_coin_has_its_puzzles_hash : block_of (block_bytes (block 1 100 (with_puzzle_hash (hash 9) ∷ []) [])) ≡ Ok (block 1 100 (with_puzzle_hash (hash_of_tree (Atom (1 ∷ []))) ∷ []) [])
unfolding block_of head_at tree_at_front without_sign_bytes shortest_atom
a_coin_has_its_puzzles_hash = refl

-- ---- bytes that aren't one tree

no_byte : block_of [] ≡ Err 0
unfolding block_of head_at tree_at_front
no_byte = refl

bytes_that_are_cut : block_of (0xff ∷ 0xa0 ∷ 0x11 ∷ []) ≡ Err 3
unfolding block_of head_at tree_at_front
bytes_that_are_cut = refl

an_atom_spelled_long : block_of (0xff ∷ 0x80 ∷ 0x81 ∷ 0x01 ∷ []) ≡ Err 2
unfolding block_of head_at tree_at_front
an_atom_spelled_long = refl

a_bad_prefix : block_of (0xff ∷ 0x80 ∷ 0xfe ∷ []) ≡ Err 2
unfolding block_of head_at tree_at_front
a_bad_prefix = refl

a_byte_behind_a_tree : block_of (0xff ∷ 0x80 ∷ 0x80 ∷ 0xfe ∷ []) ≡ Err 3
unfolding block_of head_at tree_at_front
a_byte_behind_a_tree = refl

a_byte_behind_a_block : block_of (block_bytes (block 1 100 [] []) ++ 0x80 ∷ []) ≡ Err 81
unfolding block_of head_at tree_at_front without_sign_bytes shortest_atom
a_byte_behind_a_block = refl

-- ---- trees that are no block

an_atom : block_of (0x80 ∷ []) ≡ Err 0
unfolding block_of head_at tree_at_front
an_atom = refl

five_parts : read_of (a_hash ∷ number_atom 1 ∷ number_atom 100 ∷ a_hash ∷ generator [] ∷ []) ≡ Err 0
unfolding block_of head_at tree_at_front without_sign_bytes shortest_atom
five_parts = refl

seven_parts : read_of (a_hash ∷ number_atom 1 ∷ number_atom 100 ∷ a_hash ∷ generator [] ∷ nil ∷ nil ∷ []) ≡ Err 0
unfolding block_of head_at tree_at_front without_sign_bytes shortest_atom
seven_parts = refl

a_previous_hash_of_31_bytes : parts_with (Atom (replicate 31 0x11)) (number_atom 1) (number_atom 100) a_hash ≡ Err 0
unfolding block_of head_at tree_at_front without_sign_bytes shortest_atom
a_previous_hash_of_31_bytes = refl

a_height_of_2_to_the_32 : parts_with a_hash (number_atom (2 ^ 32)) (number_atom 100) a_hash ≡ Err 0
unfolding block_of head_at tree_at_front without_sign_bytes shortest_atom
a_height_of_2_to_the_32 = refl

a_height_with_a_zero_in_front : parts_with a_hash (Atom (0 ∷ 1 ∷ [])) (number_atom 100) a_hash ≡ Err 0
unfolding block_of head_at tree_at_front without_sign_bytes shortest_atom
a_height_with_a_zero_in_front = refl

seconds_of_2_to_the_64 : parts_with a_hash (number_atom 1) (number_atom (2 ^ 64)) a_hash ≡ Err 0
unfolding block_of head_at tree_at_front without_sign_bytes shortest_atom
seconds_of_2_to_the_64 = refl

a_reward_hash_that_is_a_pair : parts_with a_hash (number_atom 1) (number_atom 100) (Pair nil nil) ≡ Err 0
unfolding block_of head_at tree_at_front without_sign_bytes shortest_atom
a_reward_hash_that_is_a_pair = refl

a_generator_without_its_quote : lists_with nil nil ≡ Err 0
unfolding block_of head_at tree_at_front without_sign_bytes shortest_atom
a_generator_without_its_quote = refl

a_quote_of_two_bytes : lists_with (list_tree (Atom (0 ∷ 1 ∷ []) ∷ nil ∷ [])) nil ≡ Err 0
unfolding block_of head_at tree_at_front without_sign_bytes shortest_atom
a_quote_of_two_bytes = refl

a_spend_of_three_parts : lists_with (quoted (list_tree (a_hash ∷ nil ∷ nil ∷ []) ∷ [])) nil ≡ Err 0
unfolding block_of head_at tree_at_front without_sign_bytes shortest_atom
a_spend_of_three_parts = refl

a_spend_of_2_to_the_64 : lists_with (quoted (list_tree (a_hash ∷ nil ∷ number_atom (2 ^ 64) ∷ nil ∷ []) ∷ [])) nil ≡ Err 0
unfolding block_of head_at tree_at_front without_sign_bytes shortest_atom
a_spend_of_2_to_the_64 = refl

a_key_of_47_bytes : lists_with (generator []) (list_tree (Pair (Atom (replicate 47 7)) nil ∷ [])) ≡ Err 0
unfolding block_of head_at tree_at_front without_sign_bytes shortest_atom
a_key_of_47_bytes = refl

a_message_that_is_a_pair : lists_with (generator []) (list_tree (Pair (Atom (replicate 48 7)) (Pair nil nil) ∷ [])) ≡ Err 0
unfolding block_of head_at tree_at_front without_sign_bytes shortest_atom
a_message_that_is_a_pair = refl

attested_that_no_nil_ends : lists_with (generator []) (Atom (1 ∷ [])) ≡ Err 0
unfolding block_of head_at tree_at_front without_sign_bytes shortest_atom
attested_that_no_nil_ends = refl
