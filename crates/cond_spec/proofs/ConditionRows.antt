-- Conditions read, computed: one of each code, each with one operand more than is read.
use Rattle.std.proofs.Common.{◌≡◌, ℕ, pos, negsuc, Some, None, List, [], ◌∷◌, replicate, ◌^◌, ◌-◌, refl, Option}
use Rattle.clvm_spec.specs.Tree.{Tree, Atom, Pair, list_tree}
use Rattle.clvm_spec.specs.Numbers.{shortest_atom, without_sign_bytes}
use Rattle.coin_facts.specs.declared.hash32.Hash32.{Hash32}
use Rattle.cond_spec.specs.declared.codes.TheConstants.{REMARK, AGG_SIG_PARENT, AGG_SIG_PUZZLE, AGG_SIG_AMOUNT, AGG_SIG_PUZZLE_AMOUNT, AGG_SIG_PARENT_AMOUNT, AGG_SIG_PARENT_PUZZLE, AGG_SIG_UNSAFE, AGG_SIG_ME, CREATE_COIN, RESERVE_FEE, CREATE_COIN_ANNOUNCEMENT, ASSERT_COIN_ANNOUNCEMENT, CREATE_PUZZLE_ANNOUNCEMENT, ASSERT_PUZZLE_ANNOUNCEMENT, ASSERT_CONCURRENT_SPEND, ASSERT_CONCURRENT_PUZZLE, SEND_MESSAGE, RECEIVE_MESSAGE, ASSERT_MY_COIN_ID, ASSERT_MY_PARENT_ID, ASSERT_MY_PUZZLEHASH, ASSERT_MY_AMOUNT, ASSERT_MY_BIRTH_SECONDS, ASSERT_MY_BIRTH_HEIGHT, ASSERT_EPHEMERAL, ASSERT_SECONDS_RELATIVE, ASSERT_SECONDS_ABSOLUTE, ASSERT_HEIGHT_RELATIVE, ASSERT_HEIGHT_ABSOLUTE, ASSERT_BEFORE_SECONDS_RELATIVE, ASSERT_BEFORE_SECONDS_ABSOLUTE, ASSERT_BEFORE_HEIGHT_RELATIVE, ASSERT_BEFORE_HEIGHT_ABSOLUTE}
use Rattle.cond_spec.specs.declared.condition.Condition.TheVariants.{Remark, AggSigParent, AggSigPuzzle, AggSigAmount, AggSigPuzzleAmount, AggSigParentAmount, AggSigParentPuzzle, AggSigUnsafe, AggSigMe, CreateCoin, ReserveFee, CreateCoinAnnouncement, AssertCoinAnnouncement, CreatePuzzleAnnouncement, AssertPuzzleAnnouncement, AssertConcurrentSpend, AssertConcurrentPuzzle, SendMessage, ReceiveMessage, AssertMyCoinId, AssertMyParentId, AssertMyPuzzleHash, AssertMyAmount, AssertMyBirthSeconds, AssertMyBirthHeight, AssertEphemeral, AssertSecondsRelative, AssertSecondsAbsolute, AssertHeightRelative, AssertHeightAbsolute, AssertBeforeSecondsRelative, AssertBeforeSecondsAbsolute, AssertBeforeHeightRelative, AssertBeforeHeightAbsolute}
use Rattle.cond_spec.specs.declared.party.Party.{Party}
use Rattle.cond_spec.specs.Conditions.{Reads, condition_of}

-- ---- the parts

abbrev pub bytes32 : ℕ → List ℕ
bytes32 byte = replicate 32 byte

abbrev pub hash : ℕ → Hash32
hash byte = record { bytes = bytes32 byte }

abbrev pub key : List ℕ
key = replicate 48 7

abbrev pub text : List ℕ
text = 1 ∷ 2 ∷ 3 ∷ []

-- the shortest atom of 900
abbrev pub nine_hundred : List ℕ
nine_hundred = 3 ∷ 0x84 ∷ []

-- (CODE OPERAND ..)
abbrev pub condition : ℕ → List Tree → Tree
condition code operands = Pair (Atom (code ∷ [])) (list_tree operands)

abbrev pub party : Option Hash32 → Option Hash32 → Option Hash32 → Option ℕ → Party
party id parent puzzle_hash amount = record { id = id; parent = parent; puzzle_hash = puzzle_hash; amount = amount }

-- ---- one of each code

remark : condition_of (condition REMARK (Atom text ∷ [])) ≡ Reads Remark
unfolding shortest_atom without_sign_bytes
remark = refl

agg_sig_parent : condition_of (condition AGG_SIG_PARENT (Atom key ∷ Atom text ∷ Atom text ∷ [])) ≡ Reads (AggSigParent key text)
unfolding shortest_atom without_sign_bytes
agg_sig_parent = refl

agg_sig_puzzle : condition_of (condition AGG_SIG_PUZZLE (Atom key ∷ Atom text ∷ Atom text ∷ [])) ≡ Reads (AggSigPuzzle key text)
unfolding shortest_atom without_sign_bytes
agg_sig_puzzle = refl

agg_sig_amount : condition_of (condition AGG_SIG_AMOUNT (Atom key ∷ Atom text ∷ Atom text ∷ [])) ≡ Reads (AggSigAmount key text)
unfolding shortest_atom without_sign_bytes
agg_sig_amount = refl

agg_sig_puzzle_amount : condition_of (condition AGG_SIG_PUZZLE_AMOUNT (Atom key ∷ Atom text ∷ Atom text ∷ [])) ≡ Reads (AggSigPuzzleAmount key text)
unfolding shortest_atom without_sign_bytes
agg_sig_puzzle_amount = refl

agg_sig_parent_amount : condition_of (condition AGG_SIG_PARENT_AMOUNT (Atom key ∷ Atom text ∷ Atom text ∷ [])) ≡ Reads (AggSigParentAmount key text)
unfolding shortest_atom without_sign_bytes
agg_sig_parent_amount = refl

agg_sig_parent_puzzle : condition_of (condition AGG_SIG_PARENT_PUZZLE (Atom key ∷ Atom text ∷ Atom text ∷ [])) ≡ Reads (AggSigParentPuzzle key text)
unfolding shortest_atom without_sign_bytes
agg_sig_parent_puzzle = refl

agg_sig_unsafe : condition_of (condition AGG_SIG_UNSAFE (Atom key ∷ Atom text ∷ Atom text ∷ [])) ≡ Reads (AggSigUnsafe key text)
unfolding shortest_atom without_sign_bytes
agg_sig_unsafe = refl

agg_sig_me : condition_of (condition AGG_SIG_ME (Atom key ∷ Atom text ∷ Atom text ∷ [])) ≡ Reads (AggSigMe key text)
unfolding shortest_atom without_sign_bytes
agg_sig_me = refl

create_coin : condition_of (condition CREATE_COIN (Atom (bytes32 5) ∷ Atom nine_hundred ∷ Atom text ∷ [])) ≡ Reads (CreateCoin (hash 5) 900)
unfolding shortest_atom without_sign_bytes
create_coin = refl

reserve_fee : condition_of (condition RESERVE_FEE (Atom nine_hundred ∷ Atom text ∷ [])) ≡ Reads (ReserveFee 900)
unfolding shortest_atom without_sign_bytes
reserve_fee = refl

create_coin_announcement : condition_of (condition CREATE_COIN_ANNOUNCEMENT (Atom text ∷ Atom text ∷ [])) ≡ Reads (CreateCoinAnnouncement text)
unfolding shortest_atom without_sign_bytes
create_coin_announcement = refl

assert_coin_announcement : condition_of (condition ASSERT_COIN_ANNOUNCEMENT (Atom (bytes32 5) ∷ Atom text ∷ [])) ≡ Reads (AssertCoinAnnouncement (hash 5))
unfolding shortest_atom without_sign_bytes
assert_coin_announcement = refl

create_puzzle_announcement : condition_of (condition CREATE_PUZZLE_ANNOUNCEMENT (Atom text ∷ Atom text ∷ [])) ≡ Reads (CreatePuzzleAnnouncement text)
unfolding shortest_atom without_sign_bytes
create_puzzle_announcement = refl

assert_puzzle_announcement : condition_of (condition ASSERT_PUZZLE_ANNOUNCEMENT (Atom (bytes32 5) ∷ Atom text ∷ [])) ≡ Reads (AssertPuzzleAnnouncement (hash 5))
unfolding shortest_atom without_sign_bytes
assert_puzzle_announcement = refl

assert_concurrent_spend : condition_of (condition ASSERT_CONCURRENT_SPEND (Atom (bytes32 5) ∷ Atom text ∷ [])) ≡ Reads (AssertConcurrentSpend (hash 5))
unfolding shortest_atom without_sign_bytes
assert_concurrent_spend = refl

assert_concurrent_puzzle : condition_of (condition ASSERT_CONCURRENT_PUZZLE (Atom (bytes32 5) ∷ Atom text ∷ [])) ≡ Reads (AssertConcurrentPuzzle (hash 5))
unfolding shortest_atom without_sign_bytes
assert_concurrent_puzzle = refl

assert_my_coin_id : condition_of (condition ASSERT_MY_COIN_ID (Atom (bytes32 5) ∷ Atom text ∷ [])) ≡ Reads (AssertMyCoinId (hash 5))
unfolding shortest_atom without_sign_bytes
assert_my_coin_id = refl

assert_my_parent_id : condition_of (condition ASSERT_MY_PARENT_ID (Atom (bytes32 5) ∷ Atom text ∷ [])) ≡ Reads (AssertMyParentId (hash 5))
unfolding shortest_atom without_sign_bytes
assert_my_parent_id = refl

assert_my_puzzlehash : condition_of (condition ASSERT_MY_PUZZLEHASH (Atom (bytes32 5) ∷ Atom text ∷ [])) ≡ Reads (AssertMyPuzzleHash (hash 5))
unfolding shortest_atom without_sign_bytes
assert_my_puzzlehash = refl

assert_my_amount : condition_of (condition ASSERT_MY_AMOUNT (Atom nine_hundred ∷ Atom text ∷ [])) ≡ Reads (AssertMyAmount 900)
unfolding shortest_atom without_sign_bytes
assert_my_amount = refl

assert_my_birth_seconds : condition_of (condition ASSERT_MY_BIRTH_SECONDS (Atom (5 ∷ []) ∷ Atom text ∷ [])) ≡ Reads (AssertMyBirthSeconds (pos 5))
unfolding shortest_atom without_sign_bytes
assert_my_birth_seconds = refl

assert_my_birth_height : condition_of (condition ASSERT_MY_BIRTH_HEIGHT (Atom (5 ∷ []) ∷ Atom text ∷ [])) ≡ Reads (AssertMyBirthHeight (pos 5))
unfolding shortest_atom without_sign_bytes
assert_my_birth_height = refl

assert_ephemeral : condition_of (condition ASSERT_EPHEMERAL (Atom text ∷ [])) ≡ Reads AssertEphemeral
unfolding shortest_atom without_sign_bytes
assert_ephemeral = refl

assert_seconds_relative : condition_of (condition ASSERT_SECONDS_RELATIVE (Atom (5 ∷ []) ∷ Atom text ∷ [])) ≡ Reads (AssertSecondsRelative (pos 5))
unfolding shortest_atom without_sign_bytes
assert_seconds_relative = refl

assert_seconds_absolute : condition_of (condition ASSERT_SECONDS_ABSOLUTE (Atom (5 ∷ []) ∷ Atom text ∷ [])) ≡ Reads (AssertSecondsAbsolute (pos 5))
unfolding shortest_atom without_sign_bytes
assert_seconds_absolute = refl

assert_height_relative : condition_of (condition ASSERT_HEIGHT_RELATIVE (Atom (5 ∷ []) ∷ Atom text ∷ [])) ≡ Reads (AssertHeightRelative (pos 5))
unfolding shortest_atom without_sign_bytes
assert_height_relative = refl

assert_height_absolute : condition_of (condition ASSERT_HEIGHT_ABSOLUTE (Atom (5 ∷ []) ∷ Atom text ∷ [])) ≡ Reads (AssertHeightAbsolute (pos 5))
unfolding shortest_atom without_sign_bytes
assert_height_absolute = refl

assert_before_seconds_relative : condition_of (condition ASSERT_BEFORE_SECONDS_RELATIVE (Atom (5 ∷ []) ∷ Atom text ∷ [])) ≡ Reads (AssertBeforeSecondsRelative (pos 5))
unfolding shortest_atom without_sign_bytes
assert_before_seconds_relative = refl

assert_before_seconds_absolute : condition_of (condition ASSERT_BEFORE_SECONDS_ABSOLUTE (Atom (5 ∷ []) ∷ Atom text ∷ [])) ≡ Reads (AssertBeforeSecondsAbsolute (pos 5))
unfolding shortest_atom without_sign_bytes
assert_before_seconds_absolute = refl

assert_before_height_relative : condition_of (condition ASSERT_BEFORE_HEIGHT_RELATIVE (Atom (5 ∷ []) ∷ Atom text ∷ [])) ≡ Reads (AssertBeforeHeightRelative (pos 5))
unfolding shortest_atom without_sign_bytes
assert_before_height_relative = refl

assert_before_height_absolute : condition_of (condition ASSERT_BEFORE_HEIGHT_ABSOLUTE (Atom (5 ∷ []) ∷ Atom text ∷ [])) ≡ Reads (AssertBeforeHeightAbsolute (pos 5))
unfolding shortest_atom without_sign_bytes
assert_before_height_absolute = refl

send_to_nobody_named : condition_of (condition SEND_MESSAGE (Atom [] ∷ Atom text ∷ Atom text ∷ [])) ≡ Reads (SendMessage 0 text (party None None None None))
unfolding shortest_atom without_sign_bytes
send_to_nobody_named = refl

send_to_an_id : condition_of (condition SEND_MESSAGE (Atom (23 ∷ []) ∷ Atom text ∷ Atom (bytes32 5) ∷ Atom text ∷ [])) ≡ Reads (SendMessage 23 text (party (Some (hash 5)) None None None))
unfolding shortest_atom without_sign_bytes
send_to_an_id = refl

send_to_a_parent_and_an_amount : condition_of (condition SEND_MESSAGE (Atom (5 ∷ []) ∷ Atom text ∷ Atom (bytes32 5) ∷ Atom nine_hundred ∷ Atom text ∷ [])) ≡ Reads (SendMessage 5 text (party None (Some (hash 5)) None (Some 900)))
unfolding shortest_atom without_sign_bytes
send_to_a_parent_and_an_amount = refl

send_to_parent_and_puzzle : condition_of (condition SEND_MESSAGE (Atom (62 ∷ []) ∷ Atom text ∷ Atom (bytes32 5) ∷ Atom (bytes32 6) ∷ Atom text ∷ [])) ≡ Reads (SendMessage 62 text (party None (Some (hash 5)) (Some (hash 6)) None))
unfolding shortest_atom without_sign_bytes
send_to_parent_and_puzzle = refl

receive_of_an_id : condition_of (condition RECEIVE_MESSAGE (Atom (58 ∷ []) ∷ Atom text ∷ Atom (bytes32 5) ∷ Atom text ∷ [])) ≡ Reads (ReceiveMessage 58 text (party (Some (hash 5)) None None None))
unfolding shortest_atom without_sign_bytes
receive_of_an_id = refl

receive_of_a_puzzle : condition_of (condition RECEIVE_MESSAGE (Atom (23 ∷ []) ∷ Atom text ∷ Atom (bytes32 5) ∷ Atom text ∷ [])) ≡ Reads (ReceiveMessage 23 text (party None None (Some (hash 5)) None))
unfolding shortest_atom without_sign_bytes
receive_of_a_puzzle = refl

receive_of_an_amount : condition_of (condition RECEIVE_MESSAGE (Atom (15 ∷ []) ∷ Atom text ∷ Atom nine_hundred ∷ Atom text ∷ [])) ≡ Reads (ReceiveMessage 15 text (party None None None (Some 900)))
unfolding shortest_atom without_sign_bytes
receive_of_an_amount = refl

a_moment_before_zero : condition_of (condition ASSERT_HEIGHT_RELATIVE (Atom (0xff ∷ []) ∷ [])) ≡ Reads (AssertHeightRelative (negsuc 0))
unfolding shortest_atom without_sign_bytes
a_moment_before_zero = refl

the_widest_moment : condition_of (condition ASSERT_HEIGHT_RELATIVE (Atom (0x80 ∷ replicate 15 0) ∷ [])) ≡ Reads (AssertHeightRelative (negsuc (2 ^ 127 - 1)))
unfolding shortest_atom without_sign_bytes
the_widest_moment = refl

the_greatest_amount : condition_of (condition RESERVE_FEE (Atom (0 ∷ replicate 8 0xff) ∷ [])) ≡ Reads (ReserveFee (2 ^ 64 - 1))
unfolding shortest_atom without_sign_bytes
the_greatest_amount = refl

the_amount_of_nil : condition_of (condition RESERVE_FEE (Atom [] ∷ [])) ≡ Reads (ReserveFee 0)
unfolding shortest_atom without_sign_bytes
the_amount_of_nil = refl

the_longest_text : condition_of (condition CREATE_COIN_ANNOUNCEMENT (Atom (replicate 1024 9) ∷ [])) ≡ Reads (CreateCoinAnnouncement (replicate 1024 9))
unfolding shortest_atom without_sign_bytes
the_longest_text = refl

a_rest_that_is_no_list : condition_of (Pair (Atom (RESERVE_FEE ∷ [])) (Pair (Atom nine_hundred) (Atom text))) ≡ Reads (ReserveFee 900)
unfolding shortest_atom without_sign_bytes
a_rest_that_is_no_list = refl
