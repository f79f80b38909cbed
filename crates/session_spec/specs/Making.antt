-- The session that `make` generates. Source: this project's own.
use Rattle.std.specs.Prelude.{ℕ, zero, suc, ◌+◌, ◌-◌, ◌*◌, ◌/◌, ◌%◌, ◌^◌, ◌==◌, List, [], ◌∷◌, ◌++◌, replicate, Bool, codes, if◌then◌else◌}
use Rattle.std.specs.List.{flat_map, range_with_len}
use Rattle.std.specs.Fmt.{decimal}
use Rattle.std.specs.Int.{to_be_bytes, w64}
use Rattle.hex.specs.Hex.{encode_lower}
use Rattle.clvm_spec.specs.Lines.{line_feed}
use Rattle.clvm_spec.specs.Tree.{Tree, Atom, list_tree}
use Rattle.clvm_spec.specs.Spelling.{spelling}
use Rattle.clvm_spec.specs.Hashing.{tree_hash}
use Rattle.coin_facts.specs.Atoms.{number_atom}
use Rattle.cond_spec.specs.declared.codes.TheConstants.{CREATE_COIN}
use Rattle.session_spec.specs.declared.making.TheConstants.{MULTIPLIER, INCREMENT, LEAST_AMOUNT, FEE, FARM_EVERY, SECONDS_APART}

-- ---- numbers that follow a seed

abbrev pub number_behind : (seed count : ℕ) → ℕ
number_behind seed zero = seed
number_behind seed (suc count) = (number_behind seed count * MULTIPLIER + INCREMENT) % 2 ^ 64

-- ---- what stands in the lines

-- 32 bytes of 11 as genesis data, of 22 as reward hash
abbrev pub genesis : List ℕ
genesis = replicate 32 17

abbrev pub reward_hash : List ℕ
reward_hash = replicate 32 34

-- the puzzle whose solution is its conditions: the path to the whole environment
abbrev pub puzzle : Tree
puzzle = Atom (1 ∷ [])

abbrev pub puzzle_hash : List ℕ
puzzle_hash = tree_hash puzzle

-- ((51 PUZZLE_HASH N)): a coin of this amount for the same puzzle
abbrev pub payment : ℕ → Tree
payment amount = list_tree (list_tree (Atom (CREATE_COIN ∷ []) ∷ Atom puzzle_hash ∷ number_atom amount ∷ []) ∷ [])

-- Every eighth command is a farm, the others are admits.
abbrev pub is_farm : ℕ → Bool
is_farm i = i % FARM_EVERY == FARM_EVERY - 1

-- a coin of its own for each admit: its number as parent, and the top 20 bits of a number of the list above the least amount
abbrev pub parent_of : ℕ → List ℕ
parent_of i = replicate 24 0 ++ to_be_bytes w64 i

abbrev pub amount_of_coin : (seed i : ℕ) → ℕ
amount_of_coin seed i = LEAST_AMOUNT + number_behind seed (suc i) / 2 ^ 44

-- ---- lines

abbrev pub coin_object : (seed i : ℕ) → List ℕ
coin_object seed i =
    codes "{\"parent_coin_info\":\"" ++ encode_lower (parent_of i) ++ codes "\",\"puzzle_hash\":\"" ++ encode_lower puzzle_hash
    ++ codes "\",\"amount\":" ++ decimal (amount_of_coin seed i) ++ codes "}"

abbrev pub made_header : (lanes : ℕ) → List ℕ
made_header lanes =
    codes "{\"session\":1,\"genesis\":\"" ++ encode_lower genesis ++ codes "\",\"seconds\":0,\"lanes\":" ++ decimal lanes ++ codes "}" ++ line_feed

abbrev pub made_coin : (seed i : ℕ) → List ℕ
made_coin seed i = codes "{\"coin\":" ++ coin_object seed i ++ codes "}" ++ line_feed

-- The bundle leaves a fee of its coin.
abbrev pub made_admit : (seed lanes i : ℕ) → List ℕ
made_admit seed lanes i =
    codes "{\"lane\":" ++ decimal (i % lanes) ++ codes ",\"do\":\"admit\",\"bundle\":{\"coin_spends\":[{\"coin\":" ++ coin_object seed i
    ++ codes ",\"puzzle_reveal\":\"" ++ encode_lower (spelling puzzle)
    ++ codes "\",\"solution\":\"" ++ encode_lower (spelling (payment (amount_of_coin seed i - FEE)))
    ++ codes "\"}],\"aggregated_signature\":\"\"}}" ++ line_feed

abbrev pub made_farm : ℕ → List ℕ
made_farm i =
    codes "{\"lane\":0,\"do\":\"farm\",\"seconds\":" ++ decimal (SECONDS_APART * (i + 1)) ++ codes ",\"reward_hash\":\"" ++ encode_lower reward_hash ++ codes "\"}" ++ line_feed

abbrev pub coin_if_admit : (seed i : ℕ) → List ℕ
coin_if_admit seed i = if is_farm i then [] else made_coin seed i

abbrev pub made_command : (seed lanes i : ℕ) → List ℕ
made_command seed lanes i = if is_farm i then made_farm i else made_admit seed lanes i

-- the header, a coin for each admit, and the commands
unfoldable pub generated_session : (seed commands lanes : ℕ) → List ℕ
generated_session seed commands lanes =
    made_header lanes
    ++ flat_map (coin_if_admit seed) (range_with_len 0 commands)
    ++ flat_map (made_command seed lanes) (range_with_len 0 commands)
