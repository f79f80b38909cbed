-- The library texts that are built in. Source: the names and codes of conditions are those of the Chia documentation;
-- the texts themselves are this project's own.
use Rattle.std.specs.Prelude.{ℕ, List, [], ◌∷◌, ◌++◌, Option, Some, None, bytes_eq, codes, flat_map, if◌then◌else◌}
use Rattle.std.specs.Fmt.{decimal}
use Rattle.clvm_spec.specs.Lines.{line_feed}

-- a condition, by its name and its code
pub record ConditionCode : Type 0 where
  pub name : List ℕ
  pub code : ℕ

abbrev pub condition : ℕ → List ℕ → ConditionCode
condition code name = record { name = name; code = code }

abbrev pub condition_codes : List ConditionCode
condition_codes =
    condition 1 (codes "REMARK")
    ∷ condition 43 (codes "AGG_SIG_PARENT")
    ∷ condition 44 (codes "AGG_SIG_PUZZLE")
    ∷ condition 45 (codes "AGG_SIG_AMOUNT")
    ∷ condition 46 (codes "AGG_SIG_PUZZLE_AMOUNT")
    ∷ condition 47 (codes "AGG_SIG_PARENT_AMOUNT")
    ∷ condition 48 (codes "AGG_SIG_PARENT_PUZZLE")
    ∷ condition 49 (codes "AGG_SIG_UNSAFE")
    ∷ condition 50 (codes "AGG_SIG_ME")
    ∷ condition 51 (codes "CREATE_COIN")
    ∷ condition 52 (codes "RESERVE_FEE")
    ∷ condition 60 (codes "CREATE_COIN_ANNOUNCEMENT")
    ∷ condition 61 (codes "ASSERT_COIN_ANNOUNCEMENT")
    ∷ condition 62 (codes "CREATE_PUZZLE_ANNOUNCEMENT")
    ∷ condition 63 (codes "ASSERT_PUZZLE_ANNOUNCEMENT")
    ∷ condition 64 (codes "ASSERT_CONCURRENT_SPEND")
    ∷ condition 65 (codes "ASSERT_CONCURRENT_PUZZLE")
    ∷ condition 66 (codes "SEND_MESSAGE")
    ∷ condition 67 (codes "RECEIVE_MESSAGE")
    ∷ condition 70 (codes "ASSERT_MY_COIN_ID")
    ∷ condition 71 (codes "ASSERT_MY_PARENT_ID")
    ∷ condition 72 (codes "ASSERT_MY_PUZZLEHASH")
    ∷ condition 73 (codes "ASSERT_MY_AMOUNT")
    ∷ condition 74 (codes "ASSERT_MY_BIRTH_SECONDS")
    ∷ condition 75 (codes "ASSERT_MY_BIRTH_HEIGHT")
    ∷ condition 76 (codes "ASSERT_EPHEMERAL")
    ∷ condition 80 (codes "ASSERT_SECONDS_RELATIVE")
    ∷ condition 81 (codes "ASSERT_SECONDS_ABSOLUTE")
    ∷ condition 82 (codes "ASSERT_HEIGHT_RELATIVE")
    ∷ condition 83 (codes "ASSERT_HEIGHT_ABSOLUTE")
    ∷ condition 84 (codes "ASSERT_BEFORE_SECONDS_RELATIVE")
    ∷ condition 85 (codes "ASSERT_BEFORE_SECONDS_ABSOLUTE")
    ∷ condition 86 (codes "ASSERT_BEFORE_HEIGHT_RELATIVE")
    ∷ condition 87 (codes "ASSERT_BEFORE_HEIGHT_ABSOLUTE")
    ∷ []

abbrev pub line : List ℕ → List ℕ
line text = text ++ line_feed

-- one constant for each condition
abbrev pub constant_line : ConditionCode → List ℕ
constant_line row = line (codes "  (defconstant " ++ row.name ++ codes " " ++ decimal row.code ++ codes ")")

abbrev pub condition_codes_text : List ℕ
condition_codes_text = line (codes "(") ++ flat_map constant_line condition_codes ++ line (codes ")")

-- functions for tree hashes, of trees and of curried programs
abbrev pub tree_hash_text : List ℕ
tree_hash_text = flat_map line (
    codes "("
    ∷ codes "  (defun sha256tree (T)"
    ∷ codes "    (if (l T) (sha256 2 (sha256tree (f T)) (sha256tree (r T))) (sha256 1 T)))"
    ∷ codes "  (defun-inline quoted-hash (H) (sha256 2 (sha256 1 1) H))"
    ∷ codes "  (defun-inline form-hash (OP X Y)"
    ∷ codes "    (sha256 2 (sha256 1 OP) (sha256 2 X (sha256 2 Y (sha256 1 ())))))"
    ∷ codes "  (defun-inline curried-hash2 (P A B)"
    ∷ codes "    (form-hash 2 (quoted-hash P)"
    ∷ codes "      (form-hash 4 (quoted-hash A)"
    ∷ codes "        (form-hash 4 (quoted-hash B) (sha256 1 1)))))"
    ∷ codes ")"
    ∷ [])

unfoldable pub built_in : List ℕ → Option (List ℕ)
built_in name =
    if bytes_eq name (codes "condition_codes.clib") then Some condition_codes_text
    else if bytes_eq name (codes "tree_hash.clib") then Some tree_hash_text
    else None
