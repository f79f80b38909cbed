-- The table of conditions in numbers: code, name, cost and what operands stand in front. Source: Chia documentation of
-- conditions; the kinds are this project's own.
use Rattle.std.specs.Prelude.{ℕ, List, [], ◌∷◌, codes}
use Rattle.case_table.specs.declared.condition_table.TheConstants.{FREE, SIGNATURE_COST, CREATE_COIN_COST, NO_OPERAND, KEY_AND_TEXT, HASH_AND_AMOUNT, AMOUNT, TEXT, HASH, MOMENT, MESSAGE_TO, MESSAGE_FROM}

pub data Kind : Type 0 where
  NoOperand : Kind
  KeyAndText : Kind
  HashAndAmount : Kind
  Amount : Kind
  Text : Kind
  Hash : Kind
  Moment : Kind
  MessageTo : Kind
  MessageFrom : Kind

abbrev pub kind_number : Kind → ℕ
kind_number NoOperand = NO_OPERAND
kind_number KeyAndText = KEY_AND_TEXT
kind_number HashAndAmount = HASH_AND_AMOUNT
kind_number Amount = AMOUNT
kind_number Text = TEXT
kind_number Hash = HASH
kind_number Moment = MOMENT
kind_number MessageTo = MESSAGE_TO
kind_number MessageFrom = MESSAGE_FROM

-- with fewer operands nothing is read; a message may have up to three more, as its mode tells
abbrev pub least_count : Kind → ℕ
least_count NoOperand = 0
least_count KeyAndText = 2
least_count HashAndAmount = 2
least_count Amount = 1
least_count Text = 1
least_count Hash = 1
least_count Moment = 1
least_count MessageTo = 2
least_count MessageFrom = 2

pub record ConditionRow : Type 0 where
  pub code : ℕ
  pub name : List ℕ
  pub cost : ℕ
  pub kind : Kind

abbrev pub listed : ℕ → List ℕ → ℕ → Kind → ConditionRow
listed code name cost kind = record { code = code; name = name; cost = cost; kind = kind }

abbrev pub conditions : List ConditionRow
conditions =
    listed 1 (codes "REMARK") FREE NoOperand
    ∷ listed 43 (codes "AGG_SIG_PARENT") SIGNATURE_COST KeyAndText
    ∷ listed 44 (codes "AGG_SIG_PUZZLE") SIGNATURE_COST KeyAndText
    ∷ listed 45 (codes "AGG_SIG_AMOUNT") SIGNATURE_COST KeyAndText
    ∷ listed 46 (codes "AGG_SIG_PUZZLE_AMOUNT") SIGNATURE_COST KeyAndText
    ∷ listed 47 (codes "AGG_SIG_PARENT_AMOUNT") SIGNATURE_COST KeyAndText
    ∷ listed 48 (codes "AGG_SIG_PARENT_PUZZLE") SIGNATURE_COST KeyAndText
    ∷ listed 49 (codes "AGG_SIG_UNSAFE") SIGNATURE_COST KeyAndText
    ∷ listed 50 (codes "AGG_SIG_ME") SIGNATURE_COST KeyAndText
    ∷ listed 51 (codes "CREATE_COIN") CREATE_COIN_COST HashAndAmount
    ∷ listed 52 (codes "RESERVE_FEE") FREE Amount
    ∷ listed 60 (codes "CREATE_COIN_ANNOUNCEMENT") FREE Text
    ∷ listed 61 (codes "ASSERT_COIN_ANNOUNCEMENT") FREE Hash
    ∷ listed 62 (codes "CREATE_PUZZLE_ANNOUNCEMENT") FREE Text
    ∷ listed 63 (codes "ASSERT_PUZZLE_ANNOUNCEMENT") FREE Hash
    ∷ listed 64 (codes "ASSERT_CONCURRENT_SPEND") FREE Hash
    ∷ listed 65 (codes "ASSERT_CONCURRENT_PUZZLE") FREE Hash
    ∷ listed 66 (codes "SEND_MESSAGE") FREE MessageTo
    ∷ listed 67 (codes "RECEIVE_MESSAGE") FREE MessageFrom
    ∷ listed 70 (codes "ASSERT_MY_COIN_ID") FREE Hash
    ∷ listed 71 (codes "ASSERT_MY_PARENT_ID") FREE Hash
    ∷ listed 72 (codes "ASSERT_MY_PUZZLEHASH") FREE Hash
    ∷ listed 73 (codes "ASSERT_MY_AMOUNT") FREE Amount
    ∷ listed 74 (codes "ASSERT_MY_BIRTH_SECONDS") FREE Moment
    ∷ listed 75 (codes "ASSERT_MY_BIRTH_HEIGHT") FREE Moment
    ∷ listed 76 (codes "ASSERT_EPHEMERAL") FREE NoOperand
    ∷ listed 80 (codes "ASSERT_SECONDS_RELATIVE") FREE Moment
    ∷ listed 81 (codes "ASSERT_SECONDS_ABSOLUTE") FREE Moment
    ∷ listed 82 (codes "ASSERT_HEIGHT_RELATIVE") FREE Moment
    ∷ listed 83 (codes "ASSERT_HEIGHT_ABSOLUTE") FREE Moment
    ∷ listed 84 (codes "ASSERT_BEFORE_SECONDS_RELATIVE") FREE Moment
    ∷ listed 85 (codes "ASSERT_BEFORE_SECONDS_ABSOLUTE") FREE Moment
    ∷ listed 86 (codes "ASSERT_BEFORE_HEIGHT_RELATIVE") FREE Moment
    ∷ listed 87 (codes "ASSERT_BEFORE_HEIGHT_ABSOLUTE") FREE Moment
    ∷ []
