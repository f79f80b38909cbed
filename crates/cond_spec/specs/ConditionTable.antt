-- The table of conditions. Source: Chia documentation of conditions; the forms of operands are this project's own.
use Rattle.std.specs.Prelude.{ℕ, ◌==◌, List, [], ◌∷◌, Option, Some, None, codes}
use Rattle.std.specs.List.{find}
use Rattle.clvm_spec.specs.Tree.{Tree}
use Rattle.clvm_spec.specs.Evaluation.{is_byte}
use Rattle.coin_facts.specs.Atoms.{hash_of, key_of, amount_of}
use Rattle.cond_spec.specs.declared.codes.TheConstants.{REMARK, AGG_SIG_PARENT, AGG_SIG_PUZZLE, AGG_SIG_AMOUNT, AGG_SIG_PUZZLE_AMOUNT, AGG_SIG_PARENT_AMOUNT, AGG_SIG_PARENT_PUZZLE, AGG_SIG_UNSAFE, AGG_SIG_ME, CREATE_COIN, RESERVE_FEE, CREATE_COIN_ANNOUNCEMENT, ASSERT_COIN_ANNOUNCEMENT, CREATE_PUZZLE_ANNOUNCEMENT, ASSERT_PUZZLE_ANNOUNCEMENT, ASSERT_CONCURRENT_SPEND, ASSERT_CONCURRENT_PUZZLE, SEND_MESSAGE, RECEIVE_MESSAGE, ASSERT_MY_COIN_ID, ASSERT_MY_PARENT_ID, ASSERT_MY_PUZZLEHASH, ASSERT_MY_AMOUNT, ASSERT_MY_BIRTH_SECONDS, ASSERT_MY_BIRTH_HEIGHT, ASSERT_EPHEMERAL, ASSERT_SECONDS_RELATIVE, ASSERT_SECONDS_ABSOLUTE, ASSERT_HEIGHT_RELATIVE, ASSERT_HEIGHT_ABSOLUTE, ASSERT_BEFORE_SECONDS_RELATIVE, ASSERT_BEFORE_SECONDS_ABSOLUTE, ASSERT_BEFORE_HEIGHT_RELATIVE, ASSERT_BEFORE_HEIGHT_ABSOLUTE}
use Rattle.cond_spec.specs.declared.costs.TheConstants.{CREATE_COIN_COST, SIGNATURE_COST}
use Rattle.cond_spec.specs.declared.condition.Condition.{Condition}
use Rattle.cond_spec.specs.declared.condition.Condition.TheVariants.{Remark, AggSigParent, AggSigPuzzle, AggSigAmount, AggSigPuzzleAmount, AggSigParentAmount, AggSigParentPuzzle, AggSigUnsafe, AggSigMe, CreateCoin, ReserveFee, CreateCoinAnnouncement, AssertCoinAnnouncement, CreatePuzzleAnnouncement, AssertPuzzleAnnouncement, AssertConcurrentSpend, AssertConcurrentPuzzle, SendMessage, ReceiveMessage, AssertMyCoinId, AssertMyParentId, AssertMyPuzzleHash, AssertMyAmount, AssertMyBirthSeconds, AssertMyBirthHeight, AssertEphemeral, AssertSecondsRelative, AssertSecondsAbsolute, AssertHeightRelative, AssertHeightAbsolute, AssertBeforeSecondsRelative, AssertBeforeSecondsAbsolute, AssertBeforeHeightRelative, AssertBeforeHeightAbsolute}
use Rattle.cond_spec.specs.Operands.{text_of, moment_of, none, one, two}
use Rattle.cond_spec.specs.Parties.{sender_side, receiver_side, message}

-- a condition's code, name and cost, and what is read of its operands, from the front
pub record Row : Type 0 where
  pub code : ℕ
  pub name : List ℕ
  pub cost : ℕ
  pub read : Tree → Option Condition

abbrev pub row : ℕ → List ℕ → ℕ → (Tree → Option Condition) → Row
row code name cost read = record { code = code; name = name; cost = cost; read = read }

abbrev pub rows : List Row
rows =
    row REMARK (codes "REMARK") 0 (none Remark)
    ∷ row AGG_SIG_PARENT (codes "AGG_SIG_PARENT") SIGNATURE_COST (two key_of text_of AggSigParent)
    ∷ row AGG_SIG_PUZZLE (codes "AGG_SIG_PUZZLE") SIGNATURE_COST (two key_of text_of AggSigPuzzle)
    ∷ row AGG_SIG_AMOUNT (codes "AGG_SIG_AMOUNT") SIGNATURE_COST (two key_of text_of AggSigAmount)
    ∷ row AGG_SIG_PUZZLE_AMOUNT (codes "AGG_SIG_PUZZLE_AMOUNT") SIGNATURE_COST (two key_of text_of AggSigPuzzleAmount)
    ∷ row AGG_SIG_PARENT_AMOUNT (codes "AGG_SIG_PARENT_AMOUNT") SIGNATURE_COST (two key_of text_of AggSigParentAmount)
    ∷ row AGG_SIG_PARENT_PUZZLE (codes "AGG_SIG_PARENT_PUZZLE") SIGNATURE_COST (two key_of text_of AggSigParentPuzzle)
    ∷ row AGG_SIG_UNSAFE (codes "AGG_SIG_UNSAFE") SIGNATURE_COST (two key_of text_of AggSigUnsafe)
    ∷ row AGG_SIG_ME (codes "AGG_SIG_ME") SIGNATURE_COST (two key_of text_of AggSigMe)
    ∷ row CREATE_COIN (codes "CREATE_COIN") CREATE_COIN_COST (two hash_of amount_of CreateCoin)
    ∷ row RESERVE_FEE (codes "RESERVE_FEE") 0 (one amount_of ReserveFee)
    ∷ row CREATE_COIN_ANNOUNCEMENT (codes "CREATE_COIN_ANNOUNCEMENT") 0 (one text_of CreateCoinAnnouncement)
    ∷ row ASSERT_COIN_ANNOUNCEMENT (codes "ASSERT_COIN_ANNOUNCEMENT") 0 (one hash_of AssertCoinAnnouncement)
    ∷ row CREATE_PUZZLE_ANNOUNCEMENT (codes "CREATE_PUZZLE_ANNOUNCEMENT") 0 (one text_of CreatePuzzleAnnouncement)
    ∷ row ASSERT_PUZZLE_ANNOUNCEMENT (codes "ASSERT_PUZZLE_ANNOUNCEMENT") 0 (one hash_of AssertPuzzleAnnouncement)
    ∷ row ASSERT_CONCURRENT_SPEND (codes "ASSERT_CONCURRENT_SPEND") 0 (one hash_of AssertConcurrentSpend)
    ∷ row ASSERT_CONCURRENT_PUZZLE (codes "ASSERT_CONCURRENT_PUZZLE") 0 (one hash_of AssertConcurrentPuzzle)
    ∷ row SEND_MESSAGE (codes "SEND_MESSAGE") 0 (message receiver_side SendMessage)
    ∷ row RECEIVE_MESSAGE (codes "RECEIVE_MESSAGE") 0 (message sender_side ReceiveMessage)
    ∷ row ASSERT_MY_COIN_ID (codes "ASSERT_MY_COIN_ID") 0 (one hash_of AssertMyCoinId)
    ∷ row ASSERT_MY_PARENT_ID (codes "ASSERT_MY_PARENT_ID") 0 (one hash_of AssertMyParentId)
    ∷ row ASSERT_MY_PUZZLEHASH (codes "ASSERT_MY_PUZZLEHASH") 0 (one hash_of AssertMyPuzzleHash)
    ∷ row ASSERT_MY_AMOUNT (codes "ASSERT_MY_AMOUNT") 0 (one amount_of AssertMyAmount)
    ∷ row ASSERT_MY_BIRTH_SECONDS (codes "ASSERT_MY_BIRTH_SECONDS") 0 (one moment_of AssertMyBirthSeconds)
    ∷ row ASSERT_MY_BIRTH_HEIGHT (codes "ASSERT_MY_BIRTH_HEIGHT") 0 (one moment_of AssertMyBirthHeight)
    ∷ row ASSERT_EPHEMERAL (codes "ASSERT_EPHEMERAL") 0 (none AssertEphemeral)
    ∷ row ASSERT_SECONDS_RELATIVE (codes "ASSERT_SECONDS_RELATIVE") 0 (one moment_of AssertSecondsRelative)
    ∷ row ASSERT_SECONDS_ABSOLUTE (codes "ASSERT_SECONDS_ABSOLUTE") 0 (one moment_of AssertSecondsAbsolute)
    ∷ row ASSERT_HEIGHT_RELATIVE (codes "ASSERT_HEIGHT_RELATIVE") 0 (one moment_of AssertHeightRelative)
    ∷ row ASSERT_HEIGHT_ABSOLUTE (codes "ASSERT_HEIGHT_ABSOLUTE") 0 (one moment_of AssertHeightAbsolute)
    ∷ row ASSERT_BEFORE_SECONDS_RELATIVE (codes "ASSERT_BEFORE_SECONDS_RELATIVE") 0 (one moment_of AssertBeforeSecondsRelative)
    ∷ row ASSERT_BEFORE_SECONDS_ABSOLUTE (codes "ASSERT_BEFORE_SECONDS_ABSOLUTE") 0 (one moment_of AssertBeforeSecondsAbsolute)
    ∷ row ASSERT_BEFORE_HEIGHT_RELATIVE (codes "ASSERT_BEFORE_HEIGHT_RELATIVE") 0 (one moment_of AssertBeforeHeightRelative)
    ∷ row ASSERT_BEFORE_HEIGHT_ABSOLUTE (codes "ASSERT_BEFORE_HEIGHT_ABSOLUTE") 0 (one moment_of AssertBeforeHeightAbsolute)
    ∷ []

-- the row of an atom that is a code, written as one byte
abbrev pub row_of_atom : List ℕ → Option Row
row_of_atom atom = find (λ row. is_byte row.code atom) rows

-- ---- the way back

abbrev pub code_of : Condition → ℕ
code_of Remark = REMARK
code_of (AggSigParent key text) = AGG_SIG_PARENT
code_of (AggSigPuzzle key text) = AGG_SIG_PUZZLE
code_of (AggSigAmount key text) = AGG_SIG_AMOUNT
code_of (AggSigPuzzleAmount key text) = AGG_SIG_PUZZLE_AMOUNT
code_of (AggSigParentAmount key text) = AGG_SIG_PARENT_AMOUNT
code_of (AggSigParentPuzzle key text) = AGG_SIG_PARENT_PUZZLE
code_of (AggSigUnsafe key text) = AGG_SIG_UNSAFE
code_of (AggSigMe key text) = AGG_SIG_ME
code_of (CreateCoin hash amount) = CREATE_COIN
code_of (ReserveFee amount) = RESERVE_FEE
code_of (CreateCoinAnnouncement text) = CREATE_COIN_ANNOUNCEMENT
code_of (AssertCoinAnnouncement hash) = ASSERT_COIN_ANNOUNCEMENT
code_of (CreatePuzzleAnnouncement text) = CREATE_PUZZLE_ANNOUNCEMENT
code_of (AssertPuzzleAnnouncement hash) = ASSERT_PUZZLE_ANNOUNCEMENT
code_of (AssertConcurrentSpend hash) = ASSERT_CONCURRENT_SPEND
code_of (AssertConcurrentPuzzle hash) = ASSERT_CONCURRENT_PUZZLE
code_of (SendMessage mode text receiver) = SEND_MESSAGE
code_of (ReceiveMessage mode text sender) = RECEIVE_MESSAGE
code_of (AssertMyCoinId hash) = ASSERT_MY_COIN_ID
code_of (AssertMyParentId hash) = ASSERT_MY_PARENT_ID
code_of (AssertMyPuzzleHash hash) = ASSERT_MY_PUZZLEHASH
code_of (AssertMyAmount amount) = ASSERT_MY_AMOUNT
code_of (AssertMyBirthSeconds moment) = ASSERT_MY_BIRTH_SECONDS
code_of (AssertMyBirthHeight moment) = ASSERT_MY_BIRTH_HEIGHT
code_of AssertEphemeral = ASSERT_EPHEMERAL
code_of (AssertSecondsRelative moment) = ASSERT_SECONDS_RELATIVE
code_of (AssertSecondsAbsolute moment) = ASSERT_SECONDS_ABSOLUTE
code_of (AssertHeightRelative moment) = ASSERT_HEIGHT_RELATIVE
code_of (AssertHeightAbsolute moment) = ASSERT_HEIGHT_ABSOLUTE
code_of (AssertBeforeSecondsRelative moment) = ASSERT_BEFORE_SECONDS_RELATIVE
code_of (AssertBeforeSecondsAbsolute moment) = ASSERT_BEFORE_SECONDS_ABSOLUTE
code_of (AssertBeforeHeightRelative moment) = ASSERT_BEFORE_HEIGHT_RELATIVE
code_of (AssertBeforeHeightAbsolute moment) = ASSERT_BEFORE_HEIGHT_ABSOLUTE

-- what a row costs; each condition has one
abbrev pub cost_of_row : Option Row → ℕ
cost_of_row None = 0
cost_of_row (Some row) = row.cost

abbrev pub cost_of_condition : Condition → ℕ
cost_of_condition condition = cost_of_row (find (λ row. row.code == code_of condition) rows)
