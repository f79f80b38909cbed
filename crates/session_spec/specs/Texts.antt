-- What is written for a history. Source: this project's own.
use Rattle.std.specs.Prelude.{ℕ, suc, List, [], ◌∷◌, ◌++◌, length, Option, Some, None, codes}
use Rattle.std.specs.List.{flat_map}
use Rattle.std.specs.Fmt.{decimal}
use Rattle.hex.specs.Hex.{encode_lower}
pub use Rattle.clvm_spec.specs.Lines.{line_feed}
use Rattle.coin_facts.specs.declared.hash32.Hash32.{Hash32}
pub use Rattle.session_spec.specs.Words.{spaced, id_word, number_word, spent_word}
use Rattle.chain_spec.specs.declared.chain.Record.{Record}
use Rattle.pool_spec.specs.Admission.{Admission, Admitted, Refused}
use Rattle.pool_spec.specs.Step.{Reply, Answered, NoCoin, Found, Memory}
use Rattle.pool_spec.specs.History.{Entry}

abbrev pub admission_text : Admission → List ℕ
admission_text (Admitted id fee cost replaced) = codes "admitted" ++ id_word id ++ number_word fee ++ number_word cost ++ flat_map id_word replaced
admission_text (Refused rule place) = codes "refused" ++ number_word rule ++ number_word place

abbrev pub coin_text : Record → List ℕ
coin_text found =
    codes "coin" ++ id_word found.coin.parent ++ id_word found.coin.puzzle_hash ++ number_word found.coin.amount
    ++ number_word found.height ++ number_word found.seconds ++ spent_word found.spent

abbrev pub reply_text : Reply → List ℕ
reply_text (Answered admission) = admission_text admission
reply_text NoCoin = codes "coin none"
reply_text (Found found) = coin_text found
reply_text Memory = codes "memory"

-- place, lane, number in the lane, reply
abbrev pub entry_line : ℕ → Entry → List ℕ
entry_line place entry = decimal place ++ number_word entry.lane ++ number_word entry.number ++ spaced (reply_text entry.reply) ++ line_feed

abbrev pub lines_from : ℕ → List Entry → List ℕ
lines_from place [] = []
lines_from place (entry ∷ entries) = entry_line place entry ++ lines_from (suc place) entries

-- a line for each entry, and the number of entries
abbrev pub output_of : List Entry → List ℕ
output_of entries = lines_from 0 entries ++ codes "end" ++ number_word (length entries) ++ line_feed
