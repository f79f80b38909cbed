-- What is written for a session and its history. Source: this project's own.
use Rattle.std.specs.Prelude.{ℕ, suc, List, [], ◌∷◌, ◌++◌, length, count_by, Bool, true, false, codes, if◌then◌else◌}
use Rattle.std.specs.List.{flat_map}
use Rattle.std.specs.Fmt.{decimal}
use Rattle.clvm_spec.specs.Lines.{line_feed}
use Rattle.step_spec.specs.declared.reply.Reply.{Reply}
use Rattle.step_spec.specs.declared.reply.Reply.TheVariants.{Admitted, Block, Farmed, Peak, NoCoin, Coin, Pool, Refused, Memory}
use Rattle.step_spec.specs.declared.entry.Entry.{Entry}
use Rattle.session_spec.specs.Words.{spaced, bytes_word, id_word, number_word, spent_word}
use Rattle.session_spec.specs.LineMembers.{Compiled}
use Rattle.session_spec.specs.Sessions.{Session}

abbrev pub reply_words : Reply → List ℕ
reply_words (Admitted id fee cost replaced) = codes "admitted" ++ id_word id ++ number_word fee ++ number_word cost ++ flat_map id_word replaced
reply_words (Block fee cost bytes) = codes "block" ++ number_word fee ++ number_word cost ++ bytes_word bytes
reply_words (Farmed height hash fee cost bytes) =
    codes "farmed" ++ number_word height ++ id_word hash ++ number_word fee ++ number_word cost ++ bytes_word bytes
reply_words (Peak height hash seconds) = codes "peak" ++ number_word height ++ id_word hash ++ number_word seconds
reply_words NoCoin = codes "coin none"
reply_words (Coin parent puzzle_hash amount height seconds spent) =
    codes "coin" ++ id_word parent ++ id_word puzzle_hash ++ number_word amount ++ number_word height ++ number_word seconds ++ spent_word spent
reply_words (Pool ids) = codes "pool" ++ number_word (length ids) ++ flat_map id_word ids
reply_words (Refused rule place) = codes "refused" ++ number_word rule ++ number_word place
reply_words Memory = codes "memory"

-- a module line's name and code
abbrev pub code_line : Compiled → List ℕ
code_line m = codes "code " ++ m.name ++ bytes_word m.code ++ line_feed

-- place, lane, number in the lane, reply
abbrev pub history_line : ℕ → Entry → List ℕ
history_line place entry = decimal place ++ number_word entry.lane ++ number_word entry.number ++ spaced (reply_words entry.reply) ++ line_feed

abbrev pub history_lines : ℕ → List Entry → List ℕ
history_lines place [] = []
history_lines place (entry ∷ entries) = history_line place entry ++ history_lines (suc place) entries

abbrev pub end_line : List Entry → List ℕ
end_line entries = codes "end" ++ number_word (length entries) ++ line_feed

-- the codes, a line for each entry, and the number of entries
abbrev pub whole_output : Session → List Entry → List ℕ
whole_output session entries = flat_map code_line session.modules ++ history_lines 0 entries ++ end_line entries

-- ---- the summary

abbrev pub is_admitted : Reply → Bool
is_admitted (Admitted id fee cost replaced) = true
is_admitted _ = false

abbrev pub is_refused : Reply → Bool
is_refused (Refused rule place) = true
is_refused _ = false

abbrev pub is_farmed : Reply → Bool
is_farmed (Farmed height hash fee cost bytes) = true
is_farmed _ = false

abbrev pub is_memory : Reply → Bool
is_memory Memory = true
is_memory _ = false

-- how many replies are so
abbrev pub count_of : (Reply → Bool) → List Entry → ℕ
count_of test entries = count_by (λ entry. test entry.reply) entries

abbrev pub counted_word : List ℕ → (Reply → Bool) → List Entry → List ℕ
counted_word word test entries = spaced word ++ number_word (count_of test entries)

-- how many entries there are, and how many were admitted, refused, farmed, or answered for want of memory
abbrev pub summary_line : List Entry → List ℕ
summary_line entries =
    codes "done" ++ number_word (length entries)
    ++ counted_word (codes "admitted") is_admitted entries
    ++ counted_word (codes "refused") is_refused entries
    ++ counted_word (codes "farmed") is_farmed entries
    ++ counted_word (codes "memory") is_memory entries
    ++ line_feed

abbrev pub session_output : (summary : Bool) → Session → List Entry → List ℕ
session_output true session entries = summary_line entries
session_output false session entries = whole_output session entries
