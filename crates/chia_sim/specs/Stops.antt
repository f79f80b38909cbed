-- What the program says where a command isn't done. This project's own.
use Rattle.std.specs.Prelude.{◌≡◌, ℕ, ◌⊎◌, List, ◌++◌, string_bytes, codes}
use Rattle.ports_io.specs.declared.source.InputFault.{InputFault}
use Rattle.ports_io.specs.declared.source.InputFault.TheVariants as reading_fault
use Rattle.session_spec.specs.Texts.{line_feed}
use Rattle.tool_words.specs.declared.said.Command.{Command}
use Rattle.tool_words.specs.declared.said.WordsFault.{WordsFault}
use Rattle.tool_words.specs.declared.said.WordsFault.TheVariants as words_fault
use Rattle.chia_sim.specs.Outside.{Reading, Writing, FailsToRead, IsTooLong, Writes, FailsToWrite}
use Rattle.chia_sim.specs.Outputs.{HasOutput, HasFault}
use Rattle.chia_sim.specs.Headline.{IsOutput, IsFault}
use Rattle.chia_sim.specs.declared.answer.Answer.{Answer}
use Rattle.chia_sim.specs.declared.answer.Answer.TheVariants.{Output, Refusal}
use Rattle.chia_sim.specs.declared.stop.Stop.{Stop}
use Rattle.chia_sim.specs.declared.stop.Stop.TheVariants.{Words, ReadFault, OutOfMemory, TooLong}

abbrev pub status_of : Stop → ℕ
status_of Words = 2
status_of ReadFault = 3
status_of OutOfMemory = 5
status_of TooLong = 7

abbrev pub words_of : Stop → List ℕ
words_of Words = codes "words"
words_of ReadFault = codes "read fault"
words_of OutOfMemory = codes "memory"
words_of TooLong = codes "too long"

-- what was read, where reading it failed
abbrev pub HasCause : Reading → Stop → Type 0
HasCause reading Words = ⊥
HasCause reading ReadFault = FailsToRead reading
HasCause reading OutOfMemory = Unit {0}
HasCause reading TooLong = IsTooLong reading

abbrev pub stop_of_input : InputFault → Stop
stop_of_input reading_fault.Fault = ReadFault
stop_of_input reading_fault.TooLong = TooLong
stop_of_input reading_fault.OutOfMemory = OutOfMemory

abbrev pub stop_of_words : WordsFault → Stop
stop_of_words words_fault.Words = Words
stop_of_words words_fault.OutOfMemory = OutOfMemory

-- The text is the command's output for the input, or the line of a fault of it.
abbrev pub IsAnswer : Command → List ℕ → Answer → Type 0
IsAnswer it input (Output text) = HasOutput it input (string_bytes text)
IsAnswer it input (Refusal text) = (words : List ℕ) × HasFault it input words × (string_bytes text ≡ words ++ line_feed)

-- the same of the input that was read
abbrev pub IsAnswerTo : Command → Reading → Answer → Type 0
IsAnswerTo it reading (Output text) = IsOutput it reading (string_bytes text)
IsAnswerTo it reading (Refusal text) = (words : List ℕ) × IsFault it reading words × (string_bytes text ≡ words ++ line_feed)

-- An answer was written, or the sink failed behind a prefix of it; the status tells which.
abbrev pub Finishes : Writing → Answer → ℕ → Type 0
Finishes writing (Output text) status = (Writes writing (string_bytes text) × (status ≡ 0)) ⊎ (FailsToWrite writing (string_bytes text) × (status ≡ 4))
Finishes writing (Refusal text) status = (Writes writing (string_bytes text) ⊎ FailsToWrite writing (string_bytes text)) × (status ≡ 1)
