-- What a run of the program ends with. This project's own.
use Rattle.std.specs.Prelude.{◌≡◌, ℕ, List, Option, Some, None, map, String, string_bytes, codes}
use Rattle.std.specs.declared.alloc.Global.{Global}
use Rattle.tool_words.specs.Commands.{command_of}
use Rattle.tool_words.specs.declared.said.Command.{Command}
use Rattle.chia_sim.specs.Outside.{Reading, Writing, IsInput, FailsToRead, IsTooLong, Writes, FailsToWrite, WritesLine}
use Rattle.chia_sim.specs.Outputs.{HasOutput, HasFault}

-- the command that the words are
abbrev pub said : List (String Global) → Option Command
said words = command_of (map string_bytes words)

-- The input was read to its end, and these bytes are what the command writes for it.
abbrev pub IsOutput : Command → Reading → List ℕ → Type 0
IsOutput command reading output = (input : List ℕ) × IsInput reading input × HasOutput command input output

-- The input was read to its end and isn't of the command's form; these words say why.
abbrev pub IsFault : Command → Reading → List ℕ → Type 0
IsFault command reading words = (input : List ℕ) × IsInput reading input × HasFault command input words

-- The status, with what was read and what was written, by the command that the words are.
pub data Ends (command : Option Command) (reading : Reading) (writing : Writing) (status : ℕ) : Type 0 where
  -- The command was done, and all of its output was written.
  Finished : (it : Command) (output : List ℕ) → command ≡ Some it → IsOutput it reading output → Writes writing output → status ≡ 0 → Ends command reading writing status
  -- The input isn't of the command's form.
  Refused : (it : Command) (words : List ℕ) → command ≡ Some it → IsFault it reading words → WritesLine writing words → status ≡ 1 → Ends command reading writing status
  -- The words are no command; nothing was read.
  NoCommand : command ≡ None → reading.left_after ≡ reading.left → WritesLine writing (codes "words") → status ≡ 2 → Ends command reading writing status
  ReadFault : (it : Command) → command ≡ Some it → FailsToRead reading → WritesLine writing (codes "read fault") → status ≡ 3 → Ends command reading writing status
  -- The command was done, and the sink failed behind a prefix of its output.
  WriteFault : (it : Command) (output : List ℕ) → command ≡ Some it → IsOutput it reading output → FailsToWrite writing output → status ≡ 4 → Ends command reading writing status
  NoMemory : WritesLine writing (codes "memory") → status ≡ 5 → Ends command reading writing status
  TooLong : (it : Command) → command ≡ Some it → IsTooLong reading → WritesLine writing (codes "too long") → status ≡ 7 → Ends command reading writing status
