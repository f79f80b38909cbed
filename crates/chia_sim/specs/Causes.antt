-- What a run ends with by what its source tells, where the source doesn't fail in the run. Want of memory may come in place of
-- each. This project's own.
use Rattle.std.specs.Prelude.{◌≡◌, ℕ, ◌<◌, ◌≤◌, ◌⊎◌, List, length, Option, Some, None}
use Rattle.ports_io.specs.Outside.{Rose}
use Rattle.tool_words.specs.declared.said.Command.{Command}
use Rattle.chia_sim.specs.declared.limits.TheConstants.{MOST_INPUT}
use Rattle.chia_sim.specs.Outside.{Reading, Writing}
use Rattle.chia_sim.specs.Outputs.{HasFault, IsInForm}

-- The words are this command, these bytes are left in the source, and it doesn't fail.
pub record IsRead (said : Option Command) (it : Command) (reading : Reading) (input : List ℕ) : Type 0 where
  pub words_are : said ≡ Some it
  pub tells : reading.left ≡ Some input
  pub reads : ¬ Rose reading.faults reading.faults_after

-- The run ends with this status, or there is no memory.
abbrev pub EndsWith : ℕ → ℕ → Type 0
EndsWith expected status = (status ≡ expected) ⊎ (status ≡ 5)

abbrev pub Writable : Writing → Type 0
Writable writing = ¬ Rose writing.faults writing.faults_after

-- A command is done on an input of its form, where the sink doesn't fail either.
abbrev pub IsComplete : Option Command → Reading → Writing → ℕ → Type 0
IsComplete said reading writing status =
    (it : Command) (input : List ℕ) → IsRead said it reading input → Writable writing → length input ≤ MOST_INPUT → IsInForm it input → EndsWith 0 status

-- An input that isn't too long and not of the command's form is named so, whether or not the sink fails.
abbrev pub NamesFault : Option Command → Reading → ℕ → Type 0
NamesFault said reading status =
    (it : Command) (input words : List ℕ) → IsRead said it reading input → length input ≤ MOST_INPUT → HasFault it input words → EndsWith 1 status

-- An input that is too long is named so, whether or not the sink fails.
abbrev pub NamesTooLong : Option Command → Reading → ℕ → Type 0
NamesTooLong said reading status =
    (it : Command) (input : List ℕ) → IsRead said it reading input → MOST_INPUT < length input → EndsWith 7 status
