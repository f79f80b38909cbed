-- The command that the program's words are. This project's own.
use Rattle.std.specs.Prelude.{◌≡◌, List, [], ◌∷◌, Option, Some, None, option_map, if◌then◌else◌, codes, bytes_eq, Result, Ok, Err}
use Rattle.tool_words.specs.Rows.{Text, Row, said_in}
use Rattle.tool_words.specs.Evals.{eval_of}
use Rattle.tool_words.specs.Curries.{curry_of}
use Rattle.tool_words.specs.declared.said.Command.{Command}
use Rattle.tool_words.specs.declared.said.Command.TheVariants.{Session, Hash}
use Rattle.tool_words.specs.declared.said.WordsFault.{WordsFault}
use Rattle.tool_words.specs.declared.said.WordsFault.TheVariants.{Words, OutOfMemory}

-- a row of no words
abbrev pub nothing : Row
nothing = record { flags = []; numbers = []; least = 0; most = 0 }

-- a command that has no words
abbrev pub alone : Command → List Text → Option Command
alone command words = option_map (λ said. command) (said_in nothing words)

-- the command of a name, by the words behind it
abbrev pub command_by : Text → List Text → Option Command
command_by name words =
    if bytes_eq name (codes "session") then alone Session words
    else (if bytes_eq name (codes "hash") then alone Hash words
    else (if bytes_eq name (codes "eval") then eval_of words
    else (if bytes_eq name (codes "curry") then curry_of words else None)))

abbrev pub command_of : List Text → Option Command
command_of [] = None
command_of (name ∷ words) = command_by name words

-- A result is what the words are. Want of memory says nothing.
abbrev pub Says : {T : Type 0} → Option T → Result T WordsFault → Type 0
Says read (Ok value) = read ≡ Some value
Says read (Err Words) = read ≡ None
Says read (Err OutOfMemory) = Unit {0}
