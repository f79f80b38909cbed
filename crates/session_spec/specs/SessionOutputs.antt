-- What a session's input may be answered with. Source: this project's own.
use Rattle.std.specs.Prelude.{◌≡◌, ℕ, List, Bool}
use Rattle.step_spec.specs.declared.entry.Entry.{Entry}
use Rattle.step_spec.specs.Histories.{Opening, opening_of, IsLegal}
use Rattle.session_spec.specs.LineFaults.{faulty_line_text}
use Rattle.session_spec.specs.Sessions.{Session, Faulty}
use Rattle.session_spec.specs.Outputs.{session_output}

-- where the histories of a session begin
abbrev pub opening_of_session : Session → Opening
opening_of_session session = opening_of session.header session.coins session.commands

-- These bytes are the output, or the summary, of one legal history of the session.
pub record IsAnOutput (summary : Bool) (session : Session) (output : List ℕ) : Type 0 where
  pub history : List Entry
  pub legal : IsLegal (opening_of_session session) history
  pub text : output ≡ session_output summary session history

-- These words name the first faulty line and its fault.
abbrev pub IsLineFault : Faulty → List ℕ → Type 0
IsLineFault faulty words = words ≡ faulty_line_text faulty.line faulty.what
