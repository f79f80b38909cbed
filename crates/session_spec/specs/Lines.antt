-- The lines of an input, each one JSON object. Source: RFC 8259; what ends a line is this project's own.
use Rattle.std.specs.Prelude.{ℕ, List, Option, None, map, option_map, if◌then◌else◌}
use Rattle.std.specs.Str.{is_utf8}
use Rattle.bstr.specs.Text.{lines_of, without_terminator}
use Rattle.serde_json.specs.Data.{Data}
use Rattle.serde_json.specs.Read.{read}
use Rattle.serde_json.specs.Find.{as_object}
use Rattle.session_spec.specs.Steps.{◌>>=◌}

-- A line ends at LF, and loses it and a CR before it. The last line may lack LF.
abbrev pub lines : List ℕ → List (List ℕ)
lines input = map without_terminator (lines_of input)

abbrev pub if_object : Data → Option Data
if_object value = option_map (λ members. value) (as_object value)

-- what a line says
abbrev pub object_of : List ℕ → Option Data
object_of line = if is_utf8 line then read line >>= if_object else None
