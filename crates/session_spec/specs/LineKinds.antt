-- The kinds of lines and their order. Source: this project's own.
use Rattle.std.specs.Prelude.{ℕ, ◌==◌, ◌&&◌, ◌||◌, List, [], ◌∷◌, Bool, true, false, not, nat_lt, find, is_some, Option, Some, None, Result, Ok, Err, ok_or, if◌then◌else◌}
use Rattle.std.specs.Str.{is_utf8}
use Rattle.std.specs.List.{list_all, enumerate_from}
use Rattle.serde_json.specs.Data.{Data}
use Rattle.serde_json.specs.Read.{read}
use Rattle.serde_json.specs.Find.{get}
use Rattle.session_spec.specs.declared.member.Member.{Member}
use Rattle.session_spec.specs.declared.member.Member.TheVariants as member
use Rattle.session_spec.specs.MemberNames.{name_of}
use Rattle.session_spec.specs.Lines.{lines, if_object}
use Rattle.session_spec.specs.LineFaults.{What, NotJson, NotObject, UnknownKind, OutOfOrder}
use Rattle.session_spec.specs.Results.{◌>>=◌, unless}

-- ---- lines with their numbers

-- Spaces and tabs alone are no line; it is counted.
abbrev pub is_blank : List ℕ → Bool
is_blank line = list_all (λ b. b == 32 || b == 9) line

abbrev pub with_numbers : ℕ → List (List ℕ) → List (ℕ × List ℕ)
with_numbers number lines = enumerate_from number lines

abbrev pub without_blanks : List (ℕ × List ℕ) → List (ℕ × List ℕ)
without_blanks [] = []
without_blanks (line ∷ more) = if is_blank line.1 then without_blanks more else line ∷ without_blanks more

-- the lines of an input that aren't passed over, each with its number, from 1 on
abbrev pub numbered_lines : List ℕ → List (ℕ × List ℕ)
numbered_lines input = without_blanks (with_numbers 1 (lines input))

-- ---- kinds

pub data Kind : Type 0 where
  SessionLine : Kind
  ModuleLine : Kind
  SingletonLine : Kind
  CoinLine : Kind
  CommandLine : Kind

-- the member that tells the kind
abbrev pub member_of : Kind → Member
member_of SessionLine = member.Session
member_of ModuleLine = member.Module
member_of SingletonLine = member.Singleton
member_of CoinLine = member.Coin
member_of CommandLine = member.Do

abbrev pub kinds : List Kind
kinds = SessionLine ∷ ModuleLine ∷ SingletonLine ∷ CoinLine ∷ CommandLine ∷ []

-- the first of the kinds whose member an object has
abbrev pub kind_of : Data → Option Kind
kind_of fields = find (λ kind. is_some (get (name_of (member_of kind)) fields)) kinds

-- ---- order

abbrev pub rank : Kind → ℕ
rank SessionLine = 0
rank ModuleLine = 1
rank SingletonLine = 2
rank CoinLine = 3
rank CommandLine = 4

-- A session line and a singleton line come at most once.
abbrev pub may_repeat : Kind → Bool
may_repeat SessionLine = false
may_repeat ModuleLine = true
may_repeat SingletonLine = false
may_repeat CoinLine = true
may_repeat CommandLine = true

-- The first line is a session line, and the kinds stand in their order.
abbrev pub may_follow : Option Kind → Kind → Bool
may_follow None kind = rank kind == 0
may_follow (Some before) kind = nat_lt (rank before) (rank kind) || (rank before == rank kind && may_repeat kind)

-- ---- the first faults of a line

pub record Line : Type 0 where
  pub kind : Kind
  pub fields : Data

abbrev pub value_in : List ℕ → Result Data What
value_in line = if is_utf8 line then ok_or (read line) NotJson else Err NotJson

abbrev pub object_in : List ℕ → Result Data What
object_in line = value_in line >>= λ value. ok_or (if_object value) NotObject

-- which lines are taken behind a line of a kind
abbrev pub Order : Type 0
Order = Option Kind → Line → Bool

abbrev pub line_in : Order → Option Kind → List ℕ → Result Line What
line_in order before line = do
  fields ← object_in line
  kind ← ok_or (kind_of fields) UnknownKind
  unless (not (order before (record { kind = kind; fields = fields }))) OutOfOrder (Ok (record { kind = kind; fields = fields }))
