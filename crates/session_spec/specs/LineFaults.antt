-- What is wrong with a line of a session, and how it is told. Source: this project's own.
use Rattle.std.specs.Prelude.{ℕ, List, ◌++◌, codes}
use Rattle.std.specs.Fmt.{decimal}
use Rattle.lisp_spec.specs.ModuleFaults.{Fault}
use Rattle.lisp_spec.specs.FaultTexts.{fault_text}
use Rattle.session_spec.specs.declared.member.Member.{Member}
use Rattle.session_spec.specs.MemberNames.{name_of}

pub data What : Type 0 where
  -- The line isn't one JSON value.
  NotJson : What
  -- The value isn't an object.
  NotObject : What
  -- It has none of the members that tell a line's kind.
  UnknownKind : What
  -- A line of this kind may not stand there.
  OutOfOrder : What
  -- A member isn't there.
  Missing : Member → What
  -- A member isn't of its form.
  Bad : Member → What
  -- A member names a module that isn't there.
  UnknownName : Member → What
  -- An earlier module has the name.
  NameTwice : What
  -- An earlier coin has the id.
  CoinTwice : What
  -- The module's text has this first fault.
  InModule : Fault → What
  -- The module's bound, or the curried code, is too large.
  TooLarge : What
  -- There are more modules, coins or commands than may be.
  TooMany : What

-- the fault of a member, by its name
abbrev pub member_text : List ℕ → Member → List ℕ
member_text word member = word ++ codes " " ++ name_of member

abbrev pub what_text : What → List ℕ
what_text NotJson = codes "not-json"
what_text NotObject = codes "not-object"
what_text UnknownKind = codes "unknown-kind"
what_text OutOfOrder = codes "out-of-order"
what_text (Missing member) = member_text (codes "missing") member
what_text (Bad member) = member_text (codes "bad") member
what_text (UnknownName member) = member_text (codes "unknown-name") member
what_text NameTwice = codes "name-twice"
what_text CoinTwice = codes "coin-twice"
what_text (InModule fault) = fault_text fault
what_text TooLarge = codes "too-large"
what_text TooMany = codes "too-many"

-- the number of the line, counted from 1, and its fault
abbrev pub faulty_line_text : ℕ → What → List ℕ
faulty_line_text line what = codes "line " ++ decimal line ++ codes " " ++ what_text what
