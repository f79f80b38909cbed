-- Where the steps of a parser lead to. This project's own.
use Rattle.std.specs.Prelude.{◌≡◌, ℕ, ◌<◌, List, [], length, Option, Some, None}
use Rattle.clvm_spec.specs.declared.scan_kind.ScanKind.{ScanKind}
use Rattle.clvm_spec.specs.Tokens.{Token, Closing, Took, Unread, token_of}
use Rattle.clvm_spec.specs.Grammar.{Parsed, Parses}
use Rattle.open_lists.specs.declared.fault.Fault.{Fault}
use Rattle.open_lists.specs.declared.list.OpenList.{OpenList}
use Rattle.open_lists.specs.Readings.{Reading}
use Rattle.open_lists.specs.Lists.{whole, resumed, told}
use Rattle.open_lists.specs.Faults.{IsFirstFault, IsBroken}

-- where a step leads to: to lists that are open, or to a form that stands in none
abbrev pub Leads : {F P M Q : Type 0} {unknown : F → Option P} → Reading F P M Q unknown → List (OpenList F P) → List ℕ → Option F → Parsed M Q → Type 0
Leads r lists rest None parsed = (0 < length lists) × (parsed ≡ told r 0 lists (token_of rest))
Leads r lists rest (Some form) parsed = (lists ≡ []) × (parsed ≡ Parses (r.meant form) rest)

module _ {F P : Type 0} (M Q : Type 0) (unknown : F → Option P) where
  -- A token at this place leads from these lists to those.
  abbrev pub Takes : Token → P → List (OpenList F P) → List (OpenList F P) → Type 0
  Takes token place old new =
      (r : Reading F P M Q unknown) (from rest : List ℕ) → r.language.place from ≡ r.placed place → Leads r new rest None (told r 0 old (Took token from rest))

  -- It is wrong there.
  abbrev pub Stops : Token → P → List (OpenList F P) → Fault P → Type 0
  Stops token place old fault = (r : Reading F P M Q unknown) (from rest : List ℕ) → r.language.place from ≡ r.placed place → IsBroken r fault (told r 0 old (Took token from rest))

  -- A `)` there ends the innermost list, which is the next form of the others.
  abbrev pub Closes : P → List (OpenList F P) → List (OpenList F P) → OpenList F P → Type 0
  Closes place old new list =
      (r : Reading F P M Q unknown) (from rest : List ℕ) → r.language.place from ≡ r.placed place → told r 0 old (Took Closing from rest) ≡ resumed r 0 new (Parses (whole r list) rest)

  -- With this form next the lists go on as those, or it stands in none.
  abbrev pub Puts : F → List (OpenList F P) → List (OpenList F P) → Option F → Type 0
  Puts form old new done = (r : Reading F P M Q unknown) (rest : List ℕ) → Leads r new rest done (resumed r 0 old (Parses (r.meant form) rest))

  abbrev pub PutStops : F → List (OpenList F P) → Fault P → Type 0
  PutStops form old fault = (r : Reading F P M Q unknown) (rest : List ℕ) → IsBroken r fault (resumed r 0 old (Parses (r.meant form) rest))

  -- No token can be read there.
  abbrev pub IsUnread : ScanKind → P → List (OpenList F P) → Fault P → Type 0
  IsUnread what place old fault = (r : Reading F P M Q unknown) (from : List ℕ) → r.language.place from ≡ r.placed place → IsFirstFault r fault (told r 0 old (Unread what from))
