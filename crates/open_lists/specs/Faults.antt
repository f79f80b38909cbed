-- Which fault a text has, where lists are open. This project's own.
use Rattle.std.specs.Prelude.{◌≡◌, ℕ, List, [], ◌∷◌, ◌++◌, Option, Some, None}
use Rattle.std.specs.Option.{option_or}
use Rattle.clvm_spec.specs.declared.scan_kind.ScanKind.{ScanKind}
use Rattle.clvm_spec.specs.Grammar.{Parsed, Breaks}
use Rattle.open_lists.specs.declared.fault.Fault.{Fault}
use Rattle.open_lists.specs.declared.fault.Fault.TheVariants.{At, Unknown, OutOfMemory}
use Rattle.open_lists.specs.declared.list.OpenList.{OpenList}
use Rattle.open_lists.specs.Readings.{Reading}
use Rattle.open_lists.specs.Lists.{resumed}

-- the first unknown symbol of some forms
abbrev pub first_unknown : {F P : Type 0} → (F → Option P) → List F → Option P
first_unknown unknown [] = None
first_unknown unknown (form ∷ forms) = option_or (unknown form) (first_unknown unknown forms)

-- An unknown symbol stands before what is wrong.
pub record BreaksBehind {M Q : Type 0} (name : Q) (parsed : Parsed M Q) : Type 0 where
  pub what : ScanKind
  pub at : Q
  pub is : parsed ≡ Breaks what (Some name) at

-- That is the first unknown symbol of some form.
pub record IsUnknown {F P : Type 0} (unknown : F → Option P) (name : P) : Type 0 where
  pub form : F
  pub is : unknown form ≡ Some name

-- That is why nothing is parsed.
abbrev pub IsFirstFault : {F P M Q : Type 0} {unknown : F → Option P} → Reading F P M Q unknown → Fault P → Parsed M Q → Type 0
IsFirstFault r (At what at) parsed = parsed ≡ Breaks what None (r.placed at)
IsFirstFault {unknown = unknown} r (Unknown name) parsed = BreaksBehind (r.placed name) parsed × IsUnknown unknown name
IsFirstFault r OutOfMemory parsed = ⊥

-- That, or memory lacks.
abbrev pub IsBroken : {F P M Q : Type 0} {unknown : F → Option P} → Reading F P M Q unknown → Fault P → Parsed M Q → Type 0
IsBroken r OutOfMemory parsed = Unit {0}
IsBroken r fault parsed = IsFirstFault r fault parsed

module _ {F P : Type 0} (M Q : Type 0) (unknown : F → Option P) where
  -- The list tells this fault in place of what is wrong within it.
  abbrev pub Tells : OpenList F P → ScanKind → Fault P → Type 0
  Tells list what fault = (r : Reading F P M Q unknown) (inner : List (OpenList F P)) (depth : ℕ) (at : Q) → IsFirstFault r fault (resumed r depth (list ∷ inner) (Breaks what None at))

  -- Whatever is the first fault of these lists is so of those as well.
  abbrev pub Keeps : List (OpenList F P) → List (OpenList F P) → ScanKind → Type 0
  Keeps inner lists what =
      (r : Reading F P M Q unknown) (fault : Fault P) (more : List (OpenList F P)) (at : Q) → ((depth : ℕ) → IsFirstFault r fault (resumed r depth (inner ++ more) (Breaks what None at))) → (depth : ℕ) → IsFirstFault r fault (resumed r depth (lists ++ more) (Breaks what None at))
