-- What bounds the definition of scanning, and what scanning makes of what printing wrote: laws of the definitions, each
-- proved once for the crates above. They follow from the definitions; how a text nests is this project's own.
use Rattle.std.specs.Prelude.{◌≡◌, ℕ, suc, ◌-◌, ◌≤◌, Bool, true, false, not, ◌&&◌, ◌||◌, List, [], ◌∷◌, length, nat_lt, if◌then◌else◌}
use Rattle.clvm_spec.specs.declared.scan_kind.ScanKind.TheVariants.{Deep}
use Rattle.clvm_spec.specs.Tree.{Tree, Atom, Pair}
use Rattle.clvm_spec.specs.Laws.{AreBytes}
use Rattle.clvm_spec.specs.Tokens.{is_opening, is_closing, token_of}
use Rattle.clvm_spec.specs.Grammar.{most_open, form_at, list_at, list_within, list_from}
use Rattle.clvm_spec.specs.Text.{printed, clvm, Scans, Unreadable, scanned}

-- Each token takes a byte, so the grammar's bound is no part of its meaning: any number of the text's length or above
-- gives the same.
abbrev pub FormsAreWithinTheText : Type 0
FormsAreWithinTheText = (bound depth : ℕ) (text : List ℕ) → length text ≤ bound → form_at clvm (list_within clvm bound) depth (token_of text) ≡ form_at clvm (list_from clvm) depth (token_of text)

-- So what stands in a list is what its first token begins, with the same for what is behind it.
abbrev pub ListIsItsStep : Type 0
ListIsItsStep =
    (depth : ℕ) (place : List ℕ) (begun : Bool) (text : List ℕ) → list_from clvm depth place begun text ≡ list_at clvm (list_from clvm) depth place begun (token_of text)

-- whether this byte may stand where so many parentheses may still be opened, and how many may be behind it
abbrev pub may_open : ℕ → ℕ → Bool
may_open room b = not (is_opening b) || nat_lt 0 room

abbrev pub room_behind : ℕ → ℕ → ℕ
room_behind room b = if is_opening b then room - 1 else if is_closing b then suc room else room

-- Whether a text without quotes and comments, as printing gives it, never has more parentheses open at once than so many.
abbrev pub nests_within : ℕ → List ℕ → Bool
nests_within room [] = true
nests_within room (b ∷ text) = may_open room b && nests_within (room_behind room b) text

abbrev pub HasBytes : Tree → Type 0
HasBytes (Atom bytes) = AreBytes bytes
HasBytes (Pair first rest) = HasBytes first × HasBytes rest

-- What is printed of a tree is scanned as that tree, where it nests no more parentheses than may be open.
abbrev pub PrintedIsScanned : Type 0
PrintedIsScanned = (tree : Tree) → HasBytes tree → nests_within most_open (printed tree) ≡ true → scanned (printed tree) ≡ Scans tree

-- Where it nests more, it is too deep.
abbrev pub PrintedTooDeep : Type 0
PrintedTooDeep = (tree : Tree) → HasBytes tree → nests_within most_open (printed tree) ≡ false → (place : ℕ) × (scanned (printed tree) ≡ Unreadable Deep place)
