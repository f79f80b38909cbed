-- The names that the language itself has: what a symbol is as the head of an expression, and which names no definition may
-- have. Source: Chialisp reference, over the operators of the CLVM reference.
use Rattle.std.specs.Prelude.{ℕ, Bool, true, false, ◌||◌, List, Option, Some, None, bytes_eq, codes, if◌then◌else◌}
use Rattle.clvm_spec.specs.OperatorTable.{Operator, operator_named}
use Rattle.lisp_spec.specs.declared.head.Head.{Head}
use Rattle.lisp_spec.specs.declared.head.Head.TheVariants.{QuotesRest, QuotesOne, Templates, Unquotes, Chooses, Lists, Operates, Calls}

abbrev pub operator_head : Option Operator → Head
operator_head None = Calls
operator_head (Some row) = Operates row.code

abbrev pub is_q : List ℕ → Bool
is_q name = bytes_eq name (codes "q")

abbrev pub is_quote : List ℕ → Bool
is_quote name = bytes_eq name (codes "quote")

abbrev pub is_qq : List ℕ → Bool
is_qq name = bytes_eq name (codes "qq")

abbrev pub is_unquote : List ℕ → Bool
is_unquote name = bytes_eq name (codes "unquote")

abbrev pub is_if : List ℕ → Bool
is_if name = bytes_eq name (codes "if")

abbrev pub is_list : List ℕ → Bool
is_list name = bytes_eq name (codes "list")

abbrev pub is_mod : List ℕ → Bool
is_mod name = bytes_eq name (codes "mod")

unfoldable pub head_of : List ℕ → Head
head_of name =
    if is_q name then QuotesRest
    else if is_quote name then QuotesOne
    else if is_qq name then Templates
    else if is_unquote name then Unquotes
    else if is_if name then Chooses
    else if is_list name then Lists
    else operator_head (operator_named name)

-- whether a head is the language's own
abbrev pub is_own : Head → Bool
is_own Calls = false
is_own other = true

-- A name that no function, inline, constant or macro may have: that of a head of the language, or `mod`.
unfoldable pub is_reserved : List ℕ → Bool
is_reserved name = is_own (head_of name) || is_mod name
