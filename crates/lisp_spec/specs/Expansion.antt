-- The expansion of a form: each call of a macro is replaced by what its body gives, from the outside in. Source:
-- Chialisp reference; the turns, the limits, and which fault stands where, are this project's own.
use Rattle.std.specs.Prelude.{ℕ, zero, suc, Bool, true, List, Option, Some, None, is_some, unwrap_or, max, codes, nat_lt, if◌then◌else◌}
use Rattle.lisp_spec.specs.Forms.{Form, Atom, Symbol, Pair, Place}
use Rattle.lisp_read.specs.FormLists.{form_elements, is_symbol, is_empty}
use Rattle.lisp_spec.specs.FormParts.{Part, Expression, Operands, Template, OneTemplate}
use Rattle.lisp_spec.specs.declared.head.Head.{Head}
use Rattle.lisp_spec.specs.declared.head.Head.TheVariants.{QuotesRest, QuotesOne, Templates}
use Rattle.lisp_spec.specs.Heads.{head_of}
use Rattle.lisp_spec.specs.Weights.{form_weight, weight_limit}
use Rattle.lisp_spec.specs.Macros.{Macro, macro_named, MacroFault, TurnsSpent, BadMacro, TooLarge, nesting_limit}
use Rattle.lisp_spec.specs.MacroBodies.{BodyValue, Gives, Stops, body_value}

-- a form without calls of macros, or the first fault and its place; each with the turns that are left
pub data Expanded : Type 0 where
  Expands : (form : Form) (left : ℕ) → Expanded
  Breaks : (fault : MacroFault) (place : Place) (left : ℕ) → Expanded

-- goes on from what is expanded
abbrev pub if_expanded : Expanded → (Form → ℕ → Expanded) → Expanded
if_expanded (Expands form left) go = go form left
if_expanded (Breaks fault place left) go = Breaks fault place left

-- ---- a call

-- How many lists stand in one another. An element of a list is one deeper than the list; the rest of a list isn't.
abbrev pub nesting : Form → ℕ
nesting (Atom at bytes) = 0
nesting (Symbol at name) = 0
nesting (Pair at first rest) = max (suc (nesting first)) (nesting rest)

-- A form that a call gives is neither too deep nor too heavy, and depth comes before weight.
abbrev pub within_limits : Place → Form → ℕ → Expanded
within_limits place form left =
    if nat_lt nesting_limit (nesting form) then Breaks BadMacro place left
    else if nat_lt weight_limit (form_weight form) then Breaks TooLarge place left
    else Expands form left

abbrev pub limited : Place → BodyValue → Expanded
limited place (Gives form left) = within_limits place form left
limited place (Stops fault left) = Breaks fault place left

-- What a call gives takes a turn of its own and those of the body.
abbrev pub call_given : Macro → Form → Place → ℕ → Expanded
call_given macro operands place zero = Breaks TurnsSpent place 0
call_given macro operands place (suc left) = limited place (body_value (record { params = macro.params; operands = operands; place = place }) macro.body left)

-- ---- where there are calls

-- what an expression that is a pair is by its head
pub data PairKind : Type 0 where
  Calls : (macro : Macro) → PairKind
  -- What follows the head is looked at so.
  Behind : (part : Part) → PairKind
  -- Nothing of it is expanded.
  Kept : PairKind

-- A macro's name before a list that isn't proper is no call.
abbrev pub call_kind : Option Macro → Bool → PairKind
call_kind (Some macro) true = Calls macro
call_kind macro proper = Behind Operands

-- A tree that is quoted is kept, and every other head that isn't `qq` may be a macro's name.
abbrev pub headed_kind : Head → PairKind → PairKind
headed_kind QuotesRest named = Kept
headed_kind QuotesOne named = Kept
headed_kind Templates named = Behind OneTemplate
headed_kind other named = named

abbrev pub kind_named : List Macro → List ℕ → Form → PairKind
kind_named macros name rest = headed_kind (head_of name) (call_kind (macro_named name macros) (is_some (form_elements rest)))

-- A head that is no symbol is kept, and what follows it are operands.
abbrev pub kind_of : List Macro → Form → Form → PairKind
kind_of macros (Atom at bytes) rest = Behind Operands
kind_of macros (Symbol at name) rest = kind_named macros name rest
kind_of macros (Pair at first more) rest = Behind Operands

-- ---- expansion

-- how what a call at a place gave is expanded again
abbrev pub Again : Type 0
Again = Place → Form → ℕ → Expanded

-- The faults of a call stand at the call that is written in a text: of calls within each other's results, the outermost.
abbrev pub written_at : Option Place → Place → Place
written_at outer place = unwrap_or outer place

abbrev pub call_expanded : Again → Macro → Form → Place → ℕ → Expanded
call_expanded again macro operands place turns = if_expanded (call_given macro operands place turns) (again place)

abbrev pub pair_expanded : PairKind → (Macro → Expanded) → (Part → Expanded) → Expanded → Expanded
pair_expanded (Calls macro) called behind kept = called macro
pair_expanded (Behind part) called behind kept = behind part
pair_expanded Kept called behind kept = kept

-- with the rest of a pair expanded, and with both parts, the first before the rest
abbrev pub with_rest : Place → Form → Expanded → Expanded
with_rest place first rest = if_expanded rest (λ behind left. Expands (Pair place first behind) left)

abbrev pub with_both : Place → Expanded → (ℕ → Expanded) → Expanded
with_both place first rest = if_expanded first (λ front left. with_rest place front (rest left))

-- The place is that of the call from whose result the form comes, if it comes from one. Where no list of one template
-- stands, nothing is expanded.
abbrev pub expanded_by : List Macro → Again → Part → Option Place → Form → ℕ → Expanded
expanded_by macros again part outer (Atom at bytes) turns = Expands (Atom at bytes) turns
expanded_by macros again part outer (Symbol at name) turns = Expands (Symbol at name) turns
expanded_by macros again Expression outer (Pair at head rest) turns =
    pair_expanded (kind_of macros head rest)
    (λ macro. call_expanded again macro rest (written_at outer at) turns)
    (λ part. with_rest at head (expanded_by macros again part outer rest turns))
    (Expands (Pair at head rest) turns)
expanded_by macros again Operands outer (Pair at first rest) turns =
    with_both at (expanded_by macros again Expression outer first turns) (expanded_by macros again Operands outer rest)
expanded_by macros again Template outer (Pair at first rest) turns =
    if is_symbol (codes "unquote") first then with_rest at first (expanded_by macros again Operands outer rest turns)
    else with_both at (expanded_by macros again Template outer first turns) (expanded_by macros again Template outer rest)
expanded_by macros again OneTemplate outer (Pair at template end) turns =
    if is_empty end then with_both at (expanded_by macros again Template outer template turns) (Expands end)
    else Expands (Pair at template end) turns

-- Each call takes a turn, so no more results stand within each other than there are turns, and the first number only
-- bounds the recursion.
abbrev pub again_within : ℕ → List Macro → Again
again_within zero macros place form turns = Breaks TurnsSpent place 0
again_within (suc bound) macros place form turns = expanded_by macros (again_within bound macros) Expression (Some place) form turns

unfoldable pub expanded_part : List Macro → Part → Option Place → Form → ℕ → Expanded
expanded_part macros part outer form turns = expanded_by macros (again_within turns macros) part outer form turns

-- what a call at a place gave, expanded again
abbrev pub expanded_again : List Macro → Again
expanded_again macros place form turns = expanded_part macros Expression (Some place) form turns

-- an expression as it is written in a text, by the macros and the turns that are left
abbrev pub expansion : List Macro → Form → ℕ → Expanded
expansion macros form turns = expanded_part macros Expression None form turns
