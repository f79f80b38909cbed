-- How a text is read on, where lists are open, the outermost first: what the contracts of the parser's steps say, no part of
-- the grammar. This project's own.
use Rattle.std.specs.Prelude.{ℕ, suc, List, [], ◌∷◌, Option, None}
use Rattle.clvm_spec.specs.declared.scan_kind.ScanKind.TheVariants as kind
use Rattle.clvm_spec.specs.Tokens.{Front}
use Rattle.clvm_spec.specs.Grammar.{Parsed, Parses, Breaks, behind_dot, closed, last_form, form_at, with_rest, list_at, list_from, outer_form}
use Rattle.clvm_spec.specs.Grammar as grammar
use Rattle.open_lists.specs.declared.list.Reach.{Reach}
use Rattle.open_lists.specs.declared.list.Reach.TheVariants.{Elements, Dot, Last}
use Rattle.open_lists.specs.declared.list.OpenList.{OpenList}
use Rattle.open_lists.specs.Readings.{Reading}
use Rattle.open_lists.specs.Reaches.{is_begun}

-- Behind the last form stands no other.
abbrev pub no_other : {M Q : Type 0} → Q → Parsed M Q → Parsed M Q
no_other dot (Parses form rest) = Breaks kind.Dot None dot
no_other dot (Breaks what unknown at) = behind_dot dot what unknown at

module _ {F P M Q : Type 0} {unknown : F → Option P} (r : Reading F P M Q unknown) where
  -- the elements before what is read
  abbrev pub behind : P → List F → Parsed M Q → Parsed M Q
  behind place [] parsed = parsed
  behind place (form ∷ forms) parsed = grammar.behind r.language (r.placed place) (r.meant form) (behind place forms parsed)

  -- what a list is, by what stands at its next token
  abbrev pub token_in : ℕ → P → List F → Reach F P → Front → Parsed M Q
  token_in depth place forms Elements front = list_at r.language (list_from r.language) depth (r.placed place) (is_begun forms) front
  token_in depth place forms (Dot dot) front = last_form (r.placed dot) (form_at r.language (list_from r.language) depth front)
  token_in depth place forms (Last dot form) front = closed (r.placed dot) (r.meant form) front

  abbrev pub read_of : ℕ → P → List F → Reach F P → Front → Parsed M Q
  read_of depth place forms reach front = behind place forms (token_in depth place forms reach front)

  abbrev pub read_in : ℕ → OpenList F P → Front → Parsed M Q
  read_in depth list front = read_of depth list.place list.forms.items list.reach front

  -- what it is, by what is read as its next form
  abbrev pub form_in : ℕ → P → Reach F P → Parsed M Q → Parsed M Q
  form_in depth place Elements parsed = with_rest r.language (list_from r.language) depth (r.placed place) parsed
  form_in depth place (Dot dot) parsed = last_form (r.placed dot) parsed
  form_in depth place (Last dot form) parsed = no_other (r.placed dot) parsed

  abbrev pub continued_of : ℕ → P → List F → Reach F P → Parsed M Q → Parsed M Q
  continued_of depth place forms reach parsed = behind place forms (form_in depth place reach parsed)

  abbrev pub continued : ℕ → OpenList F P → Parsed M Q → Parsed M Q
  continued depth list parsed = continued_of depth list.place list.forms.items list.reach parsed

  -- ---- a list that ends

  abbrev pub last_of : P → Reach F P → M
  last_of place Elements = r.language.atom (r.placed place) []
  last_of place (Dot dot) = r.language.atom (r.placed place) []
  last_of place (Last dot form) = r.meant form

  abbrev pub folded : P → List F → M → M
  folded place [] last = last
  folded place (form ∷ forms) last = r.language.pair (r.placed place) (r.meant form) (folded place forms last)

  -- its form
  abbrev pub whole : OpenList F P → M
  whole list = folded list.place list.forms.items (last_of list.place list.reach)

  -- ---- lists in one another

  -- what the outermost list is, by what is read as the next form of the innermost
  abbrev pub resumed : ℕ → List (OpenList F P) → Parsed M Q → Parsed M Q
  resumed depth [] parsed = parsed
  resumed depth (list ∷ inner) parsed = continued (suc depth) list (resumed (suc depth) inner parsed)

  -- what it is, by what stands at the next token; a form, where no list is open
  abbrev pub told : ℕ → List (OpenList F P) → Front → Parsed M Q
  told depth [] front = outer_form r.language front
  told depth (list ∷ []) front = read_in (suc depth) list front
  told depth (list ∷ other ∷ inner) front = continued (suc depth) list (told (suc depth) (other ∷ inner) front)
