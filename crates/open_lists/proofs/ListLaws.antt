-- Open lists: what a token leads to.
use Rattle.std.proofs.Common.{◌≡◌, ℕ, suc, ◌+◌, ◌<◌, ◌≤◌, true, false, cond, nat_lt, List, [], ◌∷◌, ◌++◌, length, None, refl, sym, ◌∙◌, ap, arith}
use Rattle.std.specs.Prelude.{Option}
use Rattle.std.proofs.lemmas.Bool.Decides.{nat_tests}
use Rattle.clvm_spec.specs.declared.limits.TheConstants.{MOST_OPEN}
use Rattle.clvm_spec.specs.declared.scan_kind.ScanKind.{ScanKind}
use Rattle.clvm_spec.specs.declared.scan_kind.ScanKind.TheVariants as kind
use Rattle.clvm_spec.specs.Tokens.{Front, Token, Opening, Closing, Point, Literal, Symbol, Took, Unread, AtEnd, token_of}
use Rattle.clvm_spec.specs.Grammar.{Parsed, Parses, Breaks, opened, list_at, list_from}
use Rattle.clvm_spec.specs.Grammar as grammar
use Rattle.clvm_spec.proofs.GrammarLaws.{list_step}
use Rattle.open_lists.specs.declared.list.Reach.{Reach}
use Rattle.open_lists.specs.declared.list.Reach.TheVariants.{Elements, Dot, Last}
use Rattle.open_lists.specs.declared.list.OpenList.{OpenList}
use Rattle.open_lists.specs.Readings.{Reading}
use Rattle.open_lists.specs.Reaches.{is_begun, takes_form, takes_dot, takes_end, forms_with, reach_with}
use Rattle.open_lists.specs.Lists.{behind, token_in, read_of, read_in, form_in, continued_of, continued, last_of, folded, whole, resumed, told}

begun_push : {F : Type 0} (forms : List F) (form : F) → is_begun (forms ++ form ∷ []) ≡ true
begun_push [] form = refl
begun_push (f ∷ forms) form = refl

pub length_push : {A : Type 0} (items : List A) (item : A) → length (items ++ item ∷ []) ≡ length items + 1
length_push [] item = refl
length_push (a ∷ items) item = omega (arith, length_push items item)

module _ {F P M Q : Type 0} {unknown : F → Option P} (r : Reading F P M Q unknown) where
  behind_push : (place : P) (forms : List F) (form : F) (parsed : Parsed M Q) →
      behind r place (forms ++ form ∷ []) parsed ≡ behind r place forms (grammar.behind r.language (r.placed place) (r.meant form) parsed)
  behind_push place [] form parsed = refl
  behind_push place (f ∷ forms) form parsed = ap (grammar.behind r.language (r.placed place) (r.meant f)) (behind_push place forms form parsed)

  behind_parses : (place : P) (forms : List F) (last : M) (rest : List ℕ) → behind r place forms (Parses last rest) ≡ Parses (folded r place forms last) rest
  behind_parses place [] last rest = refl
  behind_parses place (f ∷ forms) last rest = ap (grammar.behind r.language (r.placed place) (r.meant f)) (behind_parses place forms last rest)

  pub folded_push : (place : P) (forms : List F) (form : F) (last : M) → folded r place (forms ++ form ∷ []) last ≡ folded r place forms (r.language.pair (r.placed place) (r.meant form) last)
  folded_push place [] form last = refl
  folded_push place (f ∷ forms) form last = ap (r.language.pair (r.placed place) (r.meant f)) (folded_push place forms form last)

  -- ---- lists in one another

  pub resumed_push : (depth : ℕ) (outer : List (OpenList F P)) (list : OpenList F P) (parsed : Parsed M Q) →
      resumed r depth (outer ++ list ∷ []) parsed ≡ resumed r depth outer (continued r (suc (depth + length outer)) list parsed)
  resumed_push depth [] list parsed = ap (λ d. continued r (suc d) list parsed) (omega arith)
  resumed_push depth (l ∷ outer) list parsed =
      ap (continued r (suc depth) l) (resumed_push (suc depth) outer list parsed ∙ ap (λ d. resumed r (suc depth) outer (continued r (suc d) list parsed)) (omega arith))

  told_more : (depth : ℕ) (list : OpenList F P) (inner : List (OpenList F P)) (front : Front) → 0 < length inner → told r depth (list ∷ inner) front ≡ continued r (suc depth) list (told r (suc depth) inner front)
  told_more depth list [] front h = absurd (omega (arith, h))
  told_more depth list (l ∷ inner) front h = refl

  pub told_push : (depth : ℕ) (outer : List (OpenList F P)) (list : OpenList F P) (front : Front) →
      told r depth (outer ++ list ∷ []) front ≡ resumed r depth outer (read_in r (suc (depth + length outer)) list front)
  told_push depth [] list front = ap (λ d. read_in r (suc d) list front) (omega arith)
  told_push depth (l ∷ outer) list front =
      told_more depth l (outer ++ list ∷ []) front (omega (arith, length_push outer list))
      ∙ ap (continued r (suc depth) l) (told_push (suc depth) outer list front ∙ ap (λ d. resumed r (suc depth) outer (read_in r (suc d) list front)) (omega arith))

  -- ---- a list that is opened

  opened_within : (depth : ℕ) (from rest : List ℕ) → depth < MOST_OPEN →
      opened r.language (list_from r.language) depth from rest ≡ list_at r.language (list_from r.language) (suc depth) (r.language.place from) false (token_of rest)
  opened_within depth from rest h =
      let within : nat_lt depth MOST_OPEN ≡ true = grind (arith, nat_tests) in
      ap (λ t. cond t (list_from r.language (suc depth) (r.language.place from) false rest) (Breaks kind.Deep None (r.language.place from))) within ∙ list_step r.language (suc depth) (r.language.place from) false rest

  too_deep : (depth : ℕ) (from rest : List ℕ) → MOST_OPEN ≤ depth → opened r.language (list_from r.language) depth from rest ≡ Breaks kind.Deep None (r.language.place from)
  too_deep depth from rest h =
      let full : nat_lt depth MOST_OPEN ≡ false = grind (arith, nat_tests) in
      ap (λ t. cond t (list_from r.language (suc depth) (r.language.place from) false rest) (Breaks kind.Deep None (r.language.place from))) full

  -- The list that begins there is read from its first token on.
  pub new_list : (depth : ℕ) (begun : OpenList F P) (place : P) (from rest : List ℕ) → depth < MOST_OPEN → begun.place ≡ place → begun.forms.items ≡ [] → begun.reach ≡ Elements → r.language.place from ≡ r.placed place →
      opened r.language (list_from r.language) depth from rest ≡ read_in r (suc depth) begun (token_of rest)
  new_list depth begun place from rest h is_place is_forms is_reach e =
      opened_within depth from rest h
      ∙ ap (λ p. list_at r.language (list_from r.language) (suc depth) p false (token_of rest)) (e ∙ ap r.placed (sym is_place))
      ∙ ap (λ f. read_of r (suc depth) begun.place f Elements (token_of rest)) (sym is_forms) ∙ ap (λ x. read_of r (suc depth) begun.place begun.forms.items x (token_of rest)) (sym is_reach)

  -- ---- what stands next in a list, by how far it is read

  -- A list that opens there is read as its next form.
  opens_of : (depth : ℕ) (place : P) (forms : List F) (reach : Reach F P) (from rest : List ℕ) → takes_form reach ≡ true →
      read_of r depth place forms reach (Took Opening from rest) ≡ continued_of r depth place forms reach (opened r.language (list_from r.language) depth from rest)
  opens_of depth place forms Elements from rest e = refl
  opens_of depth place forms (Dot dot) from rest e = refl
  opens_of depth place forms (Last dot form) from rest e = cc

  pub opens_in : (depth : ℕ) (list : OpenList F P) (from rest : List ℕ) → takes_form list.reach ≡ true → read_in r depth list (Took Opening from rest) ≡ continued r depth list (opened r.language (list_from r.language) depth from rest)
  opens_in depth list from rest e = opens_of depth list.place list.forms.items list.reach from rest e

  pub deep_in : (depth : ℕ) (list : OpenList F P) (from rest : List ℕ) → takes_form list.reach ≡ true → MOST_OPEN ≤ depth → read_in r depth list (Took Opening from rest) ≡ continued r depth list (Breaks kind.Deep None (r.language.place from))
  deep_in depth list from rest e full = opens_in depth list from rest e ∙ ap (continued r depth list) (too_deep depth from rest full)

  -- With a form next the list goes on.
  next_of : (depth : ℕ) (place : P) (forms : List F) (reach : Reach F P) (form : F) (rest : List ℕ) → takes_form reach ≡ true →
      continued_of r depth place forms reach (Parses (r.meant form) rest) ≡ read_of r depth place (forms_with forms reach form) (reach_with reach form) (token_of rest)
  next_of depth place forms Elements form rest e =
      ap (λ p. behind r place forms (grammar.behind r.language (r.placed place) (r.meant form) p)) (list_step r.language depth (r.placed place) true rest)
      ∙ sym (behind_push place forms form (list_at r.language (list_from r.language) depth (r.placed place) true (token_of rest)))
      ∙ ap (λ b. behind r place (forms ++ form ∷ []) (list_at r.language (list_from r.language) depth (r.placed place) b (token_of rest))) (sym (begun_push forms form))
  next_of depth place forms (Dot dot) form rest e = refl
  next_of depth place forms (Last dot last) form rest e = cc

  pub next_in : (depth : ℕ) (list next : OpenList F P) (form : F) (rest : List ℕ) → takes_form list.reach ≡ true → next.place ≡ list.place → next.forms.items ≡ forms_with list.forms.items list.reach form → next.reach ≡ reach_with list.reach form →
      continued r depth list (Parses (r.meant form) rest) ≡ read_in r depth next (token_of rest)
  next_in depth list next form rest e is_place is_forms is_reach =
      next_of depth list.place list.forms.items list.reach form rest e
      ∙ ap (λ p. read_of r depth p (forms_with list.forms.items list.reach form) (reach_with list.reach form) (token_of rest)) (sym is_place)
      ∙ ap (λ f. read_of r depth next.place f (reach_with list.reach form) (token_of rest)) (sym is_forms) ∙ ap (λ x. read_of r depth next.place next.forms.items x (token_of rest)) (sym is_reach)

  -- Behind a dot stands the last form.
  dot_of_list : (depth : ℕ) (place : P) (forms : List F) (reach : Reach F P) (dot : P) (from rest : List ℕ) → takes_dot forms reach ≡ true → r.language.place from ≡ r.placed dot →
      read_of r depth place forms reach (Took Point from rest) ≡ read_of r depth place forms (Dot dot) (token_of rest)
  dot_of_list depth place [] Elements dot from rest e here = cc
  dot_of_list depth place (f ∷ forms) Elements dot from rest e here = ap (λ p. behind r place (f ∷ forms) (grammar.last_form p (grammar.form_at r.language (list_from r.language) depth (token_of rest)))) here
  dot_of_list depth place forms (Dot d) dot from rest e here = cc
  dot_of_list depth place forms (Last d form) dot from rest e here = cc

  pub dot_in : (depth : ℕ) (list : OpenList F P) (dot : P) (from rest : List ℕ) → takes_dot list.forms.items list.reach ≡ true → r.language.place from ≡ r.placed dot →
      read_in r depth list (Took Point from rest) ≡ read_of r depth list.place list.forms.items (Dot dot) (token_of rest)
  dot_in depth list dot from rest e here = dot_of_list depth list.place list.forms.items list.reach dot from rest e here

  -- A `)` ends the list.
  ends_of : (depth : ℕ) (place : P) (forms : List F) (reach : Reach F P) (from rest : List ℕ) → takes_end reach ≡ true → read_of r depth place forms reach (Took Closing from rest) ≡ Parses (folded r place forms (last_of r place reach)) rest
  ends_of depth place forms Elements from rest e = behind_parses place forms (r.language.atom (r.placed place) []) rest
  ends_of depth place forms (Dot dot) from rest e = cc
  ends_of depth place forms (Last dot form) from rest e = behind_parses place forms (r.meant form) rest

  pub ends_in : (depth : ℕ) (list : OpenList F P) (from rest : List ℕ) → takes_end list.reach ≡ true → read_in r depth list (Took Closing from rest) ≡ Parses (whole r list) rest
  ends_in depth list from rest e = ends_of depth list.place list.forms.items list.reach from rest e

  -- ---- what may not stand there

  abbrev Refuses : ℕ → OpenList F P → Token → ScanKind → Type 0
  Refuses depth list token what = (from rest : List ℕ) → read_in r depth list (Took token from rest) ≡ continued r depth list (Breaks what None (r.language.place from))

  no_opening : (depth : ℕ) (place : P) (forms : List F) (reach : Reach F P) (from rest : List ℕ) → takes_form reach ≡ false → read_of r depth place forms reach (Took Opening from rest) ≡ continued_of r depth place forms reach (Breaks kind.Dot None (r.language.place from))
  no_opening depth place forms Elements from rest e = cc
  no_opening depth place forms (Dot dot) from rest e = cc
  no_opening depth place forms (Last dot form) from rest e = refl

  pub refuses_opening : (depth : ℕ) (list : OpenList F P) → takes_form list.reach ≡ false → Refuses depth list Opening kind.Dot
  refuses_opening depth list e = λ from rest. no_opening depth list.place list.forms.items list.reach from rest e

  no_form : (depth : ℕ) (place : P) (forms : List F) (reach : Reach F P) (form : F) (rest : List ℕ) (at : Q) → takes_form reach ≡ false → continued_of r depth place forms reach (Parses (r.meant form) rest) ≡ continued_of r depth place forms reach (Breaks kind.Dot None at)
  no_form depth place forms Elements form rest at e = cc
  no_form depth place forms (Dot dot) form rest at e = cc
  no_form depth place forms (Last dot last) form rest at e = refl

  pub refuses_form : (depth : ℕ) (list : OpenList F P) (form : F) (rest : List ℕ) (at : Q) → takes_form list.reach ≡ false → continued r depth list (Parses (r.meant form) rest) ≡ continued r depth list (Breaks kind.Dot None at)
  refuses_form depth list form rest at e = no_form depth list.place list.forms.items list.reach form rest at e

  no_point : (depth : ℕ) (place : P) (forms : List F) (reach : Reach F P) (from rest : List ℕ) → takes_dot forms reach ≡ false → read_of r depth place forms reach (Took Point from rest) ≡ continued_of r depth place forms reach (Breaks kind.Dot None (r.language.place from))
  no_point depth place [] Elements from rest e = refl
  no_point depth place (f ∷ forms) Elements from rest e = cc
  no_point depth place forms (Dot dot) from rest e = refl
  no_point depth place forms (Last dot form) from rest e = refl

  pub refuses_point : (depth : ℕ) (list : OpenList F P) → takes_dot list.forms.items list.reach ≡ false → Refuses depth list Point kind.Dot
  refuses_point depth list e = λ from rest. no_point depth list.place list.forms.items list.reach from rest e

  no_closing : (depth : ℕ) (place : P) (forms : List F) (reach : Reach F P) (from rest : List ℕ) → takes_end reach ≡ false → read_of r depth place forms reach (Took Closing from rest) ≡ continued_of r depth place forms reach (Breaks kind.Close None (r.language.place from))
  no_closing depth place forms Elements from rest e = cc
  no_closing depth place forms (Dot dot) from rest e = refl
  no_closing depth place forms (Last dot form) from rest e = cc

  pub refuses_closing : (depth : ℕ) (list : OpenList F P) → takes_end list.reach ≡ false → Refuses depth list Closing kind.Close
  refuses_closing depth list e = λ from rest. no_closing depth list.place list.forms.items list.reach from rest e

  unread_of : (depth : ℕ) (place : P) (forms : List F) (reach : Reach F P) (what : ScanKind) (from : List ℕ) → ((dot : P) (form : F) → reach ≡ Last dot form → ⊥) →
      token_in r depth place forms reach (Unread what from) ≡ form_in r depth place reach (Breaks what None (r.language.place from))
  unread_of depth place forms Elements what from h = refl
  unread_of depth place forms (Dot dot) what from h = refl
  unread_of depth place forms (Last dot form) what from h = absurd (h dot form refl)

  pub unread_in : (depth : ℕ) (list : OpenList F P) (what : ScanKind) (from : List ℕ) → ((dot : P) (form : F) → list.reach ≡ Last dot form → ⊥) →
      read_in r depth list (Unread what from) ≡ continued r depth list (Breaks what None (r.language.place from))
  unread_in depth list what from h = ap (behind r list.place list.forms.items) (unread_of depth list.place list.forms.items list.reach what from h)

  pub no_other_in : (depth : ℕ) (list : OpenList F P) (dot : P) (form : F) (what : ScanKind) (from : List ℕ) → list.reach ≡ Last dot form →
      read_in r depth list (Unread what from) ≡ continued r depth list (Breaks kind.Dot None (r.placed dot))
  no_other_in depth list dot form what from e =
      ap (λ x. behind r list.place list.forms.items (token_in r depth list.place list.forms.items x (Unread what from))) e
      ∙ sym (ap (λ x. behind r list.place list.forms.items (form_in r depth list.place x (Breaks kind.Dot None (r.placed dot)))) e)

  -- ---- a form's token

  literal_of : (depth : ℕ) (place : P) (forms : List F) (reach : Reach F P) (bytes from rest : List ℕ) →
      token_in r depth place forms reach (Took (Literal bytes) from rest) ≡ form_in r depth place reach (Parses (r.language.atom (r.language.place from) bytes) rest)
  literal_of depth place forms Elements bytes from rest = refl
  literal_of depth place forms (Dot dot) bytes from rest = refl
  literal_of depth place forms (Last dot form) bytes from rest = refl

  pub literal_in : (depth : ℕ) (list : OpenList F P) (bytes from rest : List ℕ) → read_in r depth list (Took (Literal bytes) from rest) ≡ continued r depth list (Parses (r.language.atom (r.language.place from) bytes) rest)
  literal_in depth list bytes from rest = ap (behind r list.place list.forms.items) (literal_of depth list.place list.forms.items list.reach bytes from rest)

  symbol_of : (depth : ℕ) (place : P) (forms : List F) (reach : Reach F P) (name from rest : List ℕ) →
      token_in r depth place forms reach (Took (Symbol name) from rest) ≡ form_in r depth place reach (Parses (r.language.symbol (r.language.place from) name) rest)
  symbol_of depth place forms Elements name from rest = refl
  symbol_of depth place forms (Dot dot) name from rest = refl
  symbol_of depth place forms (Last dot form) name from rest = refl

  pub symbol_in : (depth : ℕ) (list : OpenList F P) (name from rest : List ℕ) → read_in r depth list (Took (Symbol name) from rest) ≡ continued r depth list (Parses (r.language.symbol (r.language.place from) name) rest)
  symbol_in depth list name from rest = ap (behind r list.place list.forms.items) (symbol_of depth list.place list.forms.items list.reach name from rest)

  end_of : (depth : ℕ) (place : P) (forms : List F) (reach : Reach F P) → token_in r depth place forms reach AtEnd ≡ token_in r depth place forms reach (Unread kind.End [])
  end_of depth place forms Elements = refl
  end_of depth place forms (Dot dot) = refl
  end_of depth place forms (Last dot form) = refl

  pub end_of_text_in : (depth : ℕ) (list : OpenList F P) → read_in r depth list AtEnd ≡ read_in r depth list (Unread kind.End [])
  end_of_text_in depth list = ap (behind r list.place list.forms.items) (end_of depth list.place list.forms.items list.reach)
