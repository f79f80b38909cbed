-- Each form has the place of its first byte.
use Rattle.std.proofs.Common.{◌≡◌, ℕ, zero, suc, ◌+◌, ◌-◌, ◌<◌, ◌==◌, Bool, true, false, not, cond, ◌||◌, nat_lt, List, [], ◌∷◌, length, drop, None, refl, sym, ◌∙◌, ap, subst, arith}
use Rattle.std.proofs.lemmas.List.{drop-drop}
use Rattle.clvm_spec.specs.declared.scan_kind.ScanKind.TheVariants.{Dot, Deep}
use Rattle.clvm_spec.specs.Tokens.{Token, Opening, Closing, Point, Literal, Front, Took, Unread, AtEnd, is_separator, without_blanks, at_front, token_of}
use Rattle.clvm_spec.specs.Tokens as tokens
use Rattle.clvm_spec.proofs.ScanLaws.{Stands, stands}
use Rattle.text_tokens.specs.Ends.{IsEnd, AreEnds}
use Rattle.text_tokens.proofs.EndLaws.{ends}
use Rattle.lisp_read.specs.declared.place.Place.{Place}
use Rattle.lisp_read.specs.Forms.{Form, Atom, Symbol}
use Rattle.clvm_spec.specs.Grammar.{most_open, Language, Parses, Breaks, InList, is_dots_fault, closed, last_form, opened, form_at, behind, with_rest, list_at, list_within, list_from}
use Rattle.lisp_read.specs.Grammar.{place_in, chialisp, ParsedForm, Read, Reads, Unreadable, with_form, with_forms, forms_at, forms_within, forms_of}
use Rattle.lisp_read.specs.Laws.{IsTokenAt, is_token, is_list, IsPlaced, ArePlaced, PlacesAreFirstBytes}

-- ---- tokens

-- Behind the blanks of a text stand none.
blanks_if : (b : ℕ) (bytes blank : List ℕ) (test : Bool) → (is_separator b || b == 0x3b) ≡ test → without_blanks false blank ≡ blank → without_blanks false (cond test blank (b ∷ bytes)) ≡ cond test blank (b ∷ bytes)
blanks_if b bytes blank true e h = h
blanks_if b bytes blank false e h = ap (λ t. cond t (without_blanks (b == 0x3b) bytes) (b ∷ bytes)) e

blanks_once : (in_comment : Bool) (text : List ℕ) → without_blanks false (without_blanks in_comment text) ≡ without_blanks in_comment text
blanks_once in_comment [] = refl
blanks_once true (b ∷ bytes) = blanks_once (not (b == 0x0a)) bytes
blanks_once false (b ∷ bytes) = blanks_if b bytes (without_blanks (b == 0x3b) bytes) (is_separator b || b == 0x3b) refl (blanks_once (b == 0x3b) bytes)

token_again : (text : List ℕ) (token : Token) (from rest : List ℕ) → token_of text ≡ Took token from rest → token_of from ≡ Took token from rest
unfolding token_of
token_again text token from rest e =
    let is = subst (Stands (without_blanks false text)) e (stands text) in
    ap (λ f. at_front (without_blanks false f)) is.0 ∙ ap at_front (blanks_once false text) ∙ e

end_of_end : (end mid text : List ℕ) → IsEnd end mid → IsEnd mid text → IsEnd end text
end_of_end end mid text e m = record {
  within = omega (arith, e.within, m.within);
  stands =
      let steps : (length text - length mid) + (length mid - length end) ≡ length text - length end = omega (arith, e.within, m.within) in
      e.stands ∙ ap (drop (length mid - length end)) m.stands ∙ drop-drop (length mid - length end) (length text - length mid) text ∙ ap (λ n. drop n text) steps;
}

module _ (number : ℕ) (text : List ℕ) where
  abbrev there : List ℕ → Place
  there = place_in number text

  abbrev IsGoodFront : Front → Type 0
  IsGoodFront (Took token from rest) = IsTokenAt number text (there from) token × IsEnd rest text
  IsGoodFront (Unread kind from) = Unit {0}
  IsGoodFront AtEnd = Unit {0}

  token_at : (token : Token) (from rest : List ℕ) → token_of from ≡ Took token from rest → IsEnd from text → length rest < length from → IsTokenAt number text (there from) token
  token_at token from rest e end less = record {
    text_is = refl;
    within = omega (arith, end.within, less);
    stands = (rest, subst (λ f. token_of f ≡ Took token f rest) end.stands e);
  }

  good_as : (more : List ℕ) (front : Front) → token_of more ≡ front → IsEnd more text → AreEnds more front → IsGoodFront front
  good_as more (Took token from rest) e end h =
      (token_at token from rest (token_again more token from rest e) (end_of_end from more text h.0 end) h.2, end_of_end rest more text h.1 end)
  good_as more (Unread kind from) e end h = tt
  good_as more AtEnd e end h = tt

  good_front : (more : List ℕ) → IsEnd more text → IsGoodFront (token_of more)
  good_front more end = good_as more (token_of more) refl end (ends more)

  -- ---- what is parsed

  abbrev language : Language Form Place
  language = chialisp there

  abbrev IsGood : ParsedForm → Type 0
  IsGood (Parses form rest) = IsPlaced number text form × IsEnd rest text
  IsGood (Breaks kind unknown at) = Unit {0}

  abbrev AllGood : InList Form Place → Type 0
  AllGood list = (depth : ℕ) (place : Place) (begun : Bool) (more : List ℕ) → IsTokenAt number text place Opening → IsEnd more text → IsGood (list depth place begun more)

  good_if : (test : Bool) (f g : ParsedForm) → IsGood f → IsGood g → IsGood (cond test f g)
  good_if true f g hf hg = hf
  good_if false f g hf hg = hg

  good_opened : (list : InList Form Place) (depth : ℕ) (from rest : List ℕ) → AllGood list → IsTokenAt number text (there from) Opening → IsEnd rest text → IsGood (opened language list depth from rest)
  good_opened list depth from rest all at end = good_if (nat_lt depth most_open) (list (suc depth) (there from) false rest) (Breaks Deep None (there from)) (all (suc depth) (there from) false rest at end) tt

  good_form : (list : InList Form Place) (depth : ℕ) (front : Front) → AllGood list → IsGoodFront front → IsGood (form_at language list depth front)
  good_form list depth AtEnd all h = tt
  good_form list depth (Unread kind from) all h = tt
  good_form list depth (Took Closing from rest) all h = tt
  good_form list depth (Took Point from rest) all h = tt
  good_form list depth (Took (Literal bytes) from rest) all h = (is_token h.0, h.1)
  good_form list depth (Took (tokens.Symbol name) from rest) all h = (h.0, h.1)
  good_form list depth (Took Opening from rest) all h = good_opened list depth from rest all h.0 h.1

  good_closed : (dot : Place) (form : Form) (front : Front) → IsPlaced number text form → IsGoodFront front → IsGood (closed dot form front)
  good_closed dot form AtEnd f h = tt
  good_closed dot form (Unread kind from) f h = tt
  good_closed dot form (Took Closing from rest) f h = (f, h.1)
  good_closed dot form (Took Point from rest) f h = tt
  good_closed dot form (Took (Literal bytes) from rest) f h = tt
  good_closed dot form (Took (tokens.Symbol name) from rest) f h = tt
  good_closed dot form (Took Opening from rest) f h = tt

  good_last : (dot : Place) (parsed : ParsedForm) → IsGood parsed → IsGood (last_form dot parsed)
  good_last dot (Parses form rest) h = good_closed dot form (token_of rest) h.0 (good_front rest h.1)
  good_last dot (Breaks kind unknown at) h = good_if (is_dots_fault kind) (Breaks Dot None dot) (Breaks kind unknown at) tt tt

  good_behind : (place : Place) (form : Form) (parsed : ParsedForm) → IsTokenAt number text place Opening → IsPlaced number text form → IsGood parsed → IsGood (behind language place form parsed)
  good_behind place form (Parses forms more) at f h = ((at, f, h.0), h.1)
  good_behind place form (Breaks kind unknown k) at f h = tt

  good_rest : (list : InList Form Place) (depth : ℕ) (place : Place) (first : ParsedForm) → AllGood list → IsTokenAt number text place Opening → IsGood first → IsGood (with_rest language list depth place first)
  good_rest list depth place (Parses form rest) all at h = good_behind place form (list depth place true rest) at h.0 (all depth place true rest at h.1)
  good_rest list depth place (Breaks kind unknown k) all at h = tt

  good_list : (list : InList Form Place) (depth : ℕ) (place : Place) (begun : Bool) (front : Front) → AllGood list → IsTokenAt number text place Opening → IsGoodFront front → IsGood (list_at language list depth place begun front)
  good_list list depth place begun AtEnd all at h = tt
  good_list list depth place begun (Unread kind from) all at h = tt
  good_list list depth place begun (Took Closing from rest) all at h = (is_list at refl, h.1)
  good_list list depth place true (Took Point from rest) all at h =
      good_last (there from) (form_at language list depth (token_of rest)) (good_form list depth (token_of rest) all (good_front rest h.1))
  good_list list depth place false (Took Point from rest) all at h = tt
  good_list list depth place begun (Took (Literal bytes) from rest) all at h = good_rest list depth place (Parses (Atom (there from) bytes) rest) all at (is_token h.0, h.1)
  good_list list depth place begun (Took (tokens.Symbol name) from rest) all at h = good_rest list depth place (Parses (Symbol (there from) name) rest) all at (h.0, h.1)
  good_list list depth place begun (Took Opening from rest) all at h = good_rest list depth place (opened language list depth from rest) all at (good_opened list depth from rest all h.0 h.1)

  good_within : (bound : ℕ) → AllGood (list_within language bound)
  good_within zero depth place begun more at end = tt
  good_within (suc bound) depth place begun more at end = good_list (list_within language bound) depth place begun (token_of more) (good_within bound) at (good_front more end)

  good_from : AllGood (list_from language)
  good_from depth place begun more at end = good_within (suc (length more)) depth place begun more at end

  -- ---- the forms

  abbrev AreGood : Read → Type 0
  AreGood (Reads forms) = ArePlaced number text forms
  AreGood (Unreadable kind at) = Unit {0}

  good_with : (form : Form) (read : Read) → IsPlaced number text form → AreGood read → AreGood (with_form form read)
  good_with form (Reads forms) f h = (f, h)
  good_with form (Unreadable kind at) f h = tt

  good_forms : (more : List ℕ → Read) (parsed : ParsedForm) → ((rest : List ℕ) → IsEnd rest text → AreGood (more rest)) → IsGood parsed → AreGood (with_forms more parsed)
  good_forms more (Parses form rest) all h = good_with form (more rest) h.0 (all rest h.1)
  good_forms more (Breaks kind unknown at) all h = tt

  good_at : (more : List ℕ → Read) (front : Front) → ((rest : List ℕ) → IsEnd rest text → AreGood (more rest)) → IsGoodFront front → AreGood (forms_at there more front)
  good_at more AtEnd rest h = tt
  good_at more (Unread kind from) rest h = tt
  good_at more (Took token from behind_it) rest h =
      good_forms more (form_at language (list_from language) 0 (Took token from behind_it)) rest (good_form (list_from language) 0 (Took token from behind_it) good_from h)

  good_bound : (bound : ℕ) (more : List ℕ) → IsEnd more text → AreGood (forms_within there bound more)
  good_bound zero more end = tt
  good_bound (suc bound) more end = good_at (forms_within there bound) (token_of more) (λ rest e. good_bound bound rest e) (good_front more end)

whole_end : (text : List ℕ) → IsEnd text text
whole_end text = record {
  within = omega arith;
  stands = let none : length text - length text ≡ 0 = omega arith in sym (ap (λ n. drop n text) none);
}

pub places_law : PlacesAreFirstBytes
unfolding forms_of
places_law number text forms e =
    let all = good_bound number text (suc (length text)) text (whole_end text) in
    subst (AreGood number text) e all
