-- Each token takes a byte, so what bounds the grammar of lists is no part of it: laws for each language.
use Rattle.std.proofs.Common.{◌≡◌, ℕ, zero, suc, ◌<◌, ◌≤◌, Bool, true, false, cond, nat_lt, List, length, None, refl, ◌∙◌, ap, arith}
use Rattle.clvm_spec.specs.declared.scan_kind.ScanKind.TheVariants.{Dot, Deep}
use Rattle.clvm_spec.specs.Tokens.{Opening, Closing, Point, Literal, Symbol, Front, Took, Unread, AtEnd, token_of}
use Rattle.clvm_spec.specs.Grammar.{Language, Parsed, Parses, Breaks, InList, is_dots_fault, closed, last_form, opened, form_at, behind, with_rest, list_at, list_within, list_from}
use Rattle.clvm_spec.proofs.ScanLaws.{Less, less_front}

-- ---- what is parsed takes bytes

abbrev pub Shrinks : {Form Place : Type 0} → ℕ → Parsed Form Place → Type 0
Shrinks n (Parses form rest) = length rest < n
Shrinks n (Breaks kind unknown at) = Unit {0}

abbrev pub AllShrink : {Form Place : Type 0} → InList Form Place → Type 0
AllShrink {Form} {Place} list = (depth : ℕ) (place : Place) (begun : Bool) (text : List ℕ) → Shrinks (length text) (list depth place begun text)

module _ {Form Place : Type 0} where
  shrinks_more : (m n : ℕ) (parsed : Parsed Form Place) → m ≤ n → Shrinks m parsed → Shrinks n parsed
  shrinks_more m n (Parses form rest) le h = omega (arith, le, h)
  shrinks_more m n (Breaks kind unknown at) le h = tt

  shrinks_if : (n : ℕ) (test : Bool) (f g : Parsed Form Place) → Shrinks n f → Shrinks n g → Shrinks n (cond test f g)
  shrinks_if n true f g hf hg = hf
  shrinks_if n false f g hf hg = hg

  shrinks_closed : (n : ℕ) (dot : Place) (form : Form) (front : Front) → Less n front → Shrinks n (closed dot form front)
  shrinks_closed n dot form AtEnd h = tt
  shrinks_closed n dot form (Unread kind from) h = tt
  shrinks_closed n dot form (Took Closing from rest) h = h
  shrinks_closed n dot form (Took Point from rest) h = tt
  shrinks_closed n dot form (Took (Literal bytes) from rest) h = tt
  shrinks_closed n dot form (Took (Symbol name) from rest) h = tt
  shrinks_closed n dot form (Took Opening from rest) h = tt

  shrinks_last : (n : ℕ) (dot : Place) (parsed : Parsed Form Place) → Shrinks n parsed → Shrinks n (last_form dot parsed)
  shrinks_last n dot (Parses form rest) h = shrinks_closed n dot form (token_of rest) (less_front rest n (token_of rest) refl (omega (arith, h)))
  shrinks_last n dot (Breaks kind unknown at) h = shrinks_if n (is_dots_fault kind) (Breaks Dot None dot) (Breaks kind unknown at) tt tt

module _ {Form Place : Type 0} (language : Language Form Place) where
  pub shrinks_opened : (list : InList Form Place) (n depth : ℕ) (from rest : List ℕ) → AllShrink list → length rest < n → Shrinks n (opened language list depth from rest)
  shrinks_opened list n depth from rest all h =
      let inside = list (suc depth) (language.place from) false rest in
      shrinks_if n (nat_lt depth 1024) inside (Breaks Deep None (language.place from)) (shrinks_more (length rest) n inside (omega (arith, h)) (all (suc depth) (language.place from) false rest)) tt

  shrinks_behind : (n : ℕ) (place : Place) (form : Form) (parsed : Parsed Form Place) → Shrinks n parsed → Shrinks n (behind language place form parsed)
  shrinks_behind n place form (Parses forms rest) h = h
  shrinks_behind n place form (Breaks kind unknown at) h = tt

  shrinks_rest : (list : InList Form Place) (n depth : ℕ) (place : Place) (first : Parsed Form Place) → AllShrink list → Shrinks n first → Shrinks n (with_rest language list depth place first)
  shrinks_rest list n depth place (Parses form rest) all h =
      let more = list depth place true rest in
      shrinks_behind n place form more (shrinks_more (length rest) n more (omega (arith, h)) (all depth place true rest))
  shrinks_rest list n depth place (Breaks kind unknown at) all h = tt

  pub shrinks_form : (list : InList Form Place) (n depth : ℕ) (front : Front) → AllShrink list → Less n front → Shrinks n (form_at language list depth front)
  shrinks_form list n depth AtEnd all h = tt
  shrinks_form list n depth (Unread kind from) all h = tt
  shrinks_form list n depth (Took Closing from rest) all h = tt
  shrinks_form list n depth (Took Point from rest) all h = tt
  shrinks_form list n depth (Took (Literal bytes) from rest) all h = h
  shrinks_form list n depth (Took (Symbol name) from rest) all h = h
  shrinks_form list n depth (Took Opening from rest) all h = shrinks_opened list n depth from rest all h

  shrinks_list : (list : InList Form Place) (n depth : ℕ) (place : Place) (begun : Bool) (front : Front) → AllShrink list → Less n front → Shrinks n (list_at language list depth place begun front)
  shrinks_list list n depth place begun (Took Closing from rest) all h = h
  shrinks_list list n depth place true (Took Point from rest) all h =
      shrinks_last n (language.place from) (form_at language list depth (token_of rest)) (shrinks_form list n depth (token_of rest) all (less_front rest n (token_of rest) refl (omega (arith, h))))
  shrinks_list list n depth place false (Took Point from rest) all h = tt
  shrinks_list list n depth place begun (Took Opening from rest) all h = shrinks_rest list n depth place (opened language list depth from rest) all (shrinks_opened list n depth from rest all h)
  shrinks_list list n depth place begun (Took (Literal bytes) from rest) all h = shrinks_rest list n depth place (Parses (language.atom (language.place from) bytes) rest) all h
  shrinks_list list n depth place begun (Took (Symbol name) from rest) all h = shrinks_rest list n depth place (Parses (language.symbol (language.place from) name) rest) all h
  shrinks_list list n depth place begun (Unread kind from) all h = tt
  shrinks_list list n depth place begun AtEnd all h = tt

  shrinks_within : (bound : ℕ) → AllShrink (list_within language bound)
  shrinks_within zero depth place begun text = tt
  shrinks_within (suc bound) depth place begun text =
      shrinks_list (list_within language bound) (length text) depth place begun (token_of text) (shrinks_within bound) (less_front text (length text) (token_of text) refl (omega arith))

  pub shrinks_from : AllShrink (list_from language)
  shrinks_from depth place begun text = shrinks_within (suc (length text)) depth place begun text

  -- ---- readers of lists that agree on shorter texts

  abbrev AgreeBelow : ℕ → InList Form Place → InList Form Place → Type 0
  AgreeBelow n a b = (depth : ℕ) (place : Place) (begun : Bool) (text : List ℕ) → length text < n → a depth place begun text ≡ b depth place begun text

  module _ (n : ℕ) (a b : InList Form Place) (same : AgreeBelow n a b) (all : AllShrink b) where
    same_opened : (depth : ℕ) (from rest : List ℕ) → length rest < n → opened language a depth from rest ≡ opened language b depth from rest
    same_opened depth from rest h = ap (λ p. cond (nat_lt depth 1024) p (Breaks Deep None (language.place from))) (same (suc depth) (language.place from) false rest h)

    same_rest : (depth : ℕ) (place : Place) (first : Parsed Form Place) → Shrinks n first → with_rest language a depth place first ≡ with_rest language b depth place first
    same_rest depth place (Parses form rest) h = ap (behind language place form) (same depth place true rest h)
    same_rest depth place (Breaks kind unknown at) h = refl

    same_form : (depth : ℕ) (front : Front) → Less n front → form_at language a depth front ≡ form_at language b depth front
    same_form depth AtEnd h = refl
    same_form depth (Unread kind from) h = refl
    same_form depth (Took Closing from rest) h = refl
    same_form depth (Took Point from rest) h = refl
    same_form depth (Took (Literal bytes) from rest) h = refl
    same_form depth (Took (Symbol name) from rest) h = refl
    same_form depth (Took Opening from rest) h = same_opened depth from rest h

    same_list : (depth : ℕ) (place : Place) (begun : Bool) (front : Front) → Less n front → list_at language a depth place begun front ≡ list_at language b depth place begun front
    same_list depth place begun (Took Closing from rest) h = refl
    same_list depth place true (Took Point from rest) h =
        ap (last_form (language.place from)) (same_form depth (token_of rest) (less_front rest n (token_of rest) refl (omega (arith, h))))
    same_list depth place false (Took Point from rest) h = refl
    same_list depth place begun (Took Opening from rest) h =
        ap (with_rest language a depth place) (same_opened depth from rest h) ∙ same_rest depth place (opened language b depth from rest) (shrinks_opened b n depth from rest all h)
    same_list depth place begun (Took (Literal bytes) from rest) h = same_rest depth place (Parses (language.atom (language.place from) bytes) rest) h
    same_list depth place begun (Took (Symbol name) from rest) h = same_rest depth place (Parses (language.symbol (language.place from) name) rest) h
    same_list depth place begun (Unread kind from) h = refl
    same_list depth place begun AtEnd h = refl

  same_within : (c d depth : ℕ) (place : Place) (begun : Bool) (text : List ℕ) → length text < c → length text < d → list_within language c depth place begun text ≡ list_within language d depth place begun text
  same_within zero d depth place begun text lc ld = absurd (omega arith)
  same_within (suc c) zero depth place begun text lc ld = absurd (omega arith)
  same_within (suc c) (suc d) depth place begun text lc ld =
      same_list (length text) (list_within language c) (list_within language d) (λ e p f rest less. same_within c d e p f rest (omega (arith, less, lc)) (omega (arith, less, ld))) (shrinks_within d)
      depth place begun (token_of text) (less_front text (length text) (token_of text) refl (omega arith))

  agree_from : (bound : ℕ) → AgreeBelow bound (list_within language bound) (list_from language)
  agree_from bound depth place begun text h = same_within bound (suc (length text)) depth place begun text h (omega arith)

  -- What stands in a list is what its first token begins.
  pub list_step : (depth : ℕ) (place : Place) (begun : Bool) (text : List ℕ) → list_from language depth place begun text ≡ list_at language (list_from language) depth place begun (token_of text)
  list_step depth place begun text =
      same_list (length text) (list_within language (length text)) (list_from language) (agree_from (length text)) shrinks_from
      depth place begun (token_of text) (less_front text (length text) (token_of text) refl (omega arith))

  -- A form needs no more steps than its text has bytes.
  pub form_within : (bound depth : ℕ) (text : List ℕ) → length text ≤ bound → form_at language (list_within language bound) depth (token_of text) ≡ form_at language (list_from language) depth (token_of text)
  form_within bound depth text h =
      same_form (length text) (list_within language bound) (list_from language) (λ e p f rest less. agree_from bound e p f rest (omega (arith, less, h))) shrinks_from
      depth (token_of text) (less_front text (length text) (token_of text) refl (omega arith))
