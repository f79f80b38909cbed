-- What is read leaves nothing of its text.
use Rattle.std.specs.Prelude.{Result, Ok, Err}
use Rattle.std.proofs.Common.{◌≡◌, ℕ, zero, suc, ◌+◌, ◌-◌, ◌<◌, ◌≤◌, ◌==◌, Bool, true, false, not, cond, ◌||◌, nat_lt, List, [], ◌∷◌, ◌++◌, length, take, drop, None, refl, sym, ◌∙◌, ap, subst, arith, length-append}
use Rattle.std.specs.List.{prefix_len}
use Rattle.std.proofs.lemmas.Bool.Decides.{nat_tests}
use Rattle.clvm_spec.specs.declared.scan_kind.ScanKind.{ScanKind}
use Rattle.clvm_spec.specs.declared.scan_kind.ScanKind.TheVariants.{Dot, Deep, Text, Byte}
use Rattle.clvm_spec.specs.Tokens.{Token, Opening, Closing, Point, Literal, Front, Took, Unread, AtEnd, is_separator, is_plain, is_word_byte, without_blanks, word_token, word_front, word_at, quoted_of, quoted, at_word, at_quote, at_closing, at_opening, at_front, token_of}
use Rattle.clvm_spec.specs.Tokens as tokens
use Rattle.clvm_spec.proofs.ScanLaws.{Less, less_front}
use Rattle.lisp_read.specs.declared.place.Place.{Place}
use Rattle.lisp_read.specs.Forms.{Form, Atom, Symbol}
use Rattle.clvm_spec.specs.Grammar.{most_open, Language, Parses, Breaks, InList, is_dots_fault, closed, last_form, opened, form_at, behind, with_rest, list_at, list_within, list_from}
use Rattle.clvm_spec.proofs.GrammarLaws.{Shrinks, shrinks_form, shrinks_from, list_step}
use Rattle.lisp_read.specs.Grammar.{place_in, Places, chialisp, ParsedForm, Read, Reads, Unreadable, with_form, with_forms, forms_at, forms_from}
use Rattle.lisp_read.specs.Laws.{after, LeavesNothing}
use Rattle.lisp_read.proofs.BoundLaws.{forms_step, forms_start}

module _ (lines : List ℕ) where
  -- the lines behind a text
  abbrev behind_it : List ℕ
  behind_it = 0x0a ∷ lines

  -- ---- blanks

  abbrev with_lines : List ℕ → List ℕ
  with_lines [] = without_blanks false lines
  with_lines (b ∷ bytes) = b ∷ bytes ++ behind_it

  blanks_if : (b : ℕ) (bytes blank other : List ℕ) (test : Bool) → other ≡ with_lines blank → cond test other (b ∷ bytes ++ behind_it) ≡ with_lines (cond test blank (b ∷ bytes))
  blanks_if b bytes blank other true e = e
  blanks_if b bytes blank other false e = refl

  blanks_lines : (in_comment : Bool) (text : List ℕ) → without_blanks in_comment (text ++ behind_it) ≡ with_lines (without_blanks in_comment text)
  blanks_lines true [] = refl
  blanks_lines false [] = refl
  blanks_lines true (b ∷ bytes) = blanks_lines (not (b == 0x0a)) bytes
  blanks_lines false (b ∷ bytes) = blanks_if b bytes (without_blanks (b == 0x3b) bytes) (without_blanks (b == 0x3b) (bytes ++ behind_it)) (is_separator b || b == 0x3b) (blanks_lines (b == 0x3b) bytes)

  -- ---- tokens

  -- A token that is read in the text is read with the lines behind it.
  abbrev Follows : Front → Front → Type 0
  Follows (Took token from rest) front = front ≡ Took token (from ++ behind_it) (rest ++ behind_it)
  Follows (Unread kind from) front = Unit {0}
  Follows AtEnd front = front ≡ token_of lines

  follows_if : (test : Bool) (f g f' g' : Front) → (test ≡ true → Follows f f') → (test ≡ false → Follows g g') → Follows (cond test f g) (cond test f' g')
  follows_if true f g f' g' hf hg = hf refl
  follows_if false f g f' g' hf hg = hg refl

  take_prefix : (size : ℕ) (bytes : List ℕ) → size ≤ length bytes → take size (bytes ++ behind_it) ≡ take size bytes
  take_prefix zero bytes h = refl
  take_prefix (suc size) [] h = absurd (omega (arith, h))
  take_prefix (suc size) (b ∷ bytes) h = ap (λ l. b ∷ l) (take_prefix size bytes (omega (arith, h)))

  drop_prefix : (size : ℕ) (bytes : List ℕ) → size ≤ length bytes → drop size (bytes ++ behind_it) ≡ drop size bytes ++ behind_it
  drop_prefix zero bytes h = refl
  drop_prefix (suc size) [] h = absurd (omega (arith, h))
  drop_prefix (suc size) (b ∷ bytes) h = drop_prefix size bytes (omega (arith, h))

  prefix_within : (test : ℕ → Bool) (bytes : List ℕ) → prefix_len test bytes ≤ length bytes
  prefix_within test [] = omega arith
  prefix_within test (b ∷ bytes) = elim (test b) as (λ t. cond t (1 + prefix_len test bytes) 0 ≤ suc (length bytes)) [ true ↦ omega (arith, prefix_within test bytes) | false ↦ omega arith ]

  -- a prefix that ends before LF
  prefix_lines : (test : ℕ → Bool) (bytes : List ℕ) → test 0x0a ≡ false → prefix_len test (bytes ++ behind_it) ≡ prefix_len test bytes
  prefix_lines test [] h = ap (λ t. cond t (1 + prefix_len test lines) 0) h
  prefix_lines test (b ∷ bytes) h = ap (λ n. cond (test b) (1 + n) 0) (prefix_lines test bytes h)

  -- a prefix that ends within the bytes
  prefix_inside : (test : ℕ → Bool) (bytes : List ℕ) → prefix_len test bytes < length bytes → prefix_len test (bytes ++ behind_it) ≡ prefix_len test bytes
  prefix_inside test [] h = absurd (omega (arith, h))
  prefix_inside test (b ∷ bytes) h =
      (elim (test b) as (λ t. cond t (1 + prefix_len test bytes) 0 < suc (length bytes) → cond t (1 + prefix_len test (bytes ++ behind_it)) 0 ≡ cond t (1 + prefix_len test bytes) 0)
      [ true ↦ (λ less. ap (λ n. 1 + n) (prefix_inside test bytes (omega (arith, less)))) | false ↦ (λ less. refl) ]) h

  follows_word : (bytes : List ℕ) → Follows (word_at bytes) (word_at (bytes ++ behind_it))
  follows_word bytes =
      let size = prefix_len is_word_byte bytes in
      let within = prefix_within is_word_byte bytes in
      let same = prefix_lines is_word_byte bytes refl in
      subst (λ n. Follows (word_front bytes size (word_token (take size bytes))) (word_front (bytes ++ behind_it) n (word_token (take n (bytes ++ behind_it))))) (sym same)
      (subst (λ w. Follows (word_front bytes size (word_token (take size bytes))) (word_front (bytes ++ behind_it) size (word_token w))) (sym (take_prefix size bytes within))
      (as_token size within (word_token (take size bytes))))
    where
      as_token : (size : ℕ) → size ≤ length bytes → (token : Result Token ScanKind) → Follows (word_front bytes size token) (word_front (bytes ++ behind_it) size token)
      as_token size within (Ok token) = ap (Took token (bytes ++ behind_it)) (drop_prefix size bytes within)
      as_token size within (Err kind) = tt

  follows_quoted : (b : ℕ) (bytes : List ℕ) → Follows (quoted b bytes) (quoted b (bytes ++ behind_it))
  follows_quoted b bytes = as_test (nat_lt (prefix_len test bytes) (length bytes)) refl
    where
      test : ℕ → Bool
      test c = not (c == b)

      size : ℕ
      size = prefix_len test bytes

      other : ℕ → Front
      other n = quoted_of b n (bytes ++ behind_it)

      read_on : size < length bytes → other size ≡ Took (Literal (take size bytes)) (b ∷ bytes ++ behind_it) (drop (suc size) bytes ++ behind_it)
      read_on less =
          let all = length-append bytes behind_it in
          let within : nat_lt size (length (bytes ++ behind_it)) ≡ true = grind (arith, nat_tests) in
          ap (λ t. cond t (Took (Literal (take size (bytes ++ behind_it))) (b ∷ bytes ++ behind_it) (drop (suc size) (bytes ++ behind_it))) (Unread Text (b ∷ bytes ++ behind_it))) within
          ∙ ap (λ w. Took (Literal w) (b ∷ bytes ++ behind_it) (drop (suc size) (bytes ++ behind_it))) (take_prefix size bytes (omega (arith, less)))
          ∙ ap (Took (Literal (take size bytes)) (b ∷ bytes ++ behind_it)) (drop_prefix (suc size) bytes (omega (arith, less)))

      as_test : (inside : Bool) → nat_lt size (length bytes) ≡ inside → Follows (quoted_of b size bytes) (other (prefix_len test (bytes ++ behind_it)))
      as_test true e =
          let less : size < length bytes = grind (arith, nat_tests) in
          subst (λ f. Follows f (other (prefix_len test (bytes ++ behind_it)))) (sym (ap (λ t. cond t (Took (Literal (take size bytes)) (b ∷ bytes) (drop (suc size) bytes)) (Unread Text (b ∷ bytes))) e))
          (ap other (prefix_inside test bytes less) ∙ read_on less)
      as_test false e =
          subst (λ f. Follows f (other (prefix_len test (bytes ++ behind_it)))) (sym (ap (λ t. cond t (Took (Literal (take size bytes)) (b ∷ bytes) (drop (suc size) bytes)) (Unread Text (b ∷ bytes))) e)) tt

  follows_front : (b : ℕ) (bytes : List ℕ) → Follows (at_front (b ∷ bytes)) (at_front (b ∷ bytes ++ behind_it))
  follows_front b bytes =
      follows_if (b == 0x28) (Took Opening (b ∷ bytes) bytes) (at_closing b bytes) (Took Opening (b ∷ bytes ++ behind_it) (bytes ++ behind_it)) (at_closing b (bytes ++ behind_it)) (λ t. refl)
      (λ o. follows_if (b == 0x29) (Took Closing (b ∷ bytes) bytes) (at_quote b bytes) (Took Closing (b ∷ bytes ++ behind_it) (bytes ++ behind_it)) (at_quote b (bytes ++ behind_it)) (λ t. refl)
      (λ c. follows_if (b == 0x22 || b == 0x27) (quoted b bytes) (at_word b bytes) (quoted b (bytes ++ behind_it)) (at_word b (bytes ++ behind_it)) (λ t. follows_quoted b bytes)
      (λ q. follows_if (is_plain b) (word_at (b ∷ bytes)) (Unread Byte (b ∷ bytes)) (word_at (b ∷ bytes ++ behind_it)) (Unread Byte (b ∷ bytes ++ behind_it)) (λ t. follows_word (b ∷ bytes)) (λ t. tt))))

  follows_blank : (blank : List ℕ) → Follows (at_front blank) (at_front (with_lines blank))
  unfolding token_of
  follows_blank [] = refl
  follows_blank (b ∷ bytes) = follows_front b bytes

  follows : (text : List ℕ) → Follows (token_of text) (token_of (text ++ behind_it))
  unfolding token_of
  follows text = subst (λ t. Follows (at_front (without_blanks false text)) (at_front t)) (sym (blanks_lines false text)) (follows_blank (without_blanks false text))

  -- ---- what is parsed

  module _ (there beyond : Places) (same : (from : List ℕ) → beyond (from ++ behind_it) ≡ there from) where
    abbrev here : Language Form Place
    here = chialisp there

    abbrev longer : Language Form Place
    longer = chialisp beyond

    -- What is parsed in the text is parsed with the lines behind it.
    abbrev Keeps : ParsedForm → ParsedForm → Type 0
    Keeps (Parses form rest) parsed = parsed ≡ Parses form (rest ++ behind_it)
    Keeps (Breaks kind unknown at) parsed = Unit {0}

    abbrev AllKeep : InList Form Place → InList Form Place → Type 0
    AllKeep a b = (depth : ℕ) (place : Place) (begun : Bool) (text : List ℕ) → Keeps (a depth place begun text) (b depth place begun (text ++ behind_it))

    keeps_if : (test : Bool) (f g f' g' : ParsedForm) → Keeps f f' → Keeps g g' → Keeps (cond test f g) (cond test f' g')
    keeps_if true f g f' g' hf hg = hf
    keeps_if false f g f' g' hf hg = hg

    keeps_opened : (a b : InList Form Place) (depth : ℕ) (from rest : List ℕ) → AllKeep a b → Keeps (opened here a depth from rest) (opened longer b depth (from ++ behind_it) (rest ++ behind_it))
    keeps_opened a b depth from rest all =
        keeps_if (nat_lt depth most_open) (a (suc depth) (there from) false rest) (Breaks Deep None (there from)) (b (suc depth) (beyond (from ++ behind_it)) false (rest ++ behind_it)) (Breaks Deep None (beyond (from ++ behind_it)))
        (subst (λ p. Keeps (a (suc depth) (there from) false rest) (b (suc depth) p false (rest ++ behind_it))) (sym (same from)) (all (suc depth) (there from) false rest)) tt

    keeps_form : (a b : InList Form Place) (depth : ℕ) (front other : Front) → AllKeep a b → Follows front other → Keeps (form_at here a depth front) (form_at longer b depth other)
    keeps_form a b depth AtEnd other all h = tt
    keeps_form a b depth (Unread kind from) other all h = tt
    keeps_form a b depth (Took Closing from rest) other all h = tt
    keeps_form a b depth (Took Point from rest) other all h = tt
    keeps_form a b depth (Took (Literal bytes) from rest) other all h = ap (form_at longer b depth) h ∙ ap (λ p. Parses (Atom p bytes) (rest ++ behind_it)) (same from)
    keeps_form a b depth (Took (tokens.Symbol name) from rest) other all h = ap (form_at longer b depth) h ∙ ap (λ p. Parses (Symbol p name) (rest ++ behind_it)) (same from)
    keeps_form a b depth (Took Opening from rest) other all h = subst (λ f. Keeps (opened here a depth from rest) (form_at longer b depth f)) (sym h) (keeps_opened a b depth from rest all)

    keeps_closed : (dot other_dot : Place) (form : Form) (front other : Front) → Follows front other → Keeps (closed dot form front) (closed other_dot form other)
    keeps_closed dot other_dot form AtEnd other h = tt
    keeps_closed dot other_dot form (Unread kind from) other h = tt
    keeps_closed dot other_dot form (Took Closing from rest) other h = ap (closed other_dot form) h
    keeps_closed dot other_dot form (Took Point from rest) other h = tt
    keeps_closed dot other_dot form (Took (Literal bytes) from rest) other h = tt
    keeps_closed dot other_dot form (Took (tokens.Symbol name) from rest) other h = tt
    keeps_closed dot other_dot form (Took Opening from rest) other h = tt

    keeps_fault : (test : Bool) (dot : Place) (parsed : ParsedForm) (other : ParsedForm) → Keeps parsed other → (Keeps (Breaks Dot None dot) other → Keeps (cond test (Breaks Dot None dot) parsed) other)
    keeps_fault true dot parsed other h k = k
    keeps_fault false dot parsed other h k = h

    keeps_last : (dot other_dot : Place) (parsed other : ParsedForm) → Keeps parsed other → Keeps (last_form dot parsed) (last_form other_dot other)
    keeps_last dot other_dot (Parses form rest) other h =
        subst (λ p. Keeps (closed dot form (token_of rest)) (last_form other_dot p)) (sym h) (keeps_closed dot other_dot form (token_of rest) (token_of (rest ++ behind_it)) (follows rest))
    keeps_last dot other_dot (Breaks kind unknown at) other h = keeps_fault (is_dots_fault kind) dot (Breaks kind unknown at) (last_form other_dot other) tt tt

    keeps_behind : (place : Place) (form : Form) (parsed other : ParsedForm) → Keeps parsed other → Keeps (behind here place form parsed) (behind longer place form other)
    keeps_behind place form (Parses forms rest) other h = ap (behind longer place form) h
    keeps_behind place form (Breaks kind unknown at) other h = tt

    keeps_rest : (a b : InList Form Place) (depth : ℕ) (place : Place) (first other : ParsedForm) → AllKeep a b → Keeps first other → Keeps (with_rest here a depth place first) (with_rest longer b depth place other)
    keeps_rest a b depth place (Parses form rest) other all h =
        subst (λ p. Keeps (with_rest here a depth place (Parses form rest)) (with_rest longer b depth place p)) (sym h)
        (keeps_behind place form (a depth place true rest) (b depth place true (rest ++ behind_it)) (all depth place true rest))
    keeps_rest a b depth place (Breaks kind unknown at) other all h = tt

    keeps_list : (a b : InList Form Place) (depth : ℕ) (place : Place) (begun : Bool) (front other : Front) → AllKeep a b → Follows front other → Keeps (list_at here a depth place begun front) (list_at longer b depth place begun other)
    keeps_list a b depth place begun AtEnd other all h = tt
    keeps_list a b depth place begun (Unread kind from) other all h = tt
    keeps_list a b depth place begun (Took Closing from rest) other all h = ap (list_at longer b depth place begun) h
    keeps_list a b depth place true (Took Point from rest) other all h =
        subst (λ f. Keeps (list_at here a depth place true (Took Point from rest)) (list_at longer b depth place true f)) (sym h)
        (keeps_last (there from) (beyond (from ++ behind_it)) (form_at here a depth (token_of rest)) (form_at longer b depth (token_of (rest ++ behind_it)))
        (keeps_form a b depth (token_of rest) (token_of (rest ++ behind_it)) all (follows rest)))
    keeps_list a b depth place false (Took Point from rest) other all h = tt
    keeps_list a b depth place begun (Took (Literal bytes) from rest) other all h =
        subst (λ f. Keeps (list_at here a depth place begun (Took (Literal bytes) from rest)) (list_at longer b depth place begun f)) (sym h)
        (keeps_rest a b depth place (Parses (Atom (there from) bytes) rest) (Parses (Atom (beyond (from ++ behind_it)) bytes) (rest ++ behind_it)) all (ap (λ p. Parses (Atom p bytes) (rest ++ behind_it)) (same from)))
    keeps_list a b depth place begun (Took (tokens.Symbol name) from rest) other all h =
        subst (λ f. Keeps (list_at here a depth place begun (Took (tokens.Symbol name) from rest)) (list_at longer b depth place begun f)) (sym h)
        (keeps_rest a b depth place (Parses (Symbol (there from) name) rest) (Parses (Symbol (beyond (from ++ behind_it)) name) (rest ++ behind_it)) all (ap (λ p. Parses (Symbol p name) (rest ++ behind_it)) (same from)))
    keeps_list a b depth place begun (Took Opening from rest) other all h =
        subst (λ f. Keeps (list_at here a depth place begun (Took Opening from rest)) (list_at longer b depth place begun f)) (sym h)
        (keeps_rest a b depth place (opened here a depth from rest) (opened longer b depth (from ++ behind_it) (rest ++ behind_it)) all (keeps_opened a b depth from rest all))

    -- The number that bounds the recursion may be that of the lines too.
    keeps_within : (bound : ℕ) → AllKeep (list_within here bound) (list_from longer)
    keeps_within zero depth place begun text = tt
    keeps_within (suc bound) depth place begun text =
        subst (λ p. Keeps (list_at here (list_within here bound) depth place begun (token_of text)) p) (sym (list_step longer depth place begun (text ++ behind_it)))
        (keeps_list (list_within here bound) (list_from longer) depth place begun (token_of text) (token_of (text ++ behind_it)) (keeps_within bound) (follows text))

    -- ---- the forms

    abbrev Prefixes : Read → Read → Type 0
    Prefixes (Reads forms) read = read ≡ after forms (forms_from beyond lines)
    Prefixes (Unreadable kind at) read = Unit {0}

    prefix_with : (form : Form) (read other : Read) → Prefixes read other → Prefixes (with_form form read) (with_form form other)
    prefix_with form (Reads forms) other h = ap (with_form form) h
    prefix_with form (Unreadable kind at) other h = tt

    prefix_forms : (n : ℕ) (f g : List ℕ → Read) (parsed other : ParsedForm) → ((rest : List ℕ) → length rest < n → Prefixes (f rest) (g (rest ++ behind_it))) → Shrinks n parsed → Keeps parsed other → Prefixes (with_forms f parsed) (with_forms g other)
    prefix_forms n f g (Parses form rest) other all less h =
        subst (λ p. Prefixes (with_form form (f rest)) (with_forms g p)) (sym h) (prefix_with form (f rest) (g (rest ++ behind_it)) (all rest less))
    prefix_forms n f g (Breaks kind unknown at) other all less h = tt

    all_keep : AllKeep (list_from here) (list_from longer)
    all_keep depth place begun text = keeps_within (suc (length text)) depth place begun text

    prefix_at : (n : ℕ) (front other : Front) → ((rest : List ℕ) → length rest < n → Prefixes (forms_from there rest) (forms_from beyond (rest ++ behind_it))) → Less n front → Follows front other →
        Prefixes (forms_at there (forms_from there) front) (forms_at beyond (forms_from beyond) other)
    prefix_at n AtEnd other more less h = ap (forms_at beyond (forms_from beyond)) h ∙ sym (forms_step beyond lines)
    prefix_at n (Unread kind from) other more less h = tt
    prefix_at n (Took token from rest) other more less h =
        subst (λ t. Prefixes (forms_at there (forms_from there) (Took token from rest)) (forms_at beyond (forms_from beyond) t)) (sym h)
        (prefix_forms n (forms_from there) (forms_from beyond) (form_at here (list_from here) 0 (Took token from rest)) (form_at longer (list_from longer) 0 (Took token (from ++ behind_it) (rest ++ behind_it))) more
        (shrinks_form here (list_from here) n 0 (Took token from rest) (shrinks_from here) less)
        (keeps_form (list_from here) (list_from longer) 0 (Took token from rest) (Took token (from ++ behind_it) (rest ++ behind_it)) all_keep refl))

    step_from : (text : List ℕ) → ((rest : List ℕ) → length rest < length text → Prefixes (forms_from there rest) (forms_from beyond (rest ++ behind_it))) → Prefixes (forms_from there text) (forms_from beyond (text ++ behind_it))
    step_from text more =
        subst (λ r. Prefixes r (forms_from beyond (text ++ behind_it))) (sym (forms_step there text))
        (subst (Prefixes (forms_at there (forms_from there) (token_of text))) (sym (forms_step beyond (text ++ behind_it)))
        (prefix_at (length text) (token_of text) (token_of (text ++ behind_it)) more (less_front text (length text) (token_of text) refl (omega arith)) (follows text)))

    prefix_from : (bound : ℕ) (text : List ℕ) → length text ≤ bound → Prefixes (forms_from there text) (forms_from beyond (text ++ behind_it))
    prefix_from zero text h = step_from text (λ rest less. absurd (omega (arith, h, less)))
    prefix_from (suc bound) text h = step_from text (λ rest less. prefix_from bound rest (omega (arith, h, less)))

  ends_apart : (number : ℕ) (text from : List ℕ) → place_in number (text ++ behind_it) (from ++ behind_it) ≡ place_in number text from
  ends_apart number text from =
      let same : length (text ++ behind_it) - length (from ++ behind_it) ≡ length text - length from = omega (arith, length-append text behind_it, length-append from behind_it) in
      ap (λ n. record { text = number; at = n }) same

pub lines_law : LeavesNothing
lines_law number text lines forms e =
    let whole = text ++ 0x0a ∷ lines in
    let beyond = place_in number whole in
    let there = place_in number text in
    forms_start number whole
    ∙ subst (λ r. Prefixes lines there beyond (ends_apart lines number text) r (forms_from beyond whole)) (sym (forms_start number text) ∙ e)
    (prefix_from lines there beyond (ends_apart lines number text) (length text) text (omega arith))
