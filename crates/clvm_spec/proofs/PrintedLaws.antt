-- What scanning makes of what printing wrote.
use Rattle.std.proofs.Common.{◌≡◌, ℕ, zero, suc, ◌+◌, ◌-◌, ◌<◌, ◌==◌, Bool, true, false, not, cond, ◌&&◌, ◌||◌, nat_lt, List, [], ◌∷◌, ◌++◌, length, take, drop, None, Ok, refl, sym, ◌∙◌, ap, subst, arith, append_assoc}
use Rattle.std.specs.List.{list_all, prefix_len}
use Rattle.std.proofs.lemmas.List.{append-nil}
use Rattle.std.proofs.lemmas.Bool.Decides.{nat_tests}
use Rattle.std.proofs.Math.Seq.{take-append_seam}
use Rattle.std.proofs.lemmas.Bool.{and_parts}
use Rattle.clvm_spec.specs.declared.scan_kind.ScanKind.TheVariants.{Deep, Byte}
use Rattle.clvm_spec.specs.Tree.{Tree, Atom, Pair, nil}
use Rattle.clvm_spec.specs.Places.{place_of}
use Rattle.clvm_spec.specs.Tokens.{Token, Opening, Closing, Point, Literal, Symbol, Front, Took, Unread, AtEnd, is_separator, is_plain, is_mark, is_word_byte, word_token, without_blanks, word_front, word_at, quoted, at_word, at_quote, at_closing, at_front, token_of}
use Rattle.clvm_spec.specs.Text.{atom_text, head_text, Position, AsHead, Alone, AsRest, text_at, printed, Names, ParsedTree, clvm, form_of, at_last, whole, scanned}
use Rattle.clvm_spec.specs.Grammar.{Parses, Breaks, form_at, closed, last_form, behind, with_rest, list_at, list_from}
use Rattle.clvm_spec.specs.TextLaws.{nests_within, HasBytes, PrintedIsScanned, PrintedTooDeep}
use Rattle.clvm_spec.proofs.ScanLaws.{none_left}
use Rattle.clvm_spec.proofs.GrammarLaws.{list_step}
use Rattle.clvm_spec.proofs.FreePlaces.{places_are_free}
use Rattle.clvm_spec.proofs.AtomTextLaws.{IsWordOf, atom_word, head_word}

-- ---- words in a text

-- No word goes on here.
abbrev pub EndsWords : List ℕ → Type 0
EndsWords [] = Unit {0}
EndsWords (b ∷ text) = is_word_byte b ≡ false

stops : (rest : List ℕ) → EndsWords rest → prefix_len is_word_byte rest ≡ 0
stops [] h = refl
stops (b ∷ rest) h = ap (λ t. cond t (1 + prefix_len is_word_byte rest) 0) h

-- how long a word is that ends where the rest begins
word_size : (word rest : List ℕ) → list_all is_word_byte word ≡ true → EndsWords rest → prefix_len is_word_byte (word ++ rest) ≡ length word
word_size [] rest h e = stops rest e
word_size (b ∷ word) rest h e =
    ap (λ t. cond t (1 + prefix_len is_word_byte (word ++ rest)) 0) (and_parts (is_word_byte b) (list_all is_word_byte word) h).0
    ∙ ap (λ n. 1 + n) (word_size word rest (and_parts (is_word_byte b) (list_all is_word_byte word) h).1 e) ∙ one_more (length word)
  where
    one_more : (n : ℕ) → 1 + n ≡ suc n
    one_more n = omega arith

drop_word : (word rest : List ℕ) → drop (length word) (word ++ rest) ≡ rest
drop_word [] rest = refl
drop_word (b ∷ word) rest = drop_word word rest

-- A byte of a word is none of the others that a token begins with.
record IsPlainByte (b : ℕ) : Type 0 where
  plain : is_plain b ≡ true
  space : is_separator b ≡ false
  semicolon : (b == 0x3b) ≡ false
  opening : (b == 0x28) ≡ false
  closing : (b == 0x29) ≡ false
  quote : (b == 0x22 || b == 0x27) ≡ false

plain_byte : (b : ℕ) → is_word_byte b ≡ true → IsPlainByte b
plain_byte b e = record {
  plain = (and_parts (is_plain b) (not (is_mark b)) e).0;
  space = grind (arith, nat_tests);
  semicolon = grind (arith, nat_tests);
  opening = grind (arith, nat_tests);
  closing = grind (arith, nat_tests);
  quote = grind (arith, nat_tests);
}

at_plain : (b : ℕ) (bytes : List ℕ) → IsPlainByte b → token_of (b ∷ bytes) ≡ word_at (b ∷ bytes)
unfolding token_of
at_plain b bytes p =
    ap at_front (ap (λ t. cond t (without_blanks (b == 0x3b) bytes) (b ∷ bytes)) (ap (λ t. t || b == 0x3b) p.space ∙ p.semicolon))
    ∙ ap (λ t. cond t (Took Opening (b ∷ bytes) bytes) (at_closing b bytes)) p.opening
    ∙ ap (λ t. cond t (Took Closing (b ∷ bytes) bytes) (at_quote b bytes)) p.closing
    ∙ ap (λ t. cond t (quoted b bytes) (at_word b bytes)) p.quote
    ∙ ap (λ t. cond t (word_at (b ∷ bytes)) (Unread Byte (b ∷ bytes))) p.plain

word_token_at : (b : ℕ) (word rest : List ℕ) (token : Token) → list_all is_word_byte (b ∷ word) ≡ true → EndsWords rest → word_token (b ∷ word) ≡ Ok token →
    token_of ((b ∷ word) ++ rest) ≡ Took token ((b ∷ word) ++ rest) rest
word_token_at b word rest token h e t =
    at_plain b (word ++ rest) (plain_byte b (and_parts (is_word_byte b) (list_all is_word_byte word) h).0)
    ∙ ap (λ size. word_front ((b ∷ word) ++ rest) size (word_token (take size ((b ∷ word) ++ rest)))) (word_size (b ∷ word) rest h e)
    ∙ ap (λ w. word_front ((b ∷ word) ++ rest) (length (b ∷ word)) (word_token w)) (take-append_seam (b ∷ word) rest)
    ∙ ap (word_front ((b ∷ word) ++ rest) (length (b ∷ word))) t
    ∙ ap (Took token ((b ∷ word) ++ rest)) (drop_word (b ∷ word) rest)

-- The word of an atom, read.
pub word_read : (atom text rest : List ℕ) (w : IsWordOf atom text) → EndsWords rest → token_of (text ++ rest) ≡ Took w.token (text ++ rest) rest
word_read atom [] rest w e = absurd (omega (arith, w.some))
word_read atom (b ∷ word) rest w e = word_token_at b word rest w.token w.word e w.token_is

-- ---- trees in a text

-- The text has so much room that the form is read, or it is too deep.
abbrev pub Meets : Bool → Tree → List ℕ → ParsedTree → Type 0
Meets true tree rest parsed = parsed ≡ Parses (Names tree) rest
Meets false tree rest parsed = (from : List ℕ) × (parsed ≡ Breaks Deep None from)

meets_same : (fits : Bool) (tree : Tree) (rest : List ℕ) (a b : ParsedTree) → a ≡ b → Meets fits tree rest b → Meets fits tree rest a
meets_same true tree rest a b e m = e ∙ m
meets_same false tree rest a b e m = (m.0, e ∙ m.1)

-- whether a tree's text opens no more parentheses at once than there is room for
abbrev pub fits : ℕ → Position → Tree → Bool
fits room AsHead (Atom []) = nat_lt 0 room
fits room Alone (Atom []) = nat_lt 0 room
fits room AsRest (Atom []) = true
fits room AsHead (Atom (b ∷ bytes)) = true
fits room Alone (Atom (b ∷ bytes)) = true
fits room AsRest (Atom (b ∷ bytes)) = true
fits room AsHead (Pair first rest) = nat_lt 0 room && (fits (room - 1) AsHead first && fits (room - 1) AsRest rest)
fits room Alone (Pair first rest) = nat_lt 0 room && (fits (room - 1) AsHead first && fits (room - 1) AsRest rest)
fits room AsRest (Pair first rest) = fits room Alone first && fits room AsRest rest

abbrev pub parsed_at : Position → ℕ → List ℕ → ParsedTree
parsed_at AsHead depth text = form_at clvm (list_from clvm) depth (token_of text)
parsed_at Alone depth text = form_at clvm (list_from clvm) depth (token_of text)
parsed_at AsRest depth text = list_from clvm depth [] true text

ends_rest : (tree : Tree) (rest : List ℕ) → EndsWords (text_at AsRest tree ++ rest)
ends_rest (Atom []) rest = refl
ends_rest (Atom (b ∷ bytes)) rest = refl
ends_rest (Pair first second) rest = refl

-- a list's form is read as a form, and then the rest of the list
form_in_list : (fits : Bool) (tree : Tree) (more : List ℕ) (depth : ℕ) (begun : Bool) (front : Front) → Meets fits tree more (form_at clvm (list_from clvm) depth front) →
    list_at clvm (list_from clvm) depth [] begun front ≡ with_rest clvm (list_from clvm) depth [] (form_at clvm (list_from clvm) depth front)
form_in_list fits tree more depth begun AtEnd m = refl
form_in_list fits tree more depth begun (Unread kind from) m = refl
form_in_list fits tree more depth begun (Took Opening from rest) m = refl
form_in_list fits tree more depth begun (Took (Literal bytes) from rest) m = refl
form_in_list fits tree more depth begun (Took (Symbol name) from rest) m = refl
form_in_list true tree more depth begun (Took Closing from rest) m = cc
form_in_list false tree more depth begun (Took Closing from rest) m = let e = m.1 in cc
form_in_list true tree more depth begun (Took Point from rest) m = cc
form_in_list false tree more depth begun (Took Point from rest) m = let e = m.1 in cc

meets_pair : (a b : Bool) (first second : Tree) (more rest : List ℕ) (depth : ℕ) (begun : Bool) (text : List ℕ) →
    Meets a first more (form_at clvm (list_from clvm) depth (token_of text)) → Meets b second rest (list_from clvm depth [] true more) → Meets (a && b) (Pair first second) rest (list_from clvm depth [] begun text)
meets_pair true true first second more rest depth begun text m n =
    list_step clvm depth [] begun text ∙ form_in_list true first more depth begun (token_of text) m ∙ ap (with_rest clvm (list_from clvm) depth []) m ∙ ap (behind clvm [] (Names first)) n
meets_pair true false first second more rest depth begun text m n =
    (n.0, list_step clvm depth [] begun text ∙ form_in_list true first more depth begun (token_of text) m ∙ ap (with_rest clvm (list_from clvm) depth []) m ∙ ap (behind clvm [] (Names first)) n.1)
meets_pair false b first second more rest depth begun text m n =
    (m.0, list_step clvm depth [] begun text ∙ form_in_list false first more depth begun (token_of text) m ∙ ap (with_rest clvm (list_from clvm) depth []) m.1)

-- behind an opening parenthesis
opens : (fits : Bool) (tree : Tree) (depth room : ℕ) (text rest : List ℕ) → depth + room ≡ 1024 →
    ((0 < room) → Meets fits tree rest (list_from clvm (suc depth) [] false text)) → Meets (nat_lt 0 room && fits) tree rest (form_at clvm (list_from clvm) depth (token_of (0x28 ∷ text)))
unfolding token_of
opens fits tree depth zero text rest e m =
    let full : nat_lt depth 1024 ≡ false = grind (arith, nat_tests) in
    (0x28 ∷ text, ap (λ t. cond t (list_from clvm (suc depth) (0x28 ∷ text) false text) (Breaks Deep None (0x28 ∷ text))) full)
opens fits tree depth (suc room) text rest e m =
    let within : nat_lt depth 1024 ≡ true = grind (arith, nat_tests) in
    let some : nat_lt 0 (suc room) ≡ true = grind (arith, nat_tests) in
    subst (λ t. Meets (t && fits) tree rest (form_at clvm (list_from clvm) depth (token_of (0x28 ∷ text)))) (sym some)
    (meets_same fits tree rest (form_at clvm (list_from clvm) depth (token_of (0x28 ∷ text))) (list_from clvm (suc depth) [] false text)
    (ap (λ t. cond t (list_from clvm (suc depth) (0x28 ∷ text) false text) (Breaks Deep None (0x28 ∷ text))) within ∙ places_are_free (suc depth) (0x28 ∷ text) [] false text)
    (m (omega arith)))

closing_token : (rest : List ℕ) → token_of (0x29 ∷ rest) ≡ Took Closing (0x29 ∷ rest) rest
unfolding token_of
closing_token rest = refl

dot_token : (rest : List ℕ) → token_of (0x20 ∷ 0x2e ∷ 0x20 ∷ rest) ≡ Took Point (0x2e ∷ 0x20 ∷ rest) (0x20 ∷ rest)
unfolding token_of word_token
dot_token rest = refl

space_first : (rest : List ℕ) → token_of (0x20 ∷ rest) ≡ token_of rest
unfolding token_of
space_first rest = refl

-- nil at the end of a list
closes : (depth : ℕ) (begun : Bool) (rest : List ℕ) → list_from clvm depth [] begun (0x29 ∷ rest) ≡ Parses (Names nil) rest
closes depth begun rest = list_step clvm depth [] begun (0x29 ∷ rest) ∙ ap (list_at clvm (list_from clvm) depth [] begun) (closing_token rest)

-- an atom behind a dot, at the end of a list
ends_in : (atom text rest : List ℕ) (depth : ℕ) (w : IsWordOf atom text) → list_from clvm depth [] true (0x20 ∷ 0x2e ∷ 0x20 ∷ (text ++ (0x29 ∷ rest))) ≡ Parses (Names (Atom atom)) rest
ends_in atom text rest depth w =
    list_step clvm depth [] true (0x20 ∷ 0x2e ∷ 0x20 ∷ (text ++ (0x29 ∷ rest)))
    ∙ ap (list_at clvm (list_from clvm) depth [] true) (dot_token (text ++ (0x29 ∷ rest)))
    ∙ ap (last_form (0x2e ∷ 0x20 ∷ (text ++ (0x29 ∷ rest))))
    (ap (form_at clvm (list_from clvm) depth) (space_first (text ++ (0x29 ∷ rest)) ∙ word_read atom text (0x29 ∷ rest) w refl) ∙ w.form (list_from clvm) depth (text ++ (0x29 ∷ rest)) (0x29 ∷ rest))
    ∙ ap (closed (0x2e ∷ 0x20 ∷ (text ++ (0x29 ∷ rest))) (Names (Atom atom))) (closing_token rest)

word_form : (atom text rest : List ℕ) (depth : ℕ) (w : IsWordOf atom text) → EndsWords rest → form_at clvm (list_from clvm) depth (token_of (text ++ rest)) ≡ Parses (Names (Atom atom)) rest
word_form atom text rest depth w e = ap (form_at clvm (list_from clvm) depth) (word_read atom text rest w e) ∙ w.form (list_from clvm) depth (text ++ rest) rest

nil_form : (depth room : ℕ) (rest : List ℕ) → depth + room ≡ 1024 → Meets (nat_lt 0 room) nil rest (form_at clvm (list_from clvm) depth (token_of (0x28 ∷ 0x29 ∷ rest)))
nil_form depth room rest e =
    subst (λ t. Meets t nil rest (form_at clvm (list_from clvm) depth (token_of (0x28 ∷ 0x29 ∷ rest)))) (and_true (nat_lt 0 room))
    (opens true nil depth room (0x29 ∷ rest) rest e (λ some. closes (suc depth) false rest))
  where
    and_true : (t : Bool) → (t && true) ≡ t
    and_true true = refl
    and_true false = refl

-- a pair in parentheses, of its first and its rest as they are read
pair_meets : (first second : Tree) (depth room : ℕ) (rest : List ℕ) → depth + room ≡ 1024 →
    (suc depth + (room - 1) ≡ 1024 → Meets (fits (room - 1) AsHead first) first (text_at AsRest second ++ rest) (form_at clvm (list_from clvm) (suc depth) (token_of (text_at AsHead first ++ (text_at AsRest second ++ rest))))) →
    (suc depth + (room - 1) ≡ 1024 → Meets (fits (room - 1) AsRest second) second rest (list_from clvm (suc depth) [] true (text_at AsRest second ++ rest))) →
    Meets (nat_lt 0 room && (fits (room - 1) AsHead first && fits (room - 1) AsRest second)) (Pair first second) rest
    (form_at clvm (list_from clvm) depth (token_of (0x28 ∷ ((text_at AsHead first ++ text_at AsRest second) ++ rest))))
pair_meets first second depth room rest e mf ms =
    let text = text_at AsHead first ++ (text_at AsRest second ++ rest) in
    subst (λ t. Meets (nat_lt 0 room && (fits (room - 1) AsHead first && fits (room - 1) AsRest second)) (Pair first second) rest (form_at clvm (list_from clvm) depth (token_of (0x28 ∷ t)))) (sym (append_assoc (text_at AsHead first) (text_at AsRest second) rest))
    (opens (fits (room - 1) AsHead first && fits (room - 1) AsRest second) (Pair first second) depth room text rest e (λ some.
    let next : suc depth + (room - 1) ≡ 1024 = omega (arith, e, some) in
    meets_pair (fits (room - 1) AsHead first) (fits (room - 1) AsRest second) first second (text_at AsRest second ++ rest) rest (suc depth) false text (mf next) (ms next)))

-- What is read of a tree's text: the tree and what follows, or that it is too deep.
meets : (position : Position) (tree : Tree) (depth room : ℕ) (rest : List ℕ) → depth + room ≡ 1024 → HasBytes tree → EndsWords rest →
    Meets (fits room position tree) tree rest (parsed_at position depth (text_at position tree ++ rest))
meets AsHead (Atom []) depth room rest e h d = nil_form depth room rest e
meets Alone (Atom []) depth room rest e h d = nil_form depth room rest e
meets AsRest (Atom []) depth room rest e h d = closes depth true rest
meets AsHead (Atom (b ∷ bytes)) depth room rest e h d = word_form (b ∷ bytes) (head_text (b ∷ bytes)) rest depth (head_word b bytes h) d
meets Alone (Atom (b ∷ bytes)) depth room rest e h d = word_form (b ∷ bytes) (atom_text (b ∷ bytes)) rest depth (atom_word b bytes h) d
meets AsRest (Atom (b ∷ bytes)) depth room rest e h d =
    ap (λ text. list_from clvm depth [] true (0x20 ∷ 0x2e ∷ 0x20 ∷ text)) (append_assoc (atom_text (b ∷ bytes)) (0x29 ∷ []) rest)
    ∙ ends_in (b ∷ bytes) (atom_text (b ∷ bytes)) rest depth (atom_word b bytes h)
meets AsHead (Pair first second) depth room rest e h d = pair_meets first second depth room rest e
    (λ next. meets AsHead first (suc depth) (room - 1) (text_at AsRest second ++ rest) next h.0 (ends_rest second rest))
    (λ next. meets AsRest second (suc depth) (room - 1) rest next h.1 d)
meets Alone (Pair first second) depth room rest e h d = pair_meets first second depth room rest e
    (λ next. meets AsHead first (suc depth) (room - 1) (text_at AsRest second ++ rest) next h.0 (ends_rest second rest))
    (λ next. meets AsRest second (suc depth) (room - 1) rest next h.1 d)
meets AsRest (Pair first second) depth room rest e h d =
    let text = text_at Alone first ++ (text_at AsRest second ++ rest) in
    subst (λ t. Meets (fits room Alone first && fits room AsRest second) (Pair first second) rest (list_from clvm depth [] true (0x20 ∷ t))) (sym (append_assoc (text_at Alone first) (text_at AsRest second) rest))
    (meets_pair (fits room Alone first) (fits room AsRest second) first second (text_at AsRest second ++ rest) rest depth true (0x20 ∷ text)
    (meets_same (fits room Alone first) first (text_at AsRest second ++ rest) (form_at clvm (list_from clvm) depth (token_of (0x20 ∷ text))) (form_at clvm (list_from clvm) depth (token_of text)) (ap (form_at clvm (list_from clvm) depth) (space_first text))
    (meets Alone first depth room (text_at AsRest second ++ rest) e h.0 (ends_rest second rest)))
    (meets AsRest second depth room rest e h.1 d))

-- ---- nesting

nests_byte : (room b : ℕ) (rest : List ℕ) → is_word_byte b ≡ true → nests_within room (b ∷ rest) ≡ nests_within room rest
nests_byte room b rest e =
    let p = plain_byte b e in
    ap (λ t. (not t || nat_lt 0 room) && nests_within (cond t (room - 1) (cond (b == 0x29) (suc room) room)) rest) p.opening
    ∙ ap (λ t. nests_within (cond t (suc room) room) rest) p.closing

nests_word : (room : ℕ) (word rest : List ℕ) → list_all is_word_byte word ≡ true → nests_within room (word ++ rest) ≡ nests_within room rest
nests_word room [] rest h = refl
nests_word room (b ∷ word) rest h =
    nests_byte room b (word ++ rest) (and_parts (is_word_byte b) (list_all is_word_byte word) h).0 ∙ nests_word room word rest (and_parts (is_word_byte b) (list_all is_word_byte word) h).1

-- how much room there is behind a tree's text
abbrev room_after : Position → ℕ → ℕ
room_after AsHead room = room
room_after Alone room = room
room_after AsRest room = suc room

and_both : (a b c : Bool) → (a && (b && c)) ≡ ((a && b) && c)
and_both true b c = refl
and_both false b c = refl

nests_open : (room : ℕ) (a b : Bool) (rest : List ℕ) → (nat_lt 0 room && (a && (b && nests_within (suc (room - 1)) rest))) ≡ ((nat_lt 0 room && (a && b)) && nests_within room rest)
nests_open zero a b rest = refl
nests_open (suc room) a b rest =
    let same : suc (suc room - 1) ≡ suc room = omega arith in
    ap (λ n. nat_lt 0 (suc room) && (a && (b && nests_within n rest))) same ∙ ap (λ t. nat_lt 0 (suc room) && t) (and_both a b (nests_within (suc room) rest))
    ∙ and_both (nat_lt 0 (suc room)) (a && b) (nests_within (suc room) rest)

nests_nil : (room : ℕ) (rest : List ℕ) → nests_within room (0x28 ∷ 0x29 ∷ rest) ≡ (nat_lt 0 room && nests_within room rest)
nests_nil zero rest = refl
nests_nil (suc room) rest = let same : suc (suc room - 1) ≡ suc room = omega arith in ap (λ n. nat_lt 0 (suc room) && nests_within n rest) same

nests_pair : (first second : Tree) (room : ℕ) (rest : List ℕ) →
    nests_within (room - 1) (text_at AsHead first ++ (text_at AsRest second ++ rest)) ≡ (fits (room - 1) AsHead first && nests_within (room - 1) (text_at AsRest second ++ rest)) →
    nests_within (room - 1) (text_at AsRest second ++ rest) ≡ (fits (room - 1) AsRest second && nests_within (suc (room - 1)) rest) →
    nests_within room (0x28 ∷ ((text_at AsHead first ++ text_at AsRest second) ++ rest)) ≡ ((nat_lt 0 room && (fits (room - 1) AsHead first && fits (room - 1) AsRest second)) && nests_within room rest)
nests_pair first second room rest ef es =
    ap (λ t. nat_lt 0 room && nests_within (room - 1) t) (append_assoc (text_at AsHead first) (text_at AsRest second) rest)
    ∙ ap (λ t. nat_lt 0 room && t) (ef ∙ ap (λ t. fits (room - 1) AsHead first && t) es)
    ∙ nests_open room (fits (room - 1) AsHead first) (fits (room - 1) AsRest second) rest

nests : (position : Position) (tree : Tree) (room : ℕ) (rest : List ℕ) → HasBytes tree → nests_within room (text_at position tree ++ rest) ≡ (fits room position tree && nests_within (room_after position room) rest)
nests AsHead (Atom []) room rest h = nests_nil room rest
nests Alone (Atom []) room rest h = nests_nil room rest
nests AsRest (Atom []) room rest h = refl
nests AsHead (Atom (b ∷ bytes)) room rest h = nests_word room (head_text (b ∷ bytes)) rest (head_word b bytes h).word
nests Alone (Atom (b ∷ bytes)) room rest h = nests_word room (atom_text (b ∷ bytes)) rest (atom_word b bytes h).word
nests AsRest (Atom (b ∷ bytes)) room rest h =
    ap (nests_within room) (append_assoc (atom_text (b ∷ bytes)) (0x29 ∷ []) rest) ∙ nests_word room (atom_text (b ∷ bytes)) (0x29 ∷ rest) (atom_word b bytes h).word
nests AsHead (Pair first second) room rest h = nests_pair first second room rest (nests AsHead first (room - 1) (text_at AsRest second ++ rest) h.0) (nests AsRest second (room - 1) rest h.1)
nests Alone (Pair first second) room rest h = nests_pair first second room rest (nests AsHead first (room - 1) (text_at AsRest second ++ rest) h.0) (nests AsRest second (room - 1) rest h.1)
nests AsRest (Pair first second) room rest h =
    ap (nests_within room) (append_assoc (text_at Alone first) (text_at AsRest second) rest)
    ∙ nests Alone first room (text_at AsRest second ++ rest) h.0
    ∙ ap (λ t. fits room Alone first && t) (nests AsRest second room rest h.1)
    ∙ and_both (fits room Alone first) (fits room AsRest second) (nests_within (suc room) rest)

-- ---- the whole text

printed_fits : (tree : Tree) → HasBytes tree → nests_within 1024 (printed tree) ≡ fits 1024 Alone tree
printed_fits tree h = ap (nests_within 1024) (sym (append-nil (printed tree))) ∙ nests Alone tree 1024 [] h ∙ and_true (fits 1024 Alone tree)
  where
    and_true : (t : Bool) → (t && true) ≡ t
    and_true true = refl
    and_true false = refl

printed_form : (tree : Tree) → HasBytes tree → Meets (nests_within 1024 (printed tree)) tree [] (form_of (printed tree))
printed_form tree h =
    subst (λ t. Meets t tree [] (form_of (printed tree))) (sym (printed_fits tree h))
    (subst (λ t. Meets (fits 1024 Alone tree) tree [] (form_at clvm (list_from clvm) 0 (token_of t))) (append-nil (printed tree)) (meets Alone tree 0 1024 [] (omega arith) h tt))

scanned_is : (text : List ℕ) → scanned text ≡ whole text (form_of text)
unfolding scanned
scanned_is text = refl

pub printed_is_scanned : PrintedIsScanned
printed_is_scanned tree h e =
    scanned_is (printed tree) ∙ ap (whole (printed tree)) (subst (λ t. Meets t tree [] (form_of (printed tree))) e (printed_form tree h))
    ∙ ap (at_last (printed tree) (Names tree)) none_left

pub printed_too_deep : PrintedTooDeep
printed_too_deep tree h e =
    let deep = subst (λ t. Meets t tree [] (form_of (printed tree))) e (printed_form tree h) in
    (place_of (printed tree) deep.0, scanned_is (printed tree) ∙ ap (whole (printed tree)) deep.1)
