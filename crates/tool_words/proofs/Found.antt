-- What is found in the matches, by what the words say.
use Rattle.std.proofs.Common.{◌≡◌, ◌∙◌, Bool, true, false, not, cond, ◌&&◌, ◌||◌, List, [], ◌∷◌, ◌++◌, map, Option, Some, None, refl, sym, ap, subst, true≢false, bytes_eq, codes, append-nil, append_assoc}
use Rattle.std.specs.List.{list_all, find, fold}
use Rattle.std.specs.Option.{option_map, option_and_then, unwrap_or}
use Rattle.std.specs.Prelude.{slice_get}
use Rattle.std.proofs.lemmas.Bool.{false_from_ne_true, and_parts, or_left, or_right}
use Rattle.std.proofs.lemmas.Slice.Eq.{bytes_eq-Decides}
use Rattle.clap.specs.Walk.{Rule, Row, used, has_row, with_default, more_values, with_values, row_text}
use Rattle.clap.specs.declared.parser.matches.ValueSource.TheVariants.{CommandLine, DefaultValue}
use Rattle.clap.specs.declared.builder.value_parser.Reading.TheVariants as reading
use Rattle.tool_words.specs.Rows as rows
use Rattle.tool_words.specs.Rows.{Text, Item, IsFlag, IsNumber, IsOther, is_among, options_in, flags_in, others_in, value_of, are_new}
use Rattle.tool_words.specs.Parser.{word_id, flag_text, words_in, HasItems}
use Rattle.tool_words.proofs.Turns.{built_flag, built_number, built_word, option_row, put_number, put_flag, at_row_missing, has_row_word}
use Rattle.tool_words.proofs.Walks.{Finds, is_option, is_item, put, puts, Tracks, tracks_more}
use Rattle.tool_words.proofs.Built.{built_rules}

-- ---- searches

abbrev pub or_row : Option Row → Option Row → Option Row
or_row (Some r) other = Some r
or_row None other = other

abbrev pub row_at : Text → List Row → Option Row
row_at n V = find (λ r. bytes_eq r.id n) V

or_none : (o : Option Row) → or_row o None ≡ o
or_none (Some r) = refl
or_none None = refl

or_picks : (o : Option Row) (r : Row) (rest : Option Row) → or_row (or_row o (Some r)) rest ≡ or_row o (Some r)
or_picks (Some x) r rest = refl
or_picks None r rest = refl

or_skips : (o rest : Option Row) → or_row (or_row o None) rest ≡ or_row o rest
or_skips (Some x) rest = refl
or_skips None rest = refl

row_at_more : (n : Text) (V : List Row) (r : Row) → row_at n (V ++ r ∷ []) ≡ or_row (row_at n V) (cond (bytes_eq r.id n) (Some r) None)
row_at_more n [] r = refl
row_at_more n (x ∷ V) r = go (bytes_eq x.id n) (row_at_more n V r)
  where
    go : (b : Bool) → row_at n (V ++ r ∷ []) ≡ or_row (row_at n V) (cond (bytes_eq r.id n) (Some r) None)
        → cond b (Some x) (row_at n (V ++ r ∷ [])) ≡ or_row (cond b (Some x) (row_at n V)) (cond (bytes_eq r.id n) (Some r) None)
    go true e = refl
    go false e = e

-- a row that is there is found before any other
found_first : (n : Text) (V : List Row) (other : Option Row) → has_row n V ≡ true → or_row (row_at n V) other ≡ row_at n V
found_first n [] other e = absurd (true≢false (sym e))
found_first n (x ∷ V) other e = go (bytes_eq x.id n) e (found_first n V other)
  where
    go : (b : Bool) → (b || has_row n V) ≡ true → (has_row n V ≡ true → or_row (row_at n V) other ≡ row_at n V)
        → or_row (cond b (Some x) (row_at n V)) other ≡ cond b (Some x) (row_at n V)
    go true e ih = refl
    go false e ih = ih e

-- ---- what the words put

abbrev entry : Text → List Item → Option (List Text)
entry n [] = None
entry n (IsFlag m ∷ items) = cond (bytes_eq m n) (Some (codes "true" ∷ [])) (entry n items)
entry n (IsNumber m v ∷ items) = cond (bytes_eq m n) (Some (v ∷ [])) (entry n items)
entry n (IsOther w ∷ items) = entry n items

word_row : (n w : Text) (V : List Row) → bytes_eq word_id n ≡ false → row_at n (used built_word (w ∷ []) V) ≡ row_at n V
word_row n w [] e = rw e refl
word_row n w (x ∷ V) e = go (bytes_eq x.id word_id) refl (word_row n w V e)
  where
    go : (b : Bool) → bytes_eq x.id word_id ≡ b → row_at n (used built_word (w ∷ []) V) ≡ row_at n V
        → row_at n (cond b (more_values CommandLine (w ∷ []) x ++ V) (x ∷ used built_word (w ∷ []) V)) ≡ row_at n (x ∷ V)
    go true p ih =
        let is : x.id ≡ word_id = (bytes_eq-Decides x.id word_id).0 p in
        let miss : bytes_eq x.id n ≡ false = ap (λ i. bytes_eq i n) is ∙ e in
        rw miss refl
    go false p ih = ap (λ o. cond (bytes_eq x.id n) (Some x) o) ih

word_put : (w : Text) (V : List Row) → words_in (used built_word (w ∷ []) V) ≡ words_in V ++ w ∷ []
word_put w [] = refl
word_put w (x ∷ V) = go (bytes_eq x.id word_id) refl (word_put w V)
  where
    go : (b : Bool) → bytes_eq x.id word_id ≡ b → words_in (used built_word (w ∷ []) V) ≡ words_in V ++ w ∷ []
        → words_in (cond b (more_values CommandLine (w ∷ []) x ++ V) (x ∷ used built_word (w ∷ []) V)) ≡ words_in (x ∷ V) ++ w ∷ []
    go true p ih = rw p refl
    go false p ih = rw p ih

apart_back : (m : Text) → bytes_eq word_id m ≡ false → bytes_eq m word_id ≡ false
apart_back m e = false_from_ne_true (bytes_eq m word_id) (λ same.
    let is : m ≡ word_id = (bytes_eq-Decides m word_id).0 same in
    true≢false (sym ((bytes_eq-Decides word_id m).1 (sym is)) ∙ e))

not_true : (b : Bool) → not b ≡ true → b ≡ false
not_true true p = sym p
not_true false p = refl

module _ (row : rows.Row) (c : List Rule) (finds : Finds row c) where
  -- one option more
  put_row : (n m : Text) (values : List Text) (V V2 : List Row) (rest : Option Row) → V2 ≡ V ++ option_row m values ∷ []
      → or_row (row_at n V2) rest ≡ or_row (row_at n V) (cond (bytes_eq m n) (Some (option_row n values)) rest)
  put_row n m values V V2 rest is = ap (λ v. or_row (row_at n v) rest) is ∙ (ap (λ o. or_row o rest) (row_at_more n V (option_row m values)) ∙ go (bytes_eq m n) refl)
    where
      go : (b : Bool) → bytes_eq m n ≡ b
          → or_row (or_row (row_at n V) (cond b (Some (option_row m values)) None)) rest ≡ or_row (row_at n V) (cond b (Some (option_row n values)) rest)
      go true e = or_picks (row_at n V) (option_row m values) rest ∙ ap (λ i. or_row (row_at n V) (Some (option_row i values))) ((bytes_eq-Decides m n).0 e)
      go false e = or_skips (row_at n V) rest

  entry_more : (n m : Text) (values : List Text) (items : List Item)
      → cond (bytes_eq m n) (Some (option_row n values)) (option_map (option_row n) (entry n items)) ≡ option_map (option_row n) (cond (bytes_eq m n) (Some values) (entry n items))
  entry_more n m values items = go (bytes_eq m n)
    where
      go : (b : Bool) → cond b (Some (option_row n values)) (option_map (option_row n) (entry n items)) ≡ option_map (option_row n) (cond b (Some values) (entry n items))
      go true = refl
      go false = refl

  fresh : (seen : List Text) (V : List Row) (m : Text) (names : List Text) → Tracks row seen V → is_option row m ≡ true → (not (is_among seen m) && are_new (m ∷ seen) names) ≡ true
      → has_row m V ≡ false
  fresh seen V m names tracks has new = tracks m has ∙ not_true (is_among seen m) (and_parts (not (is_among seen m)) (are_new (m ∷ seen) names) new).0

  pub option_found : (n : Text) → is_option row n ≡ true → (items : List Item) (seen : List Text) (V : List Row) → Tracks row seen V
      → are_new seen (options_in items) ≡ true → list_all (is_item row) items ≡ true
      → row_at n (puts V items) ≡ or_row (row_at n V) (option_map (option_row n) (entry n items))
  option_found n is_n [] seen V tracks new named = sym (or_none (row_at n V))
  option_found n is_n (IsFlag m ∷ items) seen V tracks new named =
      let all = and_parts (is_among row.flags m) (list_all (is_item row) items) named in
      let has : is_option row m ≡ true = or_left (is_among row.flags m) (is_among row.numbers m) all.0 in
      let is = put_flag m V (fresh seen V m (options_in items) tracks has new) in
      option_found n is_n items (m ∷ seen) (put V (IsFlag m)) (tracks_more row c finds m (codes "true" ∷ []) seen V _ tracks is)
      (and_parts (not (is_among seen m)) (are_new (m ∷ seen) (options_in items)) new).1 all.1
      ∙ (put_row n m (codes "true" ∷ []) V (put V (IsFlag m)) (option_map (option_row n) (entry n items)) is
      ∙ ap (or_row (row_at n V)) (entry_more n m (codes "true" ∷ []) items))
  option_found n is_n (IsNumber m v ∷ items) seen V tracks new named =
      let all = and_parts (is_among row.numbers m) (list_all (is_item row) items) named in
      let has : is_option row m ≡ true = or_right (is_among row.flags m) (is_among row.numbers m) all.0 in
      let is = put_number m v V (fresh seen V m (options_in items) tracks has new) in
      option_found n is_n items (m ∷ seen) (put V (IsNumber m v)) (tracks_more row c finds m (v ∷ []) seen V _ tracks is)
      (and_parts (not (is_among seen m)) (are_new (m ∷ seen) (options_in items)) new).1 all.1
      ∙ (put_row n m (v ∷ []) V (put V (IsNumber m v)) (option_map (option_row n) (entry n items)) is
      ∙ ap (or_row (row_at n V)) (entry_more n m (v ∷ []) items))
  option_found n is_n (IsOther w ∷ items) seen V tracks new named =
      option_found n is_n items seen (put V (IsOther w)) (λ m has. has_row_word m w V (finds.no_word m has) ∙ tracks m has) new named
      ∙ ap (λ o. or_row o (option_map (option_row n) (entry n items))) (word_row n w V (finds.no_word n is_n))

  words_kept : (m : Text) (values : List Text) (V V2 : List Row) → is_option row m ≡ true → V2 ≡ V ++ option_row m values ∷ [] → words_in V2 ≡ words_in V
  words_kept m values V V2 has is =
      ap words_in is ∙ ap (λ o. unwrap_or (option_map (λ (r : Row). r.values) o) [])
      (row_at_more word_id V (option_row m values) ∙ (ap (λ b. or_row (row_at word_id V) (cond b (Some (option_row m values)) None)) (apart_back m (finds.no_word m has)) ∙ or_none (row_at word_id V)))

  pub words_found : (items : List Item) (seen : List Text) (V : List Row) → Tracks row seen V
      → are_new seen (options_in items) ≡ true → list_all (is_item row) items ≡ true
      → words_in (puts V items) ≡ words_in V ++ others_in items
  words_found [] seen V tracks new named = sym (append-nil (words_in V))
  words_found (IsFlag m ∷ items) seen V tracks new named =
      let all = and_parts (is_among row.flags m) (list_all (is_item row) items) named in
      let has : is_option row m ≡ true = or_left (is_among row.flags m) (is_among row.numbers m) all.0 in
      let is = put_flag m V (fresh seen V m (options_in items) tracks has new) in
      words_found items (m ∷ seen) (put V (IsFlag m)) (tracks_more row c finds m (codes "true" ∷ []) seen V _ tracks is)
      (and_parts (not (is_among seen m)) (are_new (m ∷ seen) (options_in items)) new).1 all.1
      ∙ ap (λ l. l ++ others_in items) (words_kept m (codes "true" ∷ []) V _ has is)
  words_found (IsNumber m v ∷ items) seen V tracks new named =
      let all = and_parts (is_among row.numbers m) (list_all (is_item row) items) named in
      let has : is_option row m ≡ true = or_right (is_among row.flags m) (is_among row.numbers m) all.0 in
      let is = put_number m v V (fresh seen V m (options_in items) tracks has new) in
      words_found items (m ∷ seen) (put V (IsNumber m v)) (tracks_more row c finds m (v ∷ []) seen V _ tracks is)
      (and_parts (not (is_among seen m)) (are_new (m ∷ seen) (options_in items)) new).1 all.1
      ∙ ap (λ l. l ++ others_in items) (words_kept m (v ∷ []) V _ has is)
  words_found (IsOther w ∷ items) seen V tracks new named =
      words_found items seen (put V (IsOther w)) (λ m has. has_row_word m w V (finds.no_word m has) ∙ tracks m has) new named
      ∙ (ap (λ l. l ++ others_in items) (word_put w V) ∙ append_assoc (words_in V) (w ∷ []) (others_in items))

  entry_flag : (n : Text) → is_among row.flags n ≡ true → (items : List Item) → list_all (is_item row) items ≡ true
      → entry n items ≡ cond (is_among (flags_in items) n) (Some (codes "true" ∷ [])) None
  entry_flag n is_n [] named = refl
  entry_flag n is_n (IsFlag m ∷ items) named = go (bytes_eq m n) (entry_flag n is_n items (and_parts (is_among row.flags m) (list_all (is_item row) items) named).1)
    where
      go : (b : Bool) → entry n items ≡ cond (is_among (flags_in items) n) (Some (codes "true" ∷ [])) None
          → cond b (Some (codes "true" ∷ [])) (entry n items) ≡ cond (b || is_among (flags_in items) n) (Some (codes "true" ∷ [])) None
      go true e = refl
      go false e = e
  entry_flag n is_n (IsNumber m v ∷ items) named =
      let all = and_parts (is_among row.numbers m) (list_all (is_item row) items) named in
      let other : bytes_eq m n ≡ false = false_from_ne_true (bytes_eq m n) (λ same.
      let is : m ≡ n = (bytes_eq-Decides m n).0 same in
      true≢false (sym is_n ∙ finds.apart n (subst (λ (i : Text). is_among row.numbers i ≡ true) is all.0))) in
      ap (λ b. cond b (Some (v ∷ [])) (entry n items)) other ∙ entry_flag n is_n items all.1
  entry_flag n is_n (IsOther w ∷ items) named = entry_flag n is_n items named

  entry_number : (n : Text) → is_among row.numbers n ≡ true → (items : List Item) → list_all (is_item row) items ≡ true
      → entry n items ≡ option_map (λ v. v ∷ []) (value_of n items)
  entry_number n is_n [] named = refl
  entry_number n is_n (IsFlag m ∷ items) named =
      let all = and_parts (is_among row.flags m) (list_all (is_item row) items) named in
      let other : bytes_eq m n ≡ false = false_from_ne_true (bytes_eq m n) (λ same.
      let is : m ≡ n = (bytes_eq-Decides m n).0 same in
      true≢false (sym (subst (λ (i : Text). is_among row.flags i ≡ true) is all.0) ∙ finds.apart n is_n)) in
      ap (λ b. cond b (Some (codes "true" ∷ [])) (entry n items)) other ∙ entry_number n is_n items all.1
  entry_number n is_n (IsNumber m v ∷ items) named = go (bytes_eq m n) (entry_number n is_n items (and_parts (is_among row.numbers m) (list_all (is_item row) items) named).1)
    where
      go : (b : Bool) → entry n items ≡ option_map (λ v. v ∷ []) (value_of n items)
          → cond b (Some (v ∷ [])) (entry n items) ≡ option_map (λ v. v ∷ []) (cond b (Some v) (value_of n items))
      go true e = refl
      go false e = e
  entry_number n is_n (IsOther w ∷ items) named = entry_number n is_n items named

-- ---- defaults

cond_same : {X : Type 0} (b : Bool) (x : X) → cond b x x ≡ x
cond_same true x = refl
cond_same false x = refl

fold_append : (V : List Row) (xs ys : List Rule) → fold with_default V (xs ++ ys) ≡ fold with_default (fold with_default V xs) ys
fold_append V [] ys = refl
fold_append V (x ∷ xs) ys = fold_append (with_default V x) xs ys

no_defaults : (V : List Row) (numbers : List Text) → fold with_default V (map built_number numbers ++ built_word ∷ []) ≡ V
no_defaults V [] = cond_same (has_row word_id V) V
no_defaults V (n ∷ numbers) = ap (λ v. fold with_default v (map built_number numbers ++ built_word ∷ [])) (cond_same (has_row n V) V) ∙ no_defaults V numbers

abbrev default_row : Text → Row
default_row n = record { id = n; values = codes "false" ∷ []; count = None; source = Some DefaultValue; reading = reading.AsWritten }

one_default : (n f : Text) (V : List Row) → row_at n (with_default V (built_flag f)) ≡ or_row (row_at n V) (cond (bytes_eq f n) (Some (default_row n)) None)
one_default n f V = go (has_row f V) refl (bytes_eq f n) refl
  where
    go : (h : Bool) → has_row f V ≡ h → (b : Bool) → bytes_eq f n ≡ b
        → row_at n (cond h V (with_values f reading.AsWritten DefaultValue (codes "false" ∷ []) V)) ≡ or_row (row_at n V) (cond b (Some (default_row n)) None)
    go true p true q =
        let is : f ≡ n = (bytes_eq-Decides f n).0 q in
        sym (found_first n V (Some (default_row n)) (subst (λ (i : Text). has_row i V ≡ true) is p))
    go true p false q = sym (or_none (row_at n V))
    go false p b q =
        ap (row_at n) (at_row_missing f (more_values DefaultValue (codes "false" ∷ [])) (default_row f ∷ []) V p)
        ∙ (row_at_more n V (default_row f) ∙ ap (or_row (row_at n V)) (last b q))
      where
        last : (b : Bool) → bytes_eq f n ≡ b → cond (bytes_eq f n) (Some (default_row f)) None ≡ cond b (Some (default_row n)) None
        last true e = ap (λ x. cond x (Some (default_row f)) None) e ∙ ap (λ i. Some (default_row i)) ((bytes_eq-Decides f n).0 e)
        last false e = ap (λ x. cond x (Some (default_row f)) None) e

defaults : (n : Text) (flags : List Text) (V : List Row) → row_at n (fold with_default V (map built_flag flags)) ≡ or_row (row_at n V) (cond (is_among flags n) (Some (default_row n)) None)
defaults n [] V = sym (or_none (row_at n V))
defaults n (f ∷ flags) V = defaults n flags (with_default V (built_flag f))
    ∙ (ap (λ o. or_row o (cond (is_among flags n) (Some (default_row n)) None)) (one_default n f V) ∙ both (row_at n V) (bytes_eq f n) (is_among flags n))
  where
    both : (o : Option Row) (a b : Bool) → or_row (or_row o (cond a (Some (default_row n)) None)) (cond b (Some (default_row n)) None) ≡ or_row o (cond (a || b) (Some (default_row n)) None)
    both (Some r) a b = refl
    both None true b = refl
    both None false b = refl

with_defaults : (n : Text) (flags numbers : List Text) (V : List Row)
    → row_at n (fold with_default V (built_rules flags numbers)) ≡ or_row (row_at n V) (cond (is_among flags n) (Some (default_row n)) None)
with_defaults n flags numbers V =
    ap (row_at n) (fold_append V (map built_flag flags) (map built_number numbers ++ built_word ∷ []) ∙ no_defaults (fold with_default V (map built_flag flags)) numbers)
    ∙ defaults n flags V

-- ---- all that is asked

no_number : (row : rows.Row) (n : Text) → is_among row.numbers n ≡ false → (items : List Item) → list_all (is_item row) items ≡ true → value_of n items ≡ None
no_number row n absent [] named = refl
no_number row n absent (IsFlag m ∷ items) named = no_number row n absent items (and_parts (is_among row.flags m) (list_all (is_item row) items) named).1
no_number row n absent (IsNumber m v ∷ items) named =
    let all = and_parts (is_among row.numbers m) (list_all (is_item row) items) named in
    let other : bytes_eq m n ≡ false = false_from_ne_true (bytes_eq m n) (λ same.
    true≢false (sym (subst (λ (i : Text). is_among row.numbers i ≡ true) ((bytes_eq-Decides m n).0 same) all.0) ∙ absent)) in
    ap (λ b. cond b (Some v) (value_of n items)) other ∙ no_number row n absent items all.1
no_number row n absent (IsOther w ∷ items) named = no_number row n absent items named

pub has_items : (row : rows.Row) → Finds row (built_rules row.flags row.numbers) → (items : List Item) → are_new [] (options_in items) ≡ true → list_all (is_item row) items ≡ true
    → HasItems row.flags row.numbers items (fold with_default (puts [] items) (built_rules row.flags row.numbers))
has_items row finds items new named = record {
  flag = λ n is_n. ap (option_and_then row_text)
      (with_defaults n row.flags row.numbers (puts [] items)
      ∙ (ap (λ o. or_row o (cond (is_among row.flags n) (Some (default_row n)) None)) (found n (or_left (is_among row.flags n) (is_among row.numbers n) is_n) ∙ ap (option_map (option_row n)) (entry_flag row (built_rules row.flags row.numbers) finds n is_n items named))
      ∙ ap (λ b. or_row (option_map (option_row n) (cond (is_among (flags_in items) n) (Some (codes "true" ∷ [])) None)) (cond b (Some (default_row n)) None)) is_n))
      ∙ as_flag n (is_among (flags_in items) n);
  number = λ n is_n. ap (option_and_then (λ (r : Row). slice_get r.values 0))
      (with_defaults n row.flags row.numbers (puts [] items)
      ∙ (ap (λ o. or_row o (cond (is_among row.flags n) (Some (default_row n)) None)) (found n (or_right (is_among row.flags n) (is_among row.numbers n) is_n) ∙ ap (option_map (option_row n)) (entry_number row (built_rules row.flags row.numbers) finds n is_n items named))
      ∙ ap (λ b. or_row (option_map (option_row n) (option_map (λ v. v ∷ []) (value_of n items))) (cond b (Some (default_row n)) None)) (finds.apart n is_n)))
      ∙ as_number n (value_of n items);
  others = ap (λ o. unwrap_or (option_map (λ (r : Row). r.values) o) [])
      (with_defaults word_id row.flags row.numbers (puts [] items)
      ∙ (ap (λ b. or_row (row_at word_id (puts [] items)) (cond b (Some (default_row word_id)) None)) no_flag ∙ or_none (row_at word_id (puts [] items))))
      ∙ words_found row (built_rules row.flags row.numbers) finds items [] [] (λ m has. refl) new named;
  only = λ n absent. no_number row n absent items named;
}
  where
    found : (n : Text) → is_option row n ≡ true → row_at n (puts [] items) ≡ option_map (option_row n) (entry n items)
    found n is_n = option_found row (built_rules row.flags row.numbers) finds n is_n items [] [] (λ m has. refl) new named

    no_flag : is_among row.flags word_id ≡ false
    no_flag = false_from_ne_true (is_among row.flags word_id) (λ is.
        let miss : bytes_eq word_id word_id ≡ false = finds.no_word word_id (or_left (is_among row.flags word_id) (is_among row.numbers word_id) is) in
        true≢false miss)

    as_flag : (n : Text) (b : Bool) → option_and_then row_text (or_row (option_map (option_row n) (cond b (Some (codes "true" ∷ [])) None)) (Some (default_row n))) ≡ Some (flag_text b)
    as_flag n true = refl
    as_flag n false = refl

    as_number : (n : Text) (o : Option Text) → option_and_then (λ (r : Row). slice_get r.values 0) (or_row (option_map (option_row n) (option_map (λ v. v ∷ []) o)) None) ≡ o
    as_number n (Some v) = refl
    as_number n None = refl
