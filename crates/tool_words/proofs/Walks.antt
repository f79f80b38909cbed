-- What `clap`'s walk over the words of a row comes to: it takes them where they say something, each option is said once and
-- each number has digits, and holds then what they say.
use Rattle.std.proofs.Common.{◌≡◌, ◌∙◌, ℕ, Bool, true, false, not, cond, ◌&&◌, ◌||◌, List, [], ◌∷◌, ◌++◌, Option, Some, None, refl, sym, ap, subst, inl, inr, ◌⊎◌, true≢false, bytes_eq, codes}
use Rattle.std.specs.List.{list_all, fold}
use Rattle.std.specs.Option.{option_map, option_map_or}
use Rattle.std.proofs.lemmas.Bool.{false_from_ne_true, and_parts, and_from, or_left, or_right}
use Rattle.std.proofs.lemmas.Slice.Eq.{bytes_eq-Decides}
use Rattle.clap.specs.Lexer.{long_of}
use Rattle.clap.specs.Walk.{Held, Rule, Row, Walk, Waiting, idle, positional, option, arg_by_id, arg_by_long, arg_by_index, settled, used, used_by_id, walked, has_row}
use Rattle.clap.specs.Kinds.{Kinds}
use Rattle.clap.specs.Faults.{walk_fault, turn_fault, settle_fault, use_fault, react_fault}
use Rattle.clap.specs.declared.error.kind.ErrorKind.{ErrorKind}
use Rattle.clap.specs.declared.error.kind.ErrorKind.TheVariants as kind
use Rattle.tool_words.specs.Rows as rows
use Rattle.tool_words.specs.Rows.{Text, Sort, Item, IsFlag, IsNumber, IsOther, Flag, Number, Opening, Other, Wrong, behind_hyphen, is_among, option_of, sorted, sort_of, joined, waits, items_from, options_in, are_new, is_digits, have_digits}
use Rattle.tool_words.specs.Parser.{word_id, is_long, is_readable}
use Rattle.tool_words.proofs.Tokens.{View, IsPlain, IsUnreadable, IsLong, view, dashes}
use Rattle.tool_words.proofs.Turns.{some_kind, or_else_first, or_else_second, or_else_both, built_flag, built_number, built_word, shape, between, holding, number_fresh, number_again, flag_fresh, flag_again, option_row, put_number, put_flag, has_row_more, has_row_word, IsFree, turn_other, walk_other, turn_long, turn_passes, walk_long, turn_value, walk_value, long_settles}

abbrev pub long_rule : rows.Row → Text → Option Rule
long_rule row name = cond (is_among row.flags name) (Some (built_flag name)) (cond (is_among row.numbers name) (Some (built_number name)) None)

abbrev pub is_option : rows.Row → Text → Bool
is_option row name = is_among row.flags name || is_among row.numbers name

-- what the rules of a row find
pub record Finds (row : rows.Row) (c : List Rule) : Type 0 where
  pub long : (name : Text) → arg_by_long c name ≡ long_rule row name
  pub number : (name : Text) → is_among row.numbers name ≡ true → arg_by_id c name ≡ Some (built_number name)
  pub word : arg_by_id c word_id ≡ Some built_word
  pub first : arg_by_index c 1 ≡ Some built_word
  pub apart : (name : Text) → is_among row.numbers name ≡ true → is_among row.flags name ≡ false
  pub no_word : (name : Text) → is_option row name ≡ true → bytes_eq word_id name ≡ false
  pub no_flag : is_among row.flags [] ≡ false
  pub no_number : is_among row.numbers [] ≡ false

-- the rows after one more item
abbrev pub put : List Row → Item → List Row
put V (IsFlag name) = used (built_flag name) [] V
put V (IsNumber name value) = used (built_number name) (value ∷ []) V
put V (IsOther word) = used built_word (word ∷ []) V

abbrev pub puts : List Row → List Item → List Row
puts V [] = V
puts V (item ∷ items) = puts (put V item) items

-- the item is of the row
abbrev pub is_item : rows.Row → Item → Bool
is_item row (IsFlag name) = is_among row.flags name
is_item row (IsNumber name value) = is_among row.numbers name
is_item row (IsOther word) = true

abbrev pub end_of : List Rule → Walk → List Text → Held
end_of c W words = (fold (walked c []) W words).held

-- the items that were read have new options, and digits
abbrev pub Good : List Text → Option (List Item) → Type 0
Good seen None = ⊥
Good seen (Some items) = (are_new seen (options_in items) ≡ true) × (have_digits items ≡ true)

-- the walk takes the words
pub record Reads (row : rows.Row) (c : List Rule) (V : List Row) (name : Option Text) (seen : List Text) (W : Walk) (words : List Text) : Type 0 where
  pub readable : list_all is_readable words ≡ true
  pub clean : walk_fault (shape c) [] W words ≡ []
  pub settles : settle_fault c false (end_of c W words) ≡ []
  pub items : List Item
  pub says : items_from row name words ≡ Some items
  pub named : list_all (is_item row) items ≡ true
  pub new : are_new seen (options_in items) ≡ true
  pub rows : (settled c (end_of c W words)).rows ≡ puts V items

-- it refuses them
pub record Refuses (row : rows.Row) (c : List Rule) (name : Option Text) (seen : List Text) (W : Walk) (words : List Text) : Type 0 where
  pub fails : list_all is_readable words ≡ true → walk_fault (shape c) [] W words ≡ [] → settle_fault c false (end_of c W words) ≡ [] → ⊥
  pub says_nothing : Good seen (items_from row name words) → ⊥

abbrev pub Outcome : rows.Row → List Rule → List Row → Option Text → List Text → Walk → List Text → Type 0
Outcome row c V name seen W words = Reads row c V name seen W words ⊎ Refuses row c name seen W words

-- the rows have the options that were seen
abbrev pub Tracks : rows.Row → List Text → List Row → Type 0
Tracks row seen V = (m : Text) → is_option row m ≡ true → has_row m V ≡ is_among seen m

plain_readable : (w : Text) → behind_hyphen w ≡ None → is_readable w ≡ true
plain_readable w e = ap (λ o. option_map_or (λ rest. is_long (behind_hyphen rest)) o true) e

same_name : (n : Text) → bytes_eq n n ≡ true
same_name n = (bytes_eq-Decides n n).1 refl

module _ (row : rows.Row) (c : List Rule) (finds : Finds row c) where
  says_by : (w : Text) (ws : List Text) (s : Sort) → sort_of row w ≡ s → items_from row None (w ∷ ws) ≡ joined s (items_from row (waits s) ws)
  says_by w ws s e = ap (λ x. joined x (items_from row (waits x) ws)) e

  step : (V : List Row) (seen seen2 : List Text) (name : Option Text) (W W2 : Walk) (w : Text) (ws : List Text) (item : Item)
      → is_item row item ≡ true → is_readable w ≡ true → turn_fault (shape c) [] W w ≡ [] → walked c [] W w ≡ W2
      → items_from row name (w ∷ ws) ≡ option_map (λ later. item ∷ later) (items_from row None ws)
      → ((items : List Item) → are_new seen (options_in (item ∷ items)) ≡ are_new seen2 (options_in items))
      → ((items : List Item) → have_digits (item ∷ items) ≡ true → have_digits items ≡ true)
      → Outcome row c (put V item) None seen2 W2 ws → Outcome row c V name seen W (w ∷ ws)
  unfolding walk_fault
  step V seen seen2 name W W2 w ws item of_row readable turn walk says new digits (inl r) = inl (record {
    readable = and_from (is_readable w) (list_all is_readable ws) readable r.readable;
    clean = or_else_both (turn_fault (shape c) [] W w) (walk_fault (shape c) [] (walked c [] W w) ws) turn
        (subst (λ X. walk_fault (shape c) [] X ws ≡ []) (sym walk) r.clean);
    settles = subst (λ X. settle_fault c false (end_of c X ws) ≡ []) (sym walk) r.settles;
    items = item ∷ r.items;
    says = says ∙ ap (option_map (λ later. item ∷ later)) r.says;
    named = and_from (is_item row item) (list_all (is_item row) r.items) of_row r.named;
    new = new r.items ∙ r.new;
    rows = subst (λ X. (settled c (end_of c X ws)).rows ≡ puts (put V item) r.items) (sym walk) r.rows;
  })
  step V seen seen2 name W W2 w ws item of_row readable turn walk says new digits (inr r) = inr (record {
    fails = λ all clean settles. r.fails (and_parts (is_readable w) (list_all is_readable ws) all).1
        (subst (λ X. walk_fault (shape c) [] X ws ≡ []) walk (or_else_second (turn_fault (shape c) [] W w) (walk_fault (shape c) [] (walked c [] W w) ws) clean))
        (subst (λ X. settle_fault c false (end_of c X ws) ≡ []) walk settles);
    says_nothing = λ g. r.says_nothing (later (items_from row None ws) (subst (Good seen) says g));
  })
    where
      later : (o : Option (List Item)) → Good seen (option_map (λ l. item ∷ l) o) → Good seen2 o
      later None g = g
      later (Some items) g = (sym (new items) ∙ g.0, digits items g.1)

  opens : (V : List Row) (seen : List Text) (W W2 : Walk) (w : Text) (ws : List Text) (n : Text)
      → is_readable w ≡ true → turn_fault (shape c) [] W w ≡ [] → walked c [] W w ≡ W2
      → items_from row None (w ∷ ws) ≡ items_from row (Some n) ws
      → Outcome row c V (Some n) seen W2 ws → Outcome row c V None seen W (w ∷ ws)
  unfolding walk_fault
  opens V seen W W2 w ws n readable turn walk says (inl r) = inl (record {
    readable = and_from (is_readable w) (list_all is_readable ws) readable r.readable;
    clean = or_else_both (turn_fault (shape c) [] W w) (walk_fault (shape c) [] (walked c [] W w) ws) turn
        (subst (λ X. walk_fault (shape c) [] X ws ≡ []) (sym walk) r.clean);
    settles = subst (λ X. settle_fault c false (end_of c X ws) ≡ []) (sym walk) r.settles;
    items = r.items;
    says = says ∙ r.says;
    named = r.named;
    new = r.new;
    rows = subst (λ X. (settled c (end_of c X ws)).rows ≡ puts V r.items) (sym walk) r.rows;
  })
  opens V seen W W2 w ws n readable turn walk says (inr r) = inr (record {
    fails = λ all clean settles. r.fails (and_parts (is_readable w) (list_all is_readable ws) all).1
        (subst (λ X. walk_fault (shape c) [] X ws ≡ []) walk (or_else_second (turn_fault (shape c) [] W w) (walk_fault (shape c) [] (walked c [] W w) ws) clean))
        (subst (λ X. settle_fault c false (end_of c X ws) ≡ []) walk settles);
    says_nothing = λ g. r.says_nothing (subst (Good seen) says g);
  })

  refuse : (V : List Row) (seen : List Text) (name : Option Text) (W : Walk) (w : Text) (ws : List Text)
      → (is_readable w ≡ true → turn_fault (shape c) [] W w ≡ [] → ⊥) → (Good seen (items_from row name (w ∷ ws)) → ⊥)
      → Outcome row c V name seen W (w ∷ ws)
  unfolding walk_fault
  refuse V seen name W w ws fails nothing = inr (record {
    fails = λ all clean settles. fails (and_parts (is_readable w) (list_all is_readable ws) all).0
        (or_else_first (turn_fault (shape c) [] W w) (walk_fault (shape c) [] (walked c [] W w) ws) clean);
    says_nothing = nothing;
  })

  -- what is held isn't settled, whatever words follow
  never : (words : List Text) (h : Held) (waiting : Waiting) → IsFree waiting → (k : ErrorKind) (ks : Kinds) → settle_fault c false h ≡ k ∷ ks
      → list_all is_readable words ≡ true → walk_fault (shape c) [] (between h waiting) words ≡ [] → settle_fault c false (end_of c (between h waiting) words) ≡ [] → ⊥
  unfolding walk_fault
  never [] h waiting free k ks e all clean settles = some_kind k ks (sym e ∙ settles)
  never (w ∷ ws) h waiting free k ks e all clean settles = go (view w)
    where
      turn : turn_fault (shape c) [] (between h waiting) w ≡ []
      turn = or_else_first (turn_fault (shape c) [] (between h waiting) w) (walk_fault (shape c) [] (walked c [] (between h waiting) w) ws) clean

      go : View w → ⊥
      go (IsPlain p) = some_kind k ks (sym e ∙ (sym (turn_other c h w waiting free p finds.first) ∙ turn))
      go (IsUnreadable u s n) = true≢false (sym (and_parts (is_readable w) (list_all is_readable ws) all).0 ∙ u)
      go (IsLong name value d l s r n) = long_settles c (arg_by_long c name) value h k ks e (turn_passes c h w name value (arg_by_long c name) waiting d l refl turn)

  pub tracks_more : (n : Text) (values : List Text) (seen : List Text) (V V2 : List Row) → Tracks row seen V → V2 ≡ V ++ option_row n values ∷ [] → Tracks row (n ∷ seen) V2
  tracks_more n values seen V V2 tracks is m has = ap (has_row m) is ∙ (has_row_more m V (option_row n values) ∙ ap (λ b. bytes_eq n m || b) (tracks m has))

  abbrev FreeLaw : List Text → Type 0
  FreeLaw words = (h : Held) (waiting : Waiting) → IsFree waiting → settle_fault c false h ≡ [] → (seen : List Text) → Tracks row seen (settled c h).rows
      → Outcome row c (settled c h).rows None seen (between h waiting) words

  abbrev WaitLaw : List Text → Type 0
  WaitLaw words = (V : List Row) (skip : ℕ) (n : Text) → is_among row.numbers n ≡ true → (seen : List Text) → Tracks row seen V
      → Outcome row c V (Some n) seen (between (holding V (Some (n, [])) skip) (option n)) words

  -- an option that was seen isn't new
  seen_again : (seen : List Text) (n : Text) (item : Item) → is_among seen n ≡ true
      → ((items : List Item) → are_new seen (options_in (item ∷ items)) ≡ (not (is_among seen n) && are_new (n ∷ seen) (options_in items)))
      → (o : Option (List Item)) → Good seen (option_map (λ l. item ∷ l) o) → ⊥
  seen_again seen n item e new None g = g
  seen_again seen n item e new (Some items) g =
      let both = and_parts (not (is_among seen n)) (are_new (n ∷ seen) (options_in items)) (sym (new items) ∙ g.0) in
      true≢false (sym both.0 ∙ ap not e)

  is_new : (seen : List Text) (n : Text) (b : Bool) → is_among seen n ≡ false → (not (is_among seen n) && b) ≡ b
  is_new seen n b e = ap (λ x. not x && b) e

  -- a flag
  flag_step : (w : Text) (ws : List Text) → FreeLaw ws → (h : Held) (waiting : Waiting) → settle_fault c false h ≡ [] → (seen : List Text) → Tracks row seen (settled c h).rows
      → (name : Text) → bytes_eq w dashes ≡ false → long_of w ≡ Some (name, None) → is_readable w ≡ true
      → is_among row.flags name ≡ true → sort_of row w ≡ Flag name → arg_by_long c name ≡ Some (built_flag name) → has_row name (settled c h).rows ≡ is_among seen name
      → Outcome row c (settled c h).rows None seen (between h waiting) (w ∷ ws)
  flag_step w ws fl h waiting F seen tracks name d l r of_row sort rule has = go (is_among seen name) refl
    where
      go : (b : Bool) → is_among seen name ≡ b → Outcome row c (settled c h).rows None seen (between h waiting) (w ∷ ws)
      go true e = refuse (settled c h).rows seen None (between h waiting) w ws
          (λ _ t. some_kind kind.ArgumentConflict [] (sym (flag_again name (settled c h).rows (has ∙ e))
          ∙ or_else_second (settle_fault c false h) (use_fault false (built_flag name) [] (settled c h).rows)
          (or_else_first (react_fault c false (built_flag name) [] h) [] (sym (turn_long c h w name None (Some (built_flag name)) waiting d l rule) ∙ t))))
          (λ g. seen_again seen name (IsFlag name) e (λ items. refl) (items_from row None ws) (subst (Good seen) (says_by w ws (Flag name) sort) g))
      go false e =
          let fresh : has_row name (settled c h).rows ≡ false = has ∙ e in
          step (settled c h).rows seen (name ∷ seen) None (between h waiting) (between (holding (used (built_flag name) [] (settled c h).rows) None h.skip) idle) w ws (IsFlag name) of_row r
          (turn_long c h w name None (Some (built_flag name)) waiting d l rule
          ∙ or_else_both (react_fault c false (built_flag name) [] h) []
          (or_else_both (settle_fault c false h) (use_fault false (built_flag name) [] (settled c h).rows) F (flag_fresh name (settled c h).rows fresh)) refl)
          (walk_long c h w name None (Some (built_flag name)) waiting d l rule)
          (says_by w ws (Flag name) sort)
          (λ items. is_new seen name (are_new (name ∷ seen) (options_in items)) e) (λ items q. q)
          (fl (holding (used (built_flag name) [] (settled c h).rows) None h.skip) idle tt refl (name ∷ seen)
          (tracks_more name (codes "true" ∷ []) seen (settled c h).rows _ tracks (put_flag name (settled c h).rows fresh)))

  -- a number with its value in its word
  number_step : (w : Text) (ws : List Text) → FreeLaw ws → (h : Held) (waiting : Waiting) → settle_fault c false h ≡ [] → (seen : List Text) → Tracks row seen (settled c h).rows
      → (name value : Text) → bytes_eq w dashes ≡ false → long_of w ≡ Some (name, Some value) → is_readable w ≡ true
      → is_among row.numbers name ≡ true → sort_of row w ≡ Number name value → arg_by_long c name ≡ Some (built_number name) → has_row name (settled c h).rows ≡ is_among seen name
      → Outcome row c (settled c h).rows None seen (between h waiting) (w ∷ ws)
  number_step w ws fl h waiting F seen tracks name value d l r of_row sort rule has = go (is_among seen name) refl
    where
      go : (b : Bool) → is_among seen name ≡ b → Outcome row c (settled c h).rows None seen (between h waiting) (w ∷ ws)
      go true e = refuse (settled c h).rows seen None (between h waiting) w ws
          (λ _ t. some_kind kind.ArgumentConflict [] (sym (number_again name value (settled c h).rows (has ∙ e))
          ∙ or_else_second (settle_fault c false h) (use_fault false (built_number name) (value ∷ []) (settled c h).rows)
          (or_else_first (react_fault c false (built_number name) (value ∷ []) h) [] (sym (turn_long c h w name (Some value) (Some (built_number name)) waiting d l rule) ∙ t))))
          (λ g. seen_again seen name (IsNumber name value) e (λ items. refl) (items_from row None ws) (subst (Good seen) (says_by w ws (Number name value) sort) g))
      go false e =
          let fresh : has_row name (settled c h).rows ≡ false = has ∙ e in
          step (settled c h).rows seen (name ∷ seen) None (between h waiting) (between (holding (used (built_number name) (value ∷ []) (settled c h).rows) None h.skip) idle) w ws (IsNumber name value) of_row r
          (turn_long c h w name (Some value) (Some (built_number name)) waiting d l rule
          ∙ or_else_both (react_fault c false (built_number name) (value ∷ []) h) []
          (or_else_both (settle_fault c false h) (use_fault false (built_number name) (value ∷ []) (settled c h).rows) F (number_fresh name value (settled c h).rows fresh)) refl)
          (walk_long c h w name (Some value) (Some (built_number name)) waiting d l rule)
          (says_by w ws (Number name value) sort)
          (λ items. is_new seen name (are_new (name ∷ seen) (options_in items)) e) (λ items q. (and_parts (is_digits value) (have_digits items) q).1)
          (fl (holding (used (built_number name) (value ∷ []) (settled c h).rows) None h.skip) idle tt refl (name ∷ seen)
          (tracks_more name (value ∷ []) seen (settled c h).rows _ tracks (put_number name value (settled c h).rows fresh)))

  -- an option of two hyphens
  long_step : (w : Text) (ws : List Text) → FreeLaw ws → WaitLaw ws → (h : Held) (waiting : Waiting) → settle_fault c false h ≡ [] → (seen : List Text) → Tracks row seen (settled c h).rows
      → (name : Text) (value : Option Text) → bytes_eq w dashes ≡ false → long_of w ≡ Some (name, value) → is_readable w ≡ true
      → sort_of row w ≡ option_of row name value
      → Outcome row c (settled c h).rows None seen (between h waiting) (w ∷ ws)
  long_step w ws fl wl h waiting F seen tracks name value d l r sort = by_flag (is_among row.flags name) refl
    where
      wrong : sort_of row w ≡ Wrong → Good seen (items_from row None (w ∷ ws)) → ⊥
      wrong s g = subst (Good seen) (says_by w ws Wrong s) g

      as_flag : (v : Option Text) → value ≡ v → is_among row.flags name ≡ true → arg_by_long c name ≡ Some (built_flag name)
          → Outcome row c (settled c h).rows None seen (between h waiting) (w ∷ ws)
      as_flag None e f rule = flag_step w ws fl h waiting F seen tracks name d (l ∙ ap (λ v. Some (name, v)) e) r f
          (sort ∙ (ap (option_of row name) e ∙ ap (λ b. cond b (Flag name) (cond (is_among row.numbers name) (Opening name) Wrong)) f)) rule
          (tracks name (or_left (is_among row.flags name) (is_among row.numbers name) f))
      as_flag (Some v) e f rule =
          let no_number : is_among row.numbers name ≡ false = false_from_ne_true (is_among row.numbers name) (λ n. true≢false (sym f ∙ finds.apart name n)) in
          refuse (settled c h).rows seen None (between h waiting) w ws
          (λ _ t. some_kind kind.TooManyValues [] (turn_passes c h w name (Some v) (Some (built_flag name)) waiting d (l ∙ ap (λ v. Some (name, v)) e) rule t))
          (wrong (sort ∙ (ap (option_of row name) e ∙ ap (λ b. cond b (Number name v) Wrong) no_number)))

      as_number : (v : Option Text) → value ≡ v → is_among row.flags name ≡ false → is_among row.numbers name ≡ true → arg_by_long c name ≡ Some (built_number name)
          → Outcome row c (settled c h).rows None seen (between h waiting) (w ∷ ws)
      as_number None e f n rule =
          let opening : sort_of row w ≡ Opening name = sort ∙ (ap (option_of row name) e
          ∙ (ap (λ b. cond b (Flag name) (cond (is_among row.numbers name) (Opening name) Wrong)) f ∙ ap (λ b. cond b (Opening name) Wrong) n)) in
          let word : long_of w ≡ Some (name, None) = l ∙ ap (λ v. Some (name, v)) e in
          opens (settled c h).rows seen (between h waiting) (between (holding (settled c h).rows (Some (name, [])) h.skip) (option name)) w ws name r
          (turn_long c h w name None (Some (built_number name)) waiting d word rule ∙ or_else_both (settle_fault c false h) [] F refl)
          (walk_long c h w name None (Some (built_number name)) waiting d word rule)
          (says_by w ws (Opening name) opening)
          (wl (settled c h).rows h.skip name n seen tracks)
      as_number (Some v) e f n rule = number_step w ws fl h waiting F seen tracks name v d (l ∙ ap (λ v. Some (name, v)) e) r n
          (sort ∙ (ap (option_of row name) e ∙ ap (λ b. cond b (Number name v) Wrong) n)) rule
          (tracks name (or_right (is_among row.flags name) (is_among row.numbers name) n))

      unknown : (v : Option Text) → is_among row.flags name ≡ false → is_among row.numbers name ≡ false → option_of row name v ≡ Wrong
      unknown None f n = ap (λ b. cond b (Flag name) (cond (is_among row.numbers name) (Opening name) Wrong)) f ∙ ap (λ b. cond b (Opening name) Wrong) n
      unknown (Some v) f n = ap (λ b. cond b (Number name v) Wrong) n

      by_number : (b : Bool) → is_among row.numbers name ≡ b → is_among row.flags name ≡ false → arg_by_long c name ≡ cond b (Some (built_number name)) None
          → Outcome row c (settled c h).rows None seen (between h waiting) (w ∷ ws)
      by_number true n f rule = as_number value refl f n rule
      by_number false n f rule = refuse (settled c h).rows seen None (between h waiting) w ws
          (λ _ t. some_kind kind.UnknownArgument [] (turn_passes c h w name value None waiting d l rule t))
          (wrong (sort ∙ unknown value f n))

      by_flag : (b : Bool) → is_among row.flags name ≡ b → Outcome row c (settled c h).rows None seen (between h waiting) (w ∷ ws)
      by_flag true f = as_flag value refl f (finds.long name ∙ ap (λ b. cond b (Some (built_flag name)) (cond (is_among row.numbers name) (Some (built_number name)) None)) f)
      by_flag false f = by_number (is_among row.numbers name) refl f
          (finds.long name ∙ ap (λ b. cond b (Some (built_flag name)) (cond (is_among row.numbers name) (Some (built_number name)) None)) f)

  other_step : (w : Text) (ws : List Text) → FreeLaw ws → (h : Held) (waiting : Waiting) → IsFree waiting → settle_fault c false h ≡ [] → (seen : List Text) → Tracks row seen (settled c h).rows
      → behind_hyphen w ≡ None → Outcome row c (settled c h).rows None seen (between h waiting) (w ∷ ws)
  other_step w ws fl h waiting free F seen tracks p =
      let V = (settled c h).rows in
      let h2 : Held = holding V (Some (word_id, w ∷ [])) h.skip in
      let is : (settled c h2).rows ≡ used built_word (w ∷ []) V = ap (λ o. used_by_id o (w ∷ []) V) finds.word in
      let settles : settle_fault c false h2 ≡ [] = ap (λ o. option_map_or (λ a. use_fault false a (w ∷ []) V) o []) finds.word in
      let more : Tracks row seen (used built_word (w ∷ []) V) = λ m has. has_row_word m w V (finds.no_word m has) ∙ tracks m has in
      step V seen seen None (between h waiting) (between h2 positional) w ws (IsOther w) refl (plain_readable w p)
      (turn_other c h w waiting free p finds.first ∙ F) (walk_other c h w waiting free p finds.first)
      (says_by w ws (Other w) (ap (sorted row w) p)) (λ items. refl) (λ items q. q)
      (subst (λ X. Outcome row c X None seen (between h2 positional) ws) is (fl h2 positional tt settles seen (subst (Tracks row seen) (sym is) more)))

  free_step : (w : Text) (ws : List Text) → FreeLaw ws → WaitLaw ws → FreeLaw (w ∷ ws)
  free_step w ws fl wl h waiting free F seen tracks = go (view w)
    where
      go : View w → Outcome row c (settled c h).rows None seen (between h waiting) (w ∷ ws)
      go (IsPlain p) = other_step w ws fl h waiting free F seen tracks p
      go (IsUnreadable u s n) = refuse (settled c h).rows seen None (between h waiting) w ws (λ r _. true≢false (sym r ∙ u))
          (λ g. subst (Good seen) (says_by w ws Wrong (s row finds.no_flag finds.no_number)) g)
      go (IsLong name value d l s r n) = long_step w ws fl wl h waiting F seen tracks name value d l r (s row)

  no_digits : (seen : List Text) (n w : Text) → is_digits w ≡ false → (o : Option (List Item)) → Good seen (option_map (λ l. IsNumber n w ∷ l) o) → ⊥
  no_digits seen n w e None g = g
  no_digits seen n w e (Some items) g = true≢false (sym (and_parts (is_digits w) (have_digits items) g.1).0 ∙ e)

  value_step : (w : Text) (ws : List Text) → FreeLaw ws → (V : List Row) (skip : ℕ) (n : Text) → is_among row.numbers n ≡ true → (seen : List Text) → Tracks row seen V
      → behind_hyphen w ≡ None → Outcome row c V (Some n) seen (between (holding V (Some (n, [])) skip) (option n)) (w ∷ ws)
  unfolding walk_fault
  value_step w ws fl V skip n among seen tracks p = go (is_among seen n) refl
    where
      h2 : Held
      h2 = holding V (Some (n, w ∷ [])) skip

      has : has_row n V ≡ is_among seen n
      has = tracks n (or_right (is_among row.flags n) (is_among row.numbers n) among)

      fault : settle_fault c false (holding V (Some (n, w ∷ [])) skip) ≡ use_fault false (built_number n) (w ∷ []) V
      fault = ap (λ o. option_map_or (λ a. use_fault false a (w ∷ []) V) o []) (finds.number n among)

      walk : walked c [] (between (holding V (Some (n, [])) skip) (option n)) w ≡ between (holding V (Some (n, w ∷ [])) skip) idle
      walk = walk_value c V skip w n p (finds.number n among) (same_name n)

      turn : turn_fault (shape c) [] (between (holding V (Some (n, [])) skip) (option n)) w ≡ []
      turn = turn_value c (holding V (Some (n, [])) skip) w n p

      go : (b : Bool) → is_among seen n ≡ b → Outcome row c V (Some n) seen (between (holding V (Some (n, [])) skip) (option n)) (w ∷ ws)
      go true e = inr (record {
        fails = λ all clean settles. never ws (holding V (Some (n, w ∷ [])) skip) idle tt kind.ArgumentConflict [] (fault ∙ number_again n w V (has ∙ e))
            (and_parts (is_readable w) (list_all is_readable ws) all).1
            (subst (λ X. walk_fault (shape c) [] X ws ≡ []) walk (or_else_second (turn_fault (shape c) [] (between (holding V (Some (n, [])) skip) (option n)) w) (walk_fault (shape c) [] (walked c [] (between (holding V (Some (n, [])) skip) (option n)) w) ws) clean))
            (subst (λ X. settle_fault c false (end_of c X ws) ≡ []) walk settles);
        says_nothing = λ g. seen_again seen n (IsNumber n w) e (λ items. refl) (items_from row None ws) g;
      })
      go false e =
          let fresh : has_row n V ≡ false = has ∙ e in
          let is : (settled c (holding V (Some (n, w ∷ [])) skip)).rows ≡ used (built_number n) (w ∷ []) V = ap (λ o. used_by_id o (w ∷ []) V) (finds.number n among) in
          step V seen (n ∷ seen) (Some n) (between (holding V (Some (n, [])) skip) (option n)) (between (holding V (Some (n, w ∷ [])) skip) idle) w ws (IsNumber n w) among (plain_readable w p)
          turn walk refl
          (λ items. is_new seen n (are_new (n ∷ seen) (options_in items)) e) (λ items q. (and_parts (is_digits w) (have_digits items) q).1)
          (subst (λ X. Outcome row c X None (n ∷ seen) (between (holding V (Some (n, w ∷ [])) skip) idle) ws) is
          (fl (holding V (Some (n, w ∷ [])) skip) idle tt (fault ∙ number_fresh n w V fresh) (n ∷ seen)
          (subst (Tracks row (n ∷ seen)) (sym is) (tracks_more n (w ∷ []) seen V _ tracks (put_number n w V fresh)))))

  wait_fault : (V : List Row) (skip : ℕ) (n : Text) → is_among row.numbers n ≡ true → settle_fault c false (holding V (Some (n, [])) skip) ≡ kind.InvalidValue ∷ []
  wait_fault V skip n among = ap (λ o. option_map_or (λ a. use_fault false a [] V) o []) (finds.number n among)

  wait_step : (w : Text) (ws : List Text) → FreeLaw ws → WaitLaw (w ∷ ws)
  wait_step w ws fl V skip n among seen tracks = go (view w)
    where
      go : View w → Outcome row c V (Some n) seen (between (holding V (Some (n, [])) skip) (option n)) (w ∷ ws)
      go (IsPlain p) = value_step w ws fl V skip n among seen tracks p
      go (IsUnreadable u s d) = refuse V seen (Some n) (between (holding V (Some (n, [])) skip) (option n)) w ws (λ r _. true≢false (sym r ∙ u))
          (no_digits seen n w d (items_from row None ws))
      go (IsLong name value d l s r nd) = refuse V seen (Some n) (between (holding V (Some (n, [])) skip) (option n)) w ws
          (λ _ t. long_settles c (arg_by_long c name) value (holding V (Some (n, [])) skip) kind.InvalidValue [] (wait_fault V skip n among)
          (turn_passes c (holding V (Some (n, [])) skip) w name value (arg_by_long c name) (option n) d l refl t))
          (no_digits seen n w nd (items_from row None ws))

  laws : (words : List Text) → FreeLaw words × WaitLaw words
  unfolding walk_fault
  laws [] = (
    λ h waiting free F seen tracks. inl (record { readable = refl; clean = refl; settles = F; items = []; says = refl; named = refl; new = refl; rows = refl }),
    λ V skip n among seen tracks. inr (record {
      fails = λ all clean settles. some_kind kind.InvalidValue [] (sym (wait_fault V skip n among) ∙ settles);
      says_nothing = λ g. g;
    }),
  )
  laws (w ∷ ws) = (free_step w ws (laws ws).0 (laws ws).1, wait_step w ws (laws ws).0)

  pub walk_law : (words : List Text) → Outcome row c [] None [] (between (holding [] None 0) idle) words
  walk_law words = (laws words).0 (holding [] None 0) idle tt refl [] (λ m has. refl)
