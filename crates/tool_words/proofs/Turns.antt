-- One turn of `clap`'s walk, by the word that it meets.
use Rattle.std.proofs.Common.{◌≡◌, ◌∙◌, ℕ, Bool, true, false, cond, ◌&&◌, ◌||◌, List, [], ◌∷◌, ◌++◌, Option, Some, None, refl, sym, ap, codes, true≢false, append-nil, bytes_eq}
use Rattle.std.specs.Option.{is_some}
use Rattle.std.proofs.lemmas.Bool.{or_parts}
use Rattle.clap.specs.Lexer.{long_of}
use Rattle.clap.specs.Walk.{Held, Rule, Row, Walk, Waiting, idle, positional, option, arg_by_id, arg_by_long, arg_by_index, settled, used, walked, has_row, takes_values, at_row, more_values, without, long_met, after_flag, after_step, pushed, is_pending}
use Rattle.clap.specs.Kinds.{Kinds, or_else}
use Rattle.clap.specs.Simple.{Shape, new_shape, filled, with_index}
use Rattle.clap.specs.Faults.{turn_fault, settle_fault, long_fault, use_fault, option_fault, react_fault, step_fault}
use Rattle.clap.specs.declared.error.kind.ErrorKind.{ErrorKind}
use Rattle.clap.specs.declared.error.kind.ErrorKind.TheVariants as kind
use Rattle.clap.specs.declared.parser.matches.ValueSource.TheVariants.{CommandLine}
use Rattle.clap.specs.declared.builder.value_parser.Reading.TheVariants as reading
use Rattle.tool_words.specs.Rows.{Text, behind_hyphen}
use Rattle.tool_words.specs.Parser.{flag_rule, number_rule, word_rule, word_id}
use Rattle.tool_words.proofs.Tokens.{dashes, plain_long, plain_short, plain_dashes}

-- ---- kinds

abbrev is_none : Kinds → Bool
is_none [] = true
is_none (k ∷ ks) = false

pub some_kind : (k : ErrorKind) (ks : Kinds) → (k ∷ ks) ≡ [] → ⊥
some_kind k ks e = true≢false (sym (ap is_none e))

pub or_else_first : (a b : Kinds) → or_else a b ≡ [] → a ≡ []
or_else_first [] b e = refl
or_else_first (k ∷ ks) b e = absurd (some_kind k ks e)

pub or_else_second : (a b : Kinds) → or_else a b ≡ [] → b ≡ []
or_else_second [] b e = e
or_else_second (k ∷ ks) b e = absurd (some_kind k ks e)

pub or_else_both : (a b : Kinds) → a ≡ [] → b ≡ [] → or_else a b ≡ []
or_else_both a b p q = ap (λ x. or_else x b) p ∙ q

-- ---- the rules, as they are built

abbrev pub built_flag : Text → Rule
built_flag name = filled (flag_rule name)

abbrev pub built_number : Text → Rule
built_number name = filled (number_rule name)

abbrev pub built_word : Rule
built_word = with_index 1 (filled word_rule)

abbrev pub shape : List Rule → Shape
shape c = record (new_shape (codes "words")) {
  rules = c;
  no_binary_name = true;
  disable_help_flag = true;
  disable_help_subcommand = true;
  disable_version_flag = true;
  is_built = true;
}

abbrev pub between : Held → Waiting → Walk
between h waiting = record { held = h; waiting = waiting; position = 1; is_trailing = false; stopped = None }

abbrev pub holding : List Row → Option (Text × List Text) → ℕ → Held
holding V pending skip = record { rows = V; pending = pending; skip = skip }

-- ---- one use

pub number_fresh : (n v : Text) (V : List Row) → has_row n V ≡ false → use_fault false (built_number n) (v ∷ []) V ≡ []
number_fresh n v V e = rw e refl

pub number_again : (n v : Text) (V : List Row) → has_row n V ≡ true → use_fault false (built_number n) (v ∷ []) V ≡ kind.ArgumentConflict ∷ []
number_again n v V e = rw e refl

pub number_without : (n : Text) (V : List Row) → use_fault false (built_number n) [] V ≡ kind.InvalidValue ∷ []
number_without n V = refl

pub flag_fresh : (n : Text) (V : List Row) → has_row n V ≡ false → use_fault false (built_flag n) [] V ≡ []
flag_fresh n V e = rw e refl

pub flag_again : (n : Text) (V : List Row) → has_row n V ≡ true → use_fault false (built_flag n) [] V ≡ kind.ArgumentConflict ∷ []
flag_again n V e = rw e refl

pub word_fresh : (w : Text) (V : List Row) → use_fault false built_word (w ∷ []) V ≡ []
word_fresh w V = refl

-- ---- rows

pub at_row_missing : (id : Text) (change : Row → List Row) (missing V : List Row) → has_row id V ≡ false → at_row id change missing V ≡ V ++ missing
at_row_missing id change missing [] e = refl
at_row_missing id change missing (r ∷ V) e =
    let p = or_parts (bytes_eq r.id id) (has_row id V) e in
    let miss : bytes_eq r.id id ≡ false = p.0 in
    rw miss (ap (λ rs. r ∷ rs) (at_row_missing id change missing V p.1))

abbrev pub option_row : Text → List Text → Row
option_row n values = record { id = n; values = values; count = None; source = Some CommandLine; reading = reading.AsWritten }

without_missing : (n : Text) (V : List Row) → has_row n V ≡ false → without n V ≡ V
without_missing n V e = at_row_missing n (λ _. []) [] V e ∙ append-nil V

pub put_number : (n v : Text) (V : List Row) → has_row n V ≡ false → used (built_number n) (v ∷ []) V ≡ V ++ option_row n (v ∷ []) ∷ []
put_number n v V e = ap (λ rs. at_row n (more_values CommandLine (v ∷ [])) (option_row n (v ∷ []) ∷ []) rs) (without_missing n V e)
    ∙ at_row_missing n (more_values CommandLine (v ∷ [])) (option_row n (v ∷ []) ∷ []) V e

pub put_flag : (n : Text) (V : List Row) → has_row n V ≡ false → used (built_flag n) [] V ≡ V ++ option_row n (codes "true" ∷ []) ∷ []
put_flag n V e = ap (λ rs. at_row n (more_values CommandLine (codes "true" ∷ [])) (option_row n (codes "true" ∷ []) ∷ []) rs) (without_missing n V e)
    ∙ at_row_missing n (more_values CommandLine (codes "true" ∷ [])) (option_row n (codes "true" ∷ []) ∷ []) V e

or_swap : (a b c : Bool) → (a || (b || c)) ≡ (b || (a || c))
or_swap true true c = refl
or_swap true false c = refl
or_swap false true c = refl
or_swap false false c = refl

pub has_row_more : (m : Text) (V : List Row) (r : Row) → has_row m (V ++ r ∷ []) ≡ (bytes_eq r.id m || has_row m V)
has_row_more m [] r = refl
has_row_more m (x ∷ V) r = ap (λ b. bytes_eq x.id m || b) (has_row_more m V r) ∙ or_swap (bytes_eq x.id m) (bytes_eq r.id m) (has_row m V)

pub has_row_word : (m w : Text) (V : List Row) → bytes_eq word_id m ≡ false → has_row m (used built_word (w ∷ []) V) ≡ has_row m V
has_row_word m w [] e = rw e refl
has_row_word m w (x ∷ V) e = go (bytes_eq x.id word_id) (has_row_word m w V e)
  where
    go : (b : Bool) → has_row m (used built_word (w ∷ []) V) ≡ has_row m V
        → has_row m (cond b (more_values CommandLine (w ∷ []) x ++ V) (x ∷ used built_word (w ∷ []) V)) ≡ has_row m (x ∷ V)
    go true ih = refl
    go false ih = ap (λ b. bytes_eq x.id m || b) ih

-- ---- turns

and_no : {X : Type 0} (b : Bool) (x y : X) → cond (b && false) x y ≡ y
and_no true x y = refl
and_no false x y = refl

-- nothing waits for a value
abbrev pub IsFree : Waiting → Type 0
IsFree (option id) = ⊥
IsFree _ = Unit {0}

module _ (c : List Rule) where
  pub turn_other : (h : Held) (w : Text) (waiting : Waiting) → IsFree waiting → behind_hyphen w ≡ None → arg_by_index c 1 ≡ Some built_word
      → turn_fault (shape c) [] (between h waiting) w ≡ settle_fault c false h
  turn_other h w idle free e first = rw (plain_dashes w e, plain_long w e, plain_short w e, first) (and_no (is_pending built_word h.pending) [] (settle_fault c false h))
  turn_other h w positional free e first = rw (plain_dashes w e, plain_long w e, plain_short w e, first) (and_no (is_pending built_word h.pending) [] (settle_fault c false h))
  turn_other h w (option id) free e first = absurd free

  abbrev after_other : Held → Text → Walk
  after_other h w = between (holding (settled c h).rows (Some (word_id, w ∷ [])) h.skip) positional

  pub walk_other : (h : Held) (w : Text) (waiting : Waiting) → IsFree waiting → behind_hyphen w ≡ None → arg_by_index c 1 ≡ Some built_word
      → walked c [] (between h waiting) w ≡ between (holding (settled c h).rows (Some (word_id, w ∷ [])) h.skip) positional
  unfolding walked
  walk_other h w idle free e first =
      rw (plain_dashes w e, plain_long w e, plain_short w e, first) (ap (λ x. between (pushed word_id w x) positional) (and_no (is_pending built_word h.pending) h (settled c h)))
  walk_other h w positional free e first =
      rw (plain_dashes w e, plain_long w e, plain_short w e, first) (ap (λ x. between (pushed word_id w x) positional) (and_no (is_pending built_word h.pending) h (settled c h)))
  walk_other h w (option id) free e first = absurd free

  pub turn_long : (h : Held) (w name : Text) (value : Option Text) (rule : Option Rule) (waiting : Waiting) → bytes_eq w dashes ≡ false → long_of w ≡ Some (name, value)
      → arg_by_long c name ≡ rule
      → turn_fault (shape c) [] (between h waiting) w
      ≡ or_else (long_fault c false rule value h) (step_fault (shape c) 1
      (after_flag c waiting w (long_met c rule value h).0 (long_met c rule value h).1).0
      (after_flag c waiting w (long_met c rule value h).0 (long_met c rule value h).1).1)
  turn_long h w name value rule idle d l r = rw (d, l, r) refl
  turn_long h w name value rule positional d l r = rw (d, l, r) refl
  turn_long h w name value rule (option id) d l r = rw (d, l, r) refl

  -- a turn that passes lets its option pass
  pub turn_passes : (h : Held) (w name : Text) (value : Option Text) (rule : Option Rule) (waiting : Waiting) → bytes_eq w dashes ≡ false → long_of w ≡ Some (name, value)
      → arg_by_long c name ≡ rule → turn_fault (shape c) [] (between h waiting) w ≡ [] → long_fault c false rule value h ≡ []
  turn_passes h w name value rule waiting d l r t = or_else_first (long_fault c false rule value h) _ (sym (turn_long h w name value rule waiting d l r) ∙ t)

  pub walk_long : (h : Held) (w name : Text) (value : Option Text) (rule : Option Rule) (waiting : Waiting) → bytes_eq w dashes ≡ false → long_of w ≡ Some (name, value)
      → arg_by_long c name ≡ rule
      → walked c [] (between h waiting) w ≡ after_step c w (between h waiting)
      (after_flag c waiting w (long_met c rule value h).0 (long_met c rule value h).1).0
      (after_flag c waiting w (long_met c rule value h).0 (long_met c rule value h).1).1
  unfolding walked
  walk_long h w name value rule idle d l r = rw (d, l, r) refl
  walk_long h w name value rule positional d l r = rw (d, l, r) refl
  walk_long h w name value rule (option id) d l r = rw (d, l, r) refl

  -- the value of a number, in a word of its own
  pub turn_value : (h : Held) (w n : Text) → behind_hyphen w ≡ None → turn_fault (shape c) [] (between h (option n)) w ≡ []
  turn_value h w n e = rw (plain_dashes w e, plain_long w e, plain_short w e) refl

  pub walk_value : (V : List Row) (skip : ℕ) (w n : Text) → behind_hyphen w ≡ None → arg_by_id c n ≡ Some (built_number n) → bytes_eq n n ≡ true
      → walked c [] (between (holding V (Some (n, [])) skip) (option n)) w ≡ between (holding V (Some (n, w ∷ [])) skip) idle
  unfolding walked
  walk_value V skip w n e a same = rw (plain_dashes w e, plain_long w e, plain_short w e, a, same) refl

  -- an option settles what is held before it
  pub long_settles : (rule : Option Rule) (value : Option Text) (h : Held) (k : ErrorKind) (ks : Kinds) → settle_fault c false h ≡ k ∷ ks
      → long_fault c false rule value h ≡ [] → ⊥
  long_settles None value h k ks e f = some_kind kind.UnknownArgument [] f
  long_settles (Some a) value h k ks e f = go (takes_values a) value f
    where
      settles : settle_fault c false h ≡ [] → ⊥
      settles g = some_kind k ks (sym e ∙ g)

      go : (b : Bool) (v : Option Text) → cond b (option_fault c false a v h) (cond (is_some v) (kind.TooManyValues ∷ []) (react_fault c false a [] h)) ≡ [] → ⊥
      go true (Some v) g = settles (or_else_first (settle_fault c false h) _ g)
      go true None g = settles g
      go false (Some v) g = some_kind kind.TooManyValues [] g
      go false None g = settles (or_else_first (settle_fault c false h) _ g)
