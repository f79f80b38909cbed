-- The command of a row as `clap` builds it: what its rules find, and which words it takes.
use Rattle.std.proofs.Common.{◌≡◌, ◌∙◌, Bool, true, false, not, cond, ◌&&◌, ◌||◌, List, [], ◌∷◌, ◌++◌, map, Option, Some, None, refl, sym, ap, subst, true≢false, bytes_eq, append-nil, append_assoc}
use Rattle.std.specs.List.{list_any, list_all, find, fold}
use Rattle.std.specs.Option.{is_some}
use Rattle.std.proofs.lemmas.Bool.{false_from_ne_true, and_parts}
use Rattle.std.proofs.lemmas.Slice.Eq.{bytes_eq-Decides}
use Rattle.clap.specs.Walk.{Rule, Row, Walk, arg_by_id, arg_by_long, arg_by_index, settled, walked, has_row, has_long, idle, walk, walk_from, finished, nothing_held, with_default}
use Rattle.clap.specs.Kinds.{Kinds, or_else}
use Rattle.clap.specs.Simple.{App, Shape, built, filled_from, on_top, with_rule, matches_of, entered}
use Rattle.clap.specs.Takes.{is_given}
use Rattle.clap.specs.Faults.{walk_fault, settle_fault, fault_of, defaults_fault, check_fault, entered_fault, built_fault, level_fault, is_simple_and_free}
use Rattle.tool_words.specs.Rows as rows
use Rattle.tool_words.specs.Rows.{Text, is_among}
use Rattle.tool_words.specs.Parser.{word_id, flag_rule, number_rule, word_rule, rules, bare, with_rules, parser, is_good, is_free}
use Rattle.tool_words.proofs.Turns.{built_flag, built_number, built_word, shape, between, holding, or_else_both}
use Rattle.tool_words.proofs.Walks.{Finds, is_option, end_of}

abbrev pub built_rules : List Text → List Text → List Rule
built_rules flags numbers = map built_flag flags ++ (map built_number numbers ++ built_word ∷ [])

-- ---- what the rules find

long_flags : (name : Text) (flags : List Text) (rest : List Rule)
    → find (λ a. not (is_some a.index) && has_long a name) (map built_flag flags ++ rest)
    ≡ cond (is_among flags name) (Some (built_flag name)) (find (λ a. not (is_some a.index) && has_long a name) rest)
long_flags name [] rest = refl
long_flags name (f ∷ flags) rest = go (bytes_eq f name) refl (long_flags name flags rest)
  where
    go : (b : Bool) → bytes_eq f name ≡ b
        → find (λ a. not (is_some a.index) && has_long a name) (map built_flag flags ++ rest) ≡ cond (is_among flags name) (Some (built_flag name)) (find (λ a. not (is_some a.index) && has_long a name) rest)
        → find (λ a. not (is_some a.index) && has_long a name) (map built_flag (f ∷ flags) ++ rest)
        ≡ cond (is_among (f ∷ flags) name) (Some (built_flag name)) (find (λ a. not (is_some a.index) && has_long a name) rest)
    go true e ih = rw e (ap (λ n. Some (built_flag n)) ((bytes_eq-Decides f name).0 e))
    go false e ih = rw e ih

long_numbers : (name : Text) (numbers : List Text) (rest : List Rule)
    → find (λ a. not (is_some a.index) && has_long a name) (map built_number numbers ++ rest)
    ≡ cond (is_among numbers name) (Some (built_number name)) (find (λ a. not (is_some a.index) && has_long a name) rest)
long_numbers name [] rest = refl
long_numbers name (f ∷ numbers) rest = go (bytes_eq f name) refl (long_numbers name numbers rest)
  where
    go : (b : Bool) → bytes_eq f name ≡ b
        → find (λ a. not (is_some a.index) && has_long a name) (map built_number numbers ++ rest) ≡ cond (is_among numbers name) (Some (built_number name)) (find (λ a. not (is_some a.index) && has_long a name) rest)
        → find (λ a. not (is_some a.index) && has_long a name) (map built_number (f ∷ numbers) ++ rest)
        ≡ cond (is_among (f ∷ numbers) name) (Some (built_number name)) (find (λ a. not (is_some a.index) && has_long a name) rest)
    go true e ih = rw e (ap (λ n. Some (built_number n)) ((bytes_eq-Decides f name).0 e))
    go false e ih = rw e ih

id_flags : (id : Text) (flags : List Text) (rest : List Rule)
    → find (λ a. bytes_eq a.id id) (map built_flag flags ++ rest) ≡ cond (is_among flags id) (Some (built_flag id)) (find (λ a. bytes_eq a.id id) rest)
id_flags id [] rest = refl
id_flags id (f ∷ flags) rest = go (bytes_eq f id) refl (id_flags id flags rest)
  where
    go : (b : Bool) → bytes_eq f id ≡ b
        → find (λ a. bytes_eq a.id id) (map built_flag flags ++ rest) ≡ cond (is_among flags id) (Some (built_flag id)) (find (λ a. bytes_eq a.id id) rest)
        → find (λ a. bytes_eq a.id id) (map built_flag (f ∷ flags) ++ rest)
        ≡ cond (is_among (f ∷ flags) id) (Some (built_flag id)) (find (λ a. bytes_eq a.id id) rest)
    go true e ih = rw e (ap (λ n. Some (built_flag n)) ((bytes_eq-Decides f id).0 e))
    go false e ih = rw e ih

id_numbers : (id : Text) (numbers : List Text) (rest : List Rule)
    → find (λ a. bytes_eq a.id id) (map built_number numbers ++ rest) ≡ cond (is_among numbers id) (Some (built_number id)) (find (λ a. bytes_eq a.id id) rest)
id_numbers id [] rest = refl
id_numbers id (f ∷ numbers) rest = go (bytes_eq f id) refl (id_numbers id numbers rest)
  where
    go : (b : Bool) → bytes_eq f id ≡ b
        → find (λ a. bytes_eq a.id id) (map built_number numbers ++ rest) ≡ cond (is_among numbers id) (Some (built_number id)) (find (λ a. bytes_eq a.id id) rest)
        → find (λ a. bytes_eq a.id id) (map built_number (f ∷ numbers) ++ rest)
        ≡ cond (is_among (f ∷ numbers) id) (Some (built_number id)) (find (λ a. bytes_eq a.id id) rest)
    go true e ih = rw e (ap (λ n. Some (built_number n)) ((bytes_eq-Decides f id).0 e))
    go false e ih = rw e ih

index_flags : (flags : List Text) (rest : List Rule) → arg_by_index (map built_flag flags ++ rest) 1 ≡ arg_by_index rest 1
index_flags [] rest = refl
index_flags (f ∷ flags) rest = index_flags flags rest

index_numbers : (numbers : List Text) (rest : List Rule) → arg_by_index (map built_number numbers ++ rest) 1 ≡ arg_by_index rest 1
index_numbers [] rest = refl
index_numbers (f ∷ numbers) rest = index_numbers numbers rest

is_apart : (flags numbers : List Text) → list_all (λ name. not (is_among flags name)) numbers ≡ true
    → (name : Text) → is_among numbers name ≡ true → is_among flags name ≡ false
is_apart flags [] e name among = absurd (true≢false (sym among))
is_apart flags (n ∷ numbers) e name among = go (bytes_eq n name) refl among (is_apart flags numbers both.1 name)
  where
    both : (not (is_among flags n) ≡ true) × (list_all (λ name. not (is_among flags name)) numbers ≡ true)
    both = and_parts (not (is_among flags n)) (list_all (λ name. not (is_among flags name)) numbers) e

    not_true : (b : Bool) → not b ≡ true → b ≡ false
    not_true true p = sym p
    not_true false p = refl

    go : (b : Bool) → bytes_eq n name ≡ b → (b || is_among numbers name) ≡ true → (is_among numbers name ≡ true → is_among flags name ≡ false) → is_among flags name ≡ false
    go true p q ih = subst (λ (m : Text). is_among flags m ≡ false) ((bytes_eq-Decides n name).0 p) (not_true (is_among flags n) both.0)
    go false p q ih = ih q

not_true : (b : Bool) → not b ≡ true → b ≡ false
not_true true p = sym p
not_true false p = refl

pub finds : (row : rows.Row) → is_good row.flags row.numbers ≡ true → Finds row (built_rules row.flags row.numbers)
finds row good = record {
  long = λ name. long_flags name row.flags (map built_number row.numbers ++ built_word ∷ [])
      ∙ ap (λ o. cond (is_among row.flags name) (Some (built_flag name)) o) (long_numbers name row.numbers (built_word ∷ []));
  number = λ name among. id_flags name row.flags (map built_number row.numbers ++ built_word ∷ [])
      ∙ (ap (λ b. cond b (Some (built_flag name)) (find (λ a. bytes_eq a.id name) (map built_number row.numbers ++ built_word ∷ []))) (apart name among)
      ∙ (id_numbers name row.numbers (built_word ∷ []) ∙ ap (λ b. cond b (Some (built_number name)) (find (λ a. bytes_eq a.id name) (built_word ∷ []))) among));
  word = id_flags word_id row.flags (map built_number row.numbers ++ built_word ∷ [])
      ∙ (ap (λ b. cond b (Some (built_flag word_id)) (find (λ a. bytes_eq a.id word_id) (map built_number row.numbers ++ built_word ∷ []))) (not_true (is_among row.flags word_id) words.0)
      ∙ (id_numbers word_id row.numbers (built_word ∷ []) ∙ ap (λ b. cond b (Some (built_number word_id)) (find (λ a. bytes_eq a.id word_id) (built_word ∷ []))) (not_true (is_among row.numbers word_id) words.1)));
  first = index_flags row.flags (map built_number row.numbers ++ built_word ∷ []) ∙ index_numbers row.numbers (built_word ∷ []);
  apart = apart;
  no_word = λ name has. false_from_ne_true (bytes_eq word_id name) (λ same.
      let is : word_id ≡ name = (bytes_eq-Decides word_id name).0 same in
      let at : is_option (row) word_id ≡ true = subst (λ (m : Text). is_option (row) m ≡ true) (sym is) has in
      true≢false (sym at ∙ (ap (λ b. b || is_among row.numbers word_id) (not_true (is_among row.flags word_id) words.0) ∙ not_true (is_among row.numbers word_id) words.1)));
  no_flag = not_true (is_among row.flags []) empty.0;
  no_number = not_true (is_among row.numbers []) empty.1;
}
  where
    first : (list_all (λ name. not (is_among row.flags name)) row.numbers ≡ true) × ((is_free row.flags row.numbers [] && is_free row.flags row.numbers word_id) ≡ true)
    first = and_parts (list_all (λ name. not (is_among row.flags name)) row.numbers) (is_free row.flags row.numbers [] && is_free row.flags row.numbers word_id)
        (and_parts (is_simple_and_free (parser row.flags row.numbers)) (list_all (λ name. not (is_among row.flags name)) row.numbers && (is_free row.flags row.numbers [] && is_free row.flags row.numbers word_id)) good).1

    apart : (name : Text) → is_among row.numbers name ≡ true → is_among row.flags name ≡ false
    apart = is_apart row.flags row.numbers first.0

    empty : (not (is_among row.flags []) ≡ true) × (not (is_among row.numbers []) ≡ true)
    empty = and_parts (not (is_among row.flags [])) (not (is_among row.numbers [])) (and_parts (is_free row.flags row.numbers []) (is_free row.flags row.numbers word_id) first.1).0

    words : (not (is_among row.flags word_id) ≡ true) × (not (is_among row.numbers word_id) ≡ true)
    words = and_parts (not (is_among row.flags word_id)) (not (is_among row.numbers word_id)) (and_parts (is_free row.flags row.numbers []) (is_free row.flags row.numbers word_id) first.1).1

-- ---- the command as it is built

abbrev app_with : List Rule → App
app_with c = on_top (λ s. record s { rules = c }) bare

with_rules_is : (xs ys : List Rule) → with_rules (app_with xs) ys ≡ app_with (xs ++ ys)
with_rules_is xs [] = ap app_with (sym (append-nil xs))
with_rules_is xs (y ∷ ys) = with_rules_is (xs ++ y ∷ []) ys ∙ ap app_with (append_assoc xs (y ∷ []) ys)

filled_numbers : (numbers : List Text) → filled_from 1 (map number_rule numbers ++ word_rule ∷ []) ≡ map built_number numbers ++ built_word ∷ []
filled_numbers [] = refl
filled_numbers (n ∷ numbers) = ap (λ rs. built_number n ∷ rs) (filled_numbers numbers)

filled_flags : (flags : List Text) (rest built_rest : List Rule) → filled_from 1 rest ≡ built_rest → filled_from 1 (map flag_rule flags ++ rest) ≡ map built_flag flags ++ built_rest
filled_flags [] rest built_rest e = e
filled_flags (f ∷ flags) rest built_rest e = ap (λ rs. built_flag f ∷ rs) (filled_flags flags rest built_rest e)

parser_is : (flags numbers : List Text) → parser flags numbers ≡ app_with (rules flags numbers)
parser_is flags numbers = with_rules_is [] (rules flags numbers)

abbrev built_app : List Rule → App
built_app c = record { top = shape c; subs = [] }

built_is : (flags numbers : List Text) → built (app_with (rules flags numbers)) ≡ built_app (built_rules flags numbers)
built_is flags numbers = ap built_app (filled_flags flags (map number_rule numbers ++ word_rule ∷ []) (map built_number numbers ++ built_word ∷ []) (filled_numbers numbers))

-- ---- faults

cond_same : {X : Type 0} (b : Bool) (x : X) → cond b x x ≡ x
cond_same true x = refl
cond_same false x = refl

no_default_numbers : (numbers : List Text) (V : List Row) → defaults_fault V (map built_number numbers ++ built_word ∷ []) ≡ []
unfolding defaults_fault
no_default_numbers [] V = or_else_both _ [] (cond_same (has_row word_id V || true) []) refl
no_default_numbers (n ∷ numbers) V = or_else_both _ _ (cond_same (has_row n V || true) []) (no_default_numbers numbers (with_default V (built_number n)))

no_default : (flags : List Text) (rest : List Rule) → ((V : List Row) → defaults_fault V rest ≡ []) → (V : List Row) → defaults_fault V (map built_flag flags ++ rest) ≡ []
unfolding defaults_fault
no_default [] rest e V = e V
no_default (f ∷ flags) rest e V = or_else_both _ _ (cond_same (has_row f V || false) []) (no_default flags rest e (with_default V (built_flag f)))

none_required_numbers : (numbers : List Text) (V : List Row) → list_any (λ a. a.required && not (is_given a.id V)) (map built_number numbers ++ built_word ∷ []) ≡ false
none_required_numbers [] V = refl
none_required_numbers (n ∷ numbers) V = none_required_numbers numbers V

none_required : (flags : List Text) (rest : List Rule) (V : List Row) → list_any (λ a. a.required && not (is_given a.id V)) rest ≡ false
    → list_any (λ a. a.required && not (is_given a.id V)) (map built_flag flags ++ rest) ≡ false
none_required [] rest V e = e
none_required (f ∷ flags) rest V e = none_required flags rest V e

no_check : (flags numbers : List Text) (V : List Row) → check_fault (shape (built_rules flags numbers)) V false ≡ []
no_check flags numbers V = rw (none_required flags (map built_number numbers ++ built_word ∷ []) V (none_required_numbers numbers V)) refl

never_entered : (c : List Rule) (stop : Option (Text × List Text)) → entered (built_app c) stop ≡ None
never_entered c None = refl
never_entered c (Some p) = refl

no_entered_fault : (c : List Rule) (stop : Option (Text × List Text)) → entered_fault (built_app c) stop ≡ []
no_entered_fault c None = refl
no_entered_fault c (Some p) = refl

abbrev pub start : Walk
start = between (holding [] None 0) idle

-- the faults of the walk, and of what is held at its end
abbrev pub faults : List Rule → List Text → Kinds
faults c words = or_else (walk_fault (shape c) [] start words) (or_else (settle_fault c false (end_of c start words)) [])

fault_of_built : (flags numbers : List Text) (words : List Text) → built_fault (built_app (built_rules flags numbers)) nothing_held words ≡ faults (built_rules flags numbers) words
fault_of_built flags numbers words =
    let c = built_rules flags numbers in
    let stop = (walk c [] nothing_held words).stopped in
    let below = no_entered_fault c stop in
    let has : is_some (entered (built_app c) stop) ≡ false = ap is_some (never_entered c stop) in
    let defaults = no_default flags (map built_number numbers ++ built_word ∷ []) (no_default_numbers numbers) (settled c (end_of c start words)).rows in
    ap (λ b. level_fault (shape c) [] nothing_held words b (entered_fault (built_app c) stop)) has
    ∙ (ap (λ k. level_fault (shape c) [] nothing_held words false k) below
    ∙ ap (λ k. or_else (walk_fault (shape c) [] start words) (or_else (settle_fault c false (end_of c start words)) k))
    (ap (λ k. or_else k (check_fault (shape c) (finished c (end_of c start words)) false)) defaults ∙ no_check flags numbers (finished c (end_of c start words))))

pub fault_is : (flags numbers : List Text) (words : List Text) → fault_of (parser flags numbers) words ≡ faults (built_rules flags numbers) words
fault_is flags numbers words =
    ap (λ a. fault_of a words) (parser_is flags numbers)
    ∙ (ap (λ a. built_fault a nothing_held words) (built_is flags numbers) ∙ fault_of_built flags numbers words)

pub matches_is : (flags numbers : List Text) (words : List Text)
    → matches_of (parser flags numbers) words ≡ fold with_default (settled (built_rules flags numbers) (end_of (built_rules flags numbers) start words)).rows (built_rules flags numbers)
matches_is flags numbers words =
    ap (λ a. matches_of a words) (parser_is flags numbers)
    ∙ ap (λ (a : App). Rattle.clap.specs.Walk.rows_after a.top.rules (Rattle.clap.specs.Simple.names_of a) words) (built_is flags numbers)
