-- The words of a row are those that `clap` takes, with digits and as many other words as the row has.
use Rattle.std.proofs.Common.{◌≡◌, ◌∙◌, Bool, true, false, not, cond, List, [], ◌∷◌, Option, Some, None, refl, sym, ap, subst, inl, inr, true≢false, bytes_eq}
use Rattle.std.specs.List.{list_all, fold}
use Rattle.std.specs.Option.{option_and_then}
use Rattle.std.proofs.lemmas.Bool.{false_from_ne_true, and_parts, and_from, or_left, or_right}
use Rattle.std.proofs.lemmas.Slice.Eq.{bytes_eq-Decides}
use Rattle.clap.specs.Walk.{with_default}
use Rattle.clap.specs.Simple.{matches_of}
use Rattle.clap.specs.Faults.{fault_of, walk_fault, settle_fault}
use Rattle.tool_words.specs.Rows as rows
use Rattle.tool_words.specs.Rows.{Text, Item, IsFlag, IsNumber, IsOther, is_among, items_from, options_in, numbers_in, others_in, value_of, are_new, is_digits, have_digits, is_whole, whole, said_in}
use Rattle.tool_words.specs.Parser.{digits_at, parser, is_good, is_readable, IsTaken}
use Rattle.tool_words.proofs.Turns.{or_else_first, or_else_second, or_else_both, shape}
use Rattle.tool_words.proofs.Walks.{Outcome, Good, end_of, walk_law}
use Rattle.tool_words.proofs.Built.{built_rules, finds, start, faults, fault_is, matches_is}
use Rattle.tool_words.proofs.Found.{has_items}

-- what isn't good is not whole
not_whole : (row : rows.Row) (o : Option (List Item)) → (Good [] o → ⊥) → option_and_then (whole row) o ≡ None
not_whole row None bad = refl
not_whole row (Some items) bad = ap (λ b. cond b (Some items) None) (false_from_ne_true (is_whole row items) (λ w.
    let first = and_parts (are_new [] (options_in items)) _ w in
    let second = and_parts (have_digits items) _ first.1 in
    bad (first.0, second.0)))

pub taken : (row : rows.Row) → is_good row.flags row.numbers ≡ true → (words : List Text) → list_all is_readable words ≡ true
    → fault_of (parser row.flags row.numbers) words ≡ [] → IsTaken row words (matches_of (parser row.flags row.numbers) words)
taken row good words readable none = go (walk_law row (built_rules row.flags row.numbers) (finds row good) words)
  where
    clean : faults (built_rules row.flags row.numbers) words ≡ []
    clean = sym (fault_is row.flags row.numbers words) ∙ none

    go : Outcome row (built_rules row.flags row.numbers) [] None [] start words → IsTaken row words (matches_of (parser row.flags row.numbers) words)
    go (inl r) = record {
      items = r.items;
      says = r.says;
      new = r.new;
      has = subst (Rattle.tool_words.specs.Parser.HasItems row.flags row.numbers r.items)
          (sym (matches_is row.flags row.numbers words ∙ ap (λ v. fold with_default v (built_rules row.flags row.numbers)) r.rows))
          (has_items row (finds row good) r.items r.new r.named);
    }
    go (inr r) = absurd (r.fails readable
        (or_else_first (walk_fault (shape (built_rules row.flags row.numbers)) [] start words) _ clean)
        (or_else_first (settle_fault (built_rules row.flags row.numbers) false (end_of (built_rules row.flags row.numbers) start words)) [] (or_else_second (walk_fault (shape (built_rules row.flags row.numbers)) [] start words) _ clean)))

pub refused : (row : rows.Row) → is_good row.flags row.numbers ≡ true → (words : List Text) → (fault_of (parser row.flags row.numbers) words ≡ [] → ⊥) → said_in row words ≡ None
refused row good words fails = go (walk_law row (built_rules row.flags row.numbers) (finds row good) words)
  where
    go : Outcome row (built_rules row.flags row.numbers) [] None [] start words → said_in row words ≡ None
    go (inl r) = absurd (fails (fault_is row.flags row.numbers words ∙ or_else_both _ _ r.clean (or_else_both _ [] r.settles refl)))
    go (inr r) = not_whole row (items_from row None words) r.says_nothing

pub unreadable : (row : rows.Row) → is_good row.flags row.numbers ≡ true → (words : List Text) → list_all is_readable words ≡ false → said_in row words ≡ None
unreadable row good words bad = go (walk_law row (built_rules row.flags row.numbers) (finds row good) words)
  where
    go : Outcome row (built_rules row.flags row.numbers) [] None [] start words → said_in row words ≡ None
    go (inl r) = absurd (true≢false (sym r.readable ∙ bad))
    go (inr r) = not_whole row (items_from row None words) r.says_nothing

-- ---- digits

not_again : (n : Text) (items : List Item) (before : List Text) → is_among before n ≡ true → are_new before (options_in items) ≡ true → value_of n items ≡ None
not_again n [] before among new = refl
not_again n (IsFlag m ∷ items) before among new =
    not_again n items (m ∷ before) (or_right (bytes_eq m n) (is_among before n) among) (and_parts (not (is_among before m)) (are_new (m ∷ before) (options_in items)) new).1
not_again n (IsNumber m v ∷ items) before among new =
    let both = and_parts (not (is_among before m)) (are_new (m ∷ before) (options_in items)) new in
    let other : bytes_eq m n ≡ false = false_from_ne_true (bytes_eq m n) (λ same.
    true≢false (sym both.0 ∙ ap not (subst (λ (i : Text). is_among before i ≡ true) (sym ((bytes_eq-Decides m n).0 same)) among))) in
    ap (λ b. cond b (Some v) (value_of n items)) other ∙ not_again n items (m ∷ before) (or_right (bytes_eq m n) (is_among before n) among) both.1
not_again n (IsOther w ∷ items) before among new = not_again n items before among new

pub digits_from : (items : List Item) (before : List Text) → are_new before (options_in items) ≡ true → ((n : Text) → digits_at (value_of n items) ≡ true) → have_digits items ≡ true
digits_from [] before new each = refl
digits_from (IsFlag m ∷ items) before new each = digits_from items (m ∷ before) (and_parts (not (is_among before m)) (are_new (m ∷ before) (options_in items)) new).1 each
digits_from (IsNumber m v ∷ items) before new each =
    let both = and_parts (not (is_among before m)) (are_new (m ∷ before) (options_in items)) new in
    let same : bytes_eq m m ≡ true = (bytes_eq-Decides m m).1 refl in
    and_from (is_digits v) (have_digits items) (ap (λ b. digits_at (cond b (Some v) (value_of m items))) (sym same) ∙ each m)
    (digits_from items (m ∷ before) both.1 (λ n. go n (bytes_eq m n) refl (each n) (not_again n items (m ∷ before))))
  where
    go : (n : Text) (b : Bool) → bytes_eq m n ≡ b → digits_at (cond (bytes_eq m n) (Some v) (value_of n items)) ≡ true
        → (is_among (m ∷ before) n ≡ true → are_new (m ∷ before) (options_in items) ≡ true → value_of n items ≡ None) → digits_at (value_of n items) ≡ true
    go n true e at gone = ap digits_at (gone (or_left (bytes_eq m n) (is_among before n) e) (and_parts (not (is_among before m)) (are_new (m ∷ before) (options_in items)) new).1)
    go n false e at gone = ap (λ b. digits_at (cond b (Some v) (value_of n items))) (sym e) ∙ at
digits_from (IsOther w ∷ items) before new each = digits_from items before new each

pub digits_each : (items : List Item) → have_digits items ≡ true → (n : Text) → digits_at (value_of n items) ≡ true
digits_each [] e n = refl
digits_each (IsFlag m ∷ items) e n = digits_each items e n
digits_each (IsNumber m v ∷ items) e n =
    let both = and_parts (is_digits v) (have_digits items) e in go (bytes_eq m n) both.0 (digits_each items both.1 n)
  where
    go : (b : Bool) → is_digits v ≡ true → digits_at (value_of n items) ≡ true → digits_at (cond b (Some v) (value_of n items)) ≡ true
    go true p q = p
    go false p q = q
digits_each (IsOther w ∷ items) e n = digits_each items e n
