-- What an answer of `clap` tells of the words.
use Rattle.std.proofs.Common.{◌≡◌, ◌∙◌, Bool, true, false, cond, ◌&&◌, ◌||◌, List, [], ◌∷◌, Some, None, refl, sym, ap, subst, inl, inr, true≢false, bytes_eq}
use Rattle.std.specs.List.{list_all}
use Rattle.std.specs.Option.{option_and_then}
use Rattle.std.proofs.lemmas.Bool.{false_from_ne_true, and_parts, and_from, or_left, or_right}
use Rattle.std.proofs.lemmas.Slice.Eq.{bytes_eq-Decides}
use Rattle.clap.specs.Walk.{first_of, rows_of}
use Rattle.clap.specs.Walk.{Row as Found}
use Rattle.clap.specs.Matches.{found_of}
use Rattle.clap.specs.Kinds.{Kinds, HasKind, IsAmong}
use Rattle.clap.specs.Simple.{App, HasMatchesOf, is_simple, matches_of}
use Rattle.clap.specs.Faults.{fault_of, is_simple_and_free}
use Rattle.clap.specs.Values.{kind_of}
use Rattle.clap.specs.declared.error.Error.{Error}
use Rattle.clap.specs.declared.error.kind.ErrorKind.TheVariants as kind
use Rattle.clap.specs.declared.parser.matches.ArgMatches.{ArgMatches}
use Rattle.tool_words.specs.Rows.{Text, Row, is_among, options_in, others_in, value_of, are_new, have_digits, has_count, is_whole, whole, said_in}
use Rattle.tool_words.specs.Parser.{digits_at, parser, is_good, is_readable, words_in, IsTaken, IsRead}
use Rattle.tool_words.specs.Fits.{fits, numbers_fit}
use Rattle.tool_words.proofs.Laws.{taken, refused, digits_from, digits_each}

simple : (row : Row) → is_good row.flags row.numbers ≡ true → (a : App) → a ≡ parser row.flags row.numbers → is_simple_and_free a ≡ true
simple row good a is = ap is_simple_and_free is ∙ (and_parts (is_simple_and_free (parser row.flags row.numbers)) _ good).0

pub ok_law : (row : Row) → is_good row.flags row.numbers ≡ true → (words : List Text) (a : App) (m : ArgMatches) → a ≡ parser row.flags row.numbers
    → list_all is_readable words ≡ true → (is_simple_and_free a ≡ true → fault_of a words ≡ []) → HasMatchesOf a words m → IsTaken row words (rows_of (found_of m))
ok_law row good words a m is readable clean has =
    let free = simple row good a is in
    let rows : rows_of (found_of m) ≡ matches_of (parser row.flags row.numbers) words =
    (has (and_parts (is_simple a) _ free).0).0 ∙ ap (λ x. matches_of x words) is in
    subst (IsTaken row words) (sym rows) (taken row good words readable (sym (ap (λ x. fault_of x words) is) ∙ clean free))

other_kind : (e : Error) (ks : Kinds) → HasKind ks e → (kind_of e ≡ kind.OutOfMemory → ⊥) → ks ≡ [] → ⊥
other_kind e ks (inl m) other none = other m
other_kind e ks (inr among) other none = subst (IsAmong (kind_of e)) none among

pub err_law : (row : Row) → is_good row.flags row.numbers ≡ true → (words : List Text) (a : App) (e : Error) → a ≡ parser row.flags row.numbers
    → (is_simple_and_free a ≡ true → HasKind (fault_of a words) e) → (kind_of e ≡ kind.OutOfMemory → ⊥) → said_in row words ≡ None
err_law row good words a e is fails other =
    refused row good words (λ none. other_kind e (fault_of a words) (fails (simple row good a is)) other (ap (λ x. fault_of x words) is ∙ none))

-- ---- digits and counts

all_at : (p : Text → Bool) (names : List Text) (n : Text) → list_all p names ≡ true → is_among names n ≡ true → p n ≡ true
all_at p [] n all among = absurd (true≢false (sym among))
all_at p (m ∷ names) n all among = go (bytes_eq m n) refl among (all_at p names n (and_parts (p m) (list_all p names) all).1)
  where
    go : (b : Bool) → bytes_eq m n ≡ b → (b || is_among names n) ≡ true → (is_among names n ≡ true → p n ≡ true) → p n ≡ true
    go true e q ih = subst (λ (i : Text). p i ≡ true) ((bytes_eq-Decides m n).0 e) (and_parts (p m) (list_all p names) all).0
    go false e q ih = ih q

all_from : (p : Text → Bool) (names : List Text) → ((n : Text) → is_among names n ≡ true → p n ≡ true) → list_all p names ≡ true
all_from p [] each = refl
all_from p (m ∷ names) each = and_from (p m) (list_all p names)
    (each m (or_left (bytes_eq m m) (is_among names m) ((bytes_eq-Decides m m).1 refl)))
    (all_from p names (λ n among. each n (or_right (bytes_eq m n) (is_among names n) among)))

pub read_law : (row : Row) (words : List Text) (found : List Found) → IsTaken row words found → fits row found ≡ true → IsRead row words found
read_law row words found t fit = record {
  items = t.items;
  says = ap (option_and_then (whole row)) t.says
      ∙ ap (λ b. cond b (Some t.items) None) (and_from (are_new [] (options_in t.items)) _ t.new (and_from (have_digits t.items) _ digits counted));
  has = t.has;
}
  where
    both : (numbers_fit row.numbers found ≡ true) × (has_count row (words_in found) ≡ true)
    both = and_parts (numbers_fit row.numbers found) (has_count row (words_in found)) fit

    each : (n : Text) (b : Bool) → is_among row.numbers n ≡ b → digits_at (value_of n t.items) ≡ true
    each n true e = ap digits_at (sym (t.has.number n e)) ∙ all_at (λ name. digits_at (first_of name found)) row.numbers n both.0 e
    each n false e = ap digits_at (t.has.only n e)

    digits : have_digits t.items ≡ true
    digits = digits_from t.items [] t.new (λ n. each n (is_among row.numbers n) refl)

    counted : has_count row (others_in t.items) ≡ true
    counted = ap (has_count row) (sym t.has.others) ∙ both.1

pub unread_law : (row : Row) (words : List Text) (found : List Found) → IsTaken row words found → fits row found ≡ false → said_in row words ≡ None
unread_law row words found t unfit = ap (option_and_then (whole row)) t.says
    ∙ ap (λ b. cond b (Some t.items) None) (false_from_ne_true (is_whole row t.items) (λ w. true≢false (sym (fit w) ∙ unfit)))
  where
    fit : is_whole row t.items ≡ true → fits row found ≡ true
    fit w =
        let first = and_parts (are_new [] (options_in t.items)) (have_digits t.items && has_count row (others_in t.items)) w in
        let second = and_parts (have_digits t.items) (has_count row (others_in t.items)) first.1 in
        and_from (numbers_fit row.numbers found) (has_count row (words_in found))
        (all_from (λ name. digits_at (first_of name found)) row.numbers (λ n among. ap digits_at (t.has.number n among) ∙ digits_each t.items second.0 n))
        (ap (has_count row) t.has.others ∙ second.1)
