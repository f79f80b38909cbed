-- What is found behind `eval` is what its words say.
use Rattle.std.proofs.Common.{◌≡◌, ◌∙◌, ℕ, ◌<◌, ◌≤◌, ◌^◌, Bool, true, false, cond, List, [], length, Option, Some, None, Err, IsTrue, codes, nat_le, rules, refl, sym, ap, subst, arith, leb-true, leb-false}
use Rattle.std.specs.Char.{is_ascii_digit}
use Rattle.std.specs.List.{list_all}
use Rattle.std.specs.Option.{option_map, option_and_then}
use Rattle.std.specs.Str.Parse.{digits_value, ParsesUnsigned}
use Rattle.std.proofs.lemmas.Bool.{false_from_ne_true, and_parts}
use Rattle.std.proofs.lemmas.Str.Parse.{IsNumeralModel, numerals_by_value, parse_digits}
use Rattle.clap.specs.Walk.{first_of}
use Rattle.clap.specs.Walk.{Row as Found}
use Rattle.tool_words.specs.declared.limits.TheConstants.{MOST_DIGITS}
use Rattle.tool_words.specs.Rows.{Text, Row, Item, is_among, flags_in, others_in, options_in, are_new, have_digits, is_digits, is_whole, items_from, whole}
use Rattle.tool_words.specs.Parser.{digits_at, flag_text, words_in, IsRead}
use Rattle.tool_words.specs.Evals.{eval_row, up_to, cost_of, env_of, eval_in, eval_of}
use Rattle.tool_words.specs.declared.said.Command.TheVariants.{Eval}
use Rattle.tool_words.proofs.Laws.{digits_each}

-- ---- digits

own : IsNumeralModel (λ digits. list_all is_ascii_digit digits ≡ true) (digits_value 10)
own = numerals_by_value _ (search rules)

is_long_and : (digits : Text) → is_digits digits ≡ true → list_all is_ascii_digit digits ≡ true
is_long_and digits is =
    (and_parts (nat_le (length digits) MOST_DIGITS) _ (and_parts (nat_le 1 (length digits)) _ is).1).1

past : (most number : ℕ) → most < number → up_to most number ≡ None
past most number more = ap (λ b. cond b (Some number) None) (false_from_ne_true (nat_le number most) (λ within. omega (arith, more, leb-true number most within)))

pub unparsed : {E : Type 0} (most : ℕ) (digits : Text) (e : E) → most < 2 ^ 64 → is_digits digits ≡ true
    → ParsesUnsigned 64 10 digits (Err e) → up_to most (digits_value 10 digits) ≡ None
unparsed most digits e fits is fails =
    let all = is_long_and digits is in
    let some = leb-true 1 (length digits) (and_parts (nat_le 1 (length digits)) _ is).0 in
    let none = parse_digits own 64 digits (Err e) fails all in
    go (nat_le (2 ^ 64) (digits_value 10 digits)) refl some none
  where
    go : (b : Bool) → nat_le (2 ^ 64) (digits_value 10 digits) ≡ b → 1 ≤ length digits
        → ¬ ((0 < length digits) × (digits_value 10 digits < 2 ^ 64)) → up_to most (digits_value 10 digits) ≡ None
    go true long some none = past most (digits_value 10 digits) (omega (arith, fits, leb-true (2 ^ 64) (digits_value 10 digits) long))
    go false short some none = absurd (none (omega (arith, some), leb-false (2 ^ 64) (digits_value 10 digits) short))

-- ---- items

whole_items : (row : Row) (said : Option (List Item)) (items : List Item) → option_and_then (whole row) said ≡ Some items → is_whole row items ≡ true
whole_items row None items is = absurd (search rules)
whole_items row (Some found) items is = go (is_whole row found) refl is
  where
    go : (b : Bool) → is_whole row found ≡ b → cond b (Some found) None ≡ Some items → is_whole row items ≡ true
    go true whole same = let one : found ≡ items = search rules in subst (λ i. is_whole row i ≡ true) one whole
    go false whole same = absurd (search rules)

pub cost_digits : (words : List Text) (found : List Found) → IsRead eval_row words found → IsTrue (digits_at (first_of (codes "cost") found))
cost_digits words found read =
    let first = and_parts (are_new [] (options_in read.items)) _ (whole_items eval_row (items_from eval_row None words) read.items read.says) in
    let second = and_parts (have_digits read.items) _ first.1 in
    ap digits_at (read.has.number (codes "cost") refl) ∙ digits_each read.items second.0 (codes "cost")

-- ---- the command

flag_is : (b result : Bool) (one : Option Text) → one ≡ Some (flag_text b)
    → (one ≡ Some (codes "true") → result ≡ true) → (one ≡ Some (codes "false") → result ≡ false) → b ≡ result
flag_is true result one is at_true at_false = sym (at_true is)
flag_is false result one is at_true at_false = sym (at_false is)

pub eval_said : (words : List Text) (found : List Found) (cost : ℕ) (env : List ℕ) (as_text : Bool) (one : Option Text) → IsRead eval_row words found
    → cost_of (first_of (codes "cost") found) ≡ Some cost → env_of (words_in found) ≡ Some env
    → one ≡ Rattle.clap.specs.Walk.one_of (codes "text") found
    → (one ≡ Some (codes "true") → as_text ≡ true) → (one ≡ Some (codes "false") → as_text ≡ false)
    → eval_of words ≡ Some (Eval cost as_text env)
eval_said words found cost env as_text one read cost_is env_is one_is at_true at_false =
    let cost_of_items = ap cost_of (sym (read.has.number (codes "cost") refl)) ∙ cost_is in
    let env_of_items = ap env_of (sym read.has.others) ∙ env_is in
    let flagged = flag_is (is_among (flags_in read.items) (codes "text")) as_text one (one_is ∙ read.has.flag (codes "text") refl) at_true at_false in
    ap (option_and_then eval_in) read.says
    ∙ ap (option_and_then (λ c. option_map (λ e. Eval c (is_among (flags_in read.items) (codes "text")) e) (env_of (others_in read.items)))) cost_of_items
    ∙ ap (option_map (λ e. Eval cost (is_among (flags_in read.items) (codes "text")) e)) env_of_items
    ∙ ap (λ b. Some (Eval cost b env)) flagged
