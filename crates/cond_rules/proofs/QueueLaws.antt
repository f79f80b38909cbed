-- Which messages are uneven, with one more letter, and that the first that waits is the first of all.
use Prim.Native.Nat.{zero, suc}
use Rattle.std.proofs.Common.{◌≡◌, ◌≤◌, ◌<◌, inl, inr, ℕ, ◌+◌, ◌==◌, ◌||◌, not, Bool, true, false, cond, Option, Some, None, unwrap_or, List, [], ◌∷◌, length, get_or, refl, ap, sym, subst, ◌∙◌, true≢false, arith}
use Rattle.std.specs.Prelude.{option_map, slice_get, IfSome, IfNone, OnSome}
use Rattle.std.specs.List.{list_any, find, position_or_len, IsDistinct}
use Rattle.std.specs.Option.{option_map_or}
use Rattle.std.specs.Map.{lookup, keys_of}
use Rattle.std.proofs.lemmas.Bool.{both_ways, eqb-true, eq-eqb, ne_eqb, or_right, or_left, or_cases, false_from_ne_true, not-true, cases_lt}
use Rattle.std.proofs.lemmas.List.Folds.{find_at}
use Rattle.std.proofs.lemmas.List.Sums.{position_or_len_is}
use Rattle.std.proofs.lemmas.Map.Entries.{lookup_from_place}
use Rattle.std.proofs.lemmas.Option.{slice_get-get_or, slice_get_past, slice_get_within}
use Rattle.indexmap.specs.IndexMap.{insert_entry}
use Rattle.cond_spec.specs.Messages.{Message, is_same_message}
use Rattle.cond_rules.specs.declared.letters.Counts.{Counts}
use Rattle.cond_rules.specs.IndexQueue.{holds, IsLeast}
use Rattle.cond_rules.specs.Letters.{is_even, fresh, more, is_uneven_in, first_with, first_uneven}
use Rattle.cond_rules.specs.LettersInside.{is_uneven_at, IsSettled}
use Rattle.cond_rules.specs.MessageSameness.{same_message-equiv}
use Rattle.cond_rules.proofs.LetterLaws.{known}

abbrev Entries : Type 0
Entries = List (Message × Counts)

abbrev place_of : Message → Entries → ℕ
place_of message counts = position_or_len (is_same_message message) (keys_of counts)

-- ---- one more letter

suc-same : (i p : ℕ) → (suc i == 1 + p) ≡ (i == p)
suc-same i p = by (i == p) refl
  where
    by : (b : Bool) → (i == p) ≡ b → (suc i == 1 + p) ≡ b
    by true e = eq-eqb (suc i) (1 + p) (let same = eqb-true i p e in omega arith)
    by false e = ne_eqb (suc i) (1 + p) (λ same. true≢false (sym (eq-eqb i p (omega arith)) ∙ e))

suc-zero : (i : ℕ) → (suc i == 0) ≡ false
suc-zero i = ne_eqb (suc i) 0 (λ same. omega arith)

-- Only the message's own place changes.
pub uneven-one : (message : Message) (now : Counts) (counts : Entries) (i : ℕ)
    → is_uneven_at (insert_entry is_same_message counts message now) i ≡ cond (i == place_of message counts) (not (is_even now)) (is_uneven_at counts i)
uneven-one message now [] zero = refl
uneven-one message now [] (suc i) = ap (λ b. cond b (not (is_even now)) false) (sym (suc-zero i))
uneven-one message now (e ∷ es) i =
    elim (is_same_message message e.0) as (λ same. is_uneven_at (cond same ((e.0, now) ∷ es) (e ∷ insert_entry is_same_message es message now)) i
    ≡ cond (i == cond (not same) (1 + place_of message es) 0) (not (is_even now)) (is_uneven_at (e ∷ es) i))
    [ true ↦ here i | false ↦ behind i (uneven-one message now es) ]
  where
    here : (i : ℕ) → is_uneven_at ((e.0, now) ∷ es) i ≡ cond (i == 0) (not (is_even now)) (is_uneven_at (e ∷ es) i)
    here zero = refl
    here (suc i) = ap (λ b. cond b (not (is_even now)) (is_uneven_at es i)) (sym (suc-zero i))

    behind : (i : ℕ)
        → ((j : ℕ) → is_uneven_at (insert_entry is_same_message es message now) j ≡ cond (j == place_of message es) (not (is_even now)) (is_uneven_at es j))
        → is_uneven_at (e ∷ insert_entry is_same_message es message now) i
        ≡ cond (i == 1 + place_of message es) (not (is_even now)) (is_uneven_at (e ∷ es) i)
    behind zero rest = ap (λ b. cond b (not (is_even now)) (not (is_even e.1))) (sym (ne_eqb 0 (1 + place_of message es) (λ same. omega arith)))
    behind (suc i) rest = rest i ∙ ap (λ b. cond b (not (is_even now)) (is_uneven_at es i)) (sym (suc-same i (place_of message es)))

one-and : (n : ℕ) → 1 + n ≡ suc n
one-and n = omega arith

-- whether a message is uneven, by its place
pub uneven-known : (message : Message) (counts : Entries) → is_uneven_at counts (place_of message counts)
    ≡ option_map_or (λ now. not (is_even now)) (lookup (is_same_message message) counts) false
uneven-known message [] = refl
uneven-known message (e ∷ es) =
    elim (is_same_message message e.0) as (λ same. is_uneven_at (e ∷ es) (cond (not same) (1 + place_of message es) 0)
    ≡ option_map_or (λ now. not (is_even now)) (cond same (Some e.1) (lookup (is_same_message message) es)) false)
    [ true ↦ refl | false ↦ ap (is_uneven_at (e ∷ es)) (one-and (place_of message es)) ∙ uneven-known message es ]

was-uneven : (place : ℕ) (kept : Option Counts) → is_even (unwrap_or kept (fresh place)) ≡ false → option_map_or (λ now. not (is_even now)) kept false ≡ true
was-uneven place None e = absurd (true≢false e)
was-uneven place (Some now) e = ap not e

-- A message that was uneven waits already.
pub queued-kept : (message : Message) (now : Counts) (counts : Entries) (place : ℕ) (queue : List ℕ) → is_even (known counts message place) ≡ false
    → ((i : ℕ) → is_uneven_at counts i ≡ true → holds queue i ≡ true)
    → (i : ℕ) → is_uneven_at (insert_entry is_same_message counts message now) i ≡ true → holds queue i ≡ true
queued-kept message now counts place queue uneven queued i is = by (i == place_of message counts) refl
  where
    by : (b : Bool) → (i == place_of message counts) ≡ b → holds queue i ≡ true
    by true e =
        let at : i ≡ place_of message counts = eqb-true i (place_of message counts) e in
        queued i (ap (is_uneven_at counts) at ∙ uneven-known message counts ∙ was-uneven place (lookup (is_same_message message) counts) uneven)
    by false e = queued i (sym (uneven-one message now counts i ∙ ap (λ b. cond b (not (is_even now)) (is_uneven_at counts i)) e) ∙ is)

-- One that was even goes to wait.
pub queued-pushed : (message : Message) (now : Counts) (counts : Entries) (index : ℕ) (queue more : List ℕ) → index ≡ place_of message counts
    → ((i : ℕ) → holds more i ≡ ((index == i) || holds queue i))
    → ((i : ℕ) → is_uneven_at counts i ≡ true → holds queue i ≡ true)
    → (i : ℕ) → is_uneven_at (insert_entry is_same_message counts message now) i ≡ true → holds more i ≡ true
queued-pushed message now counts index queue more at pushed queued i is = pushed i ∙ by (i == place_of message counts) refl
  where
    by : (b : Bool) → (i == place_of message counts) ≡ b → ((index == i) || holds queue i) ≡ true
    by true e = or_left (index == i) (holds queue i) (eq-eqb index i (at ∙ sym (eqb-true i (place_of message counts) e)))
    by false e = or_right (index == i) (holds queue i)
        (queued i (sym (uneven-one message now counts i ∙ ap (λ b. cond b (not (is_even now)) (is_uneven_at counts i)) e) ∙ is))

-- ---- the first that waits

-- The first may go where it is even.
pub queued-popped : (counts : Entries) (old new : List ℕ) (index : ℕ) (popped : Option ℕ) → IsLeast old index → is_uneven_at counts index ≡ false
    → IfSome popped (IsLeast old) → IfSome popped (λ first. (i : ℕ) → holds old i ≡ ((first == i) || holds new i)) → IfNone popped (old ≡ [])
    → ((i : ℕ) → is_uneven_at counts i ≡ true → holds old i ≡ true) → (i : ℕ) → is_uneven_at counts i ≡ true → holds new i ≡ true
queued-popped counts old new index None least even is holds-old none queued i uneven =
    absurd (true≢false (sym least.held ∙ ap (λ queue. holds queue index) none))
queued-popped counts old new index (Some first) least even is held none queued i uneven =
    elim (or_cases (first == i) (holds new i) (sym (held i) ∙ queued i uneven)) [
      | inl same ↦
          (let one = is.least index least.held in
          let other = least.least first is.held in
          let at : index ≡ i = (let same' = eqb-true first i same in omega arith) in
          absurd (true≢false (sym uneven ∙ ap (is_uneven_at counts) (sym at) ∙ even)))
      | inr still ↦ still
    ]

pub shrinks-popped : (old new : List ℕ) (index : ℕ) (popped : Option ℕ) → IsLeast old index → OnSome popped (length new < length old) → IfNone popped (old ≡ [])
    → length new < length old
shrinks-popped old new index None least shrinks none = absurd (true≢false (sym least.held ∙ ap (λ queue. holds queue index) none))
shrinks-popped old new index (Some first) least shrinks none = shrinks

pub settled-at : (counts : Entries) (queue : List ℕ) (index : ℕ) → IsLeast queue index → is_uneven_at counts index ≡ true → IsSettled counts queue
settled-at counts queue index least uneven = λ i is.
    let le = least.least i is.held in
    let ge = is.least index least.held in
    let same : index ≡ i = omega arith in
    ap (is_uneven_at counts) (sym same) ∙ uneven

pub settled-none : (counts : Entries) (queue : List ℕ) → queue ≡ [] → IsSettled counts queue
settled-none counts queue none = λ i is. absurd (true≢false (sym is.held ∙ ap (λ q. holds q i) none))

-- ---- the first uneven message

find-agree : {A : Type 0} (f g : A → Bool) (xs : List A) → ((i : ℕ) (x : A) → slice_get xs i ≡ Some x → f x ≡ g x) → find f xs ≡ find g xs
find-agree f g [] agree = refl
find-agree f g (x ∷ xs) agree = (λ j. cond (agree 0 x refl j) (Some x) (find-agree f g xs (λ i. agree (suc i)) j))

uneven-by-key : (counts : Entries) → IsDistinct is_same_message (keys_of counts)
    → find (λ entry. is_uneven_in counts entry.0) counts ≡ find (λ entry. not (is_even entry.1)) counts
uneven-by-key counts distinct = find-agree (λ entry. is_uneven_in counts entry.0) (λ entry. not (is_even entry.1)) counts
    (λ i entry at.
    let kept : lookup (is_same_message entry.0) counts ≡ Some entry.1 = lookup_from_place same_message-equiv counts i entry.0 entry.1 distinct at in
    (λ j. not (option_map_or (λ now. now.sent) (kept j) 0 == option_map_or (λ now. now.received) (kept j) 0)))

fails-at : (counts : Entries) (i : ℕ) (d : Message × Counts) → i < length counts → is_uneven_at counts i ≡ not (is_even (get_or counts i d).1)
fails-at counts i d within = ap (λ entry. option_map_or (λ e. not (is_even e.1)) entry false) (slice_get-get_or counts i d within)

uneven-within : (counts : Entries) (i : ℕ) → is_uneven_at counts i ≡ true → i < length counts
uneven-within counts i uneven =
    elim (cases_lt i (length counts)) [
      | inl within ↦ within
      | inr past ↦ absurd (true≢false (sym uneven ∙ ap (λ entry. option_map_or (λ e. not (is_even e.1)) entry false) (slice_get_past counts i past)))
    ]

-- the first of all that are uneven is at the least index that waits
pub uneven-first : (counts : Entries) (queue : List ℕ) (index : ℕ) → IsDistinct is_same_message (keys_of counts)
    → ((i : ℕ) → is_uneven_at counts i ≡ true → holds queue i ≡ true) → IsLeast queue index → is_uneven_at counts index ≡ true
    → option_map (λ entry. entry.1.first) (slice_get counts index) ≡ first_uneven counts
uneven-first [] queue index distinct queued least uneven = absurd (true≢false (sym uneven))
uneven-first (e ∷ es) queue index distinct queued least uneven =
    let counts : Entries = e ∷ es in
    let within : index < length counts = uneven-within counts index uneven in
    let place : position_or_len (λ entry. not (is_even entry.1)) counts ≡ index =
    position_or_len_is (λ entry. not (is_even entry.1)) counts index e (omega arith)
    (λ k below. sym (fails-at counts k e (omega arith)) ∙ false_from_ne_true (is_uneven_at counts k)
    (λ is. let le = least.least k (queued k is) in omega arith))
    (λ _. sym (fails-at counts index e within) ∙ uneven) in
    ap (option_map (λ entry. entry.1.first))
    (ap (slice_get counts) (sym place) ∙ sym (find_at (λ entry. not (is_even entry.1)) counts) ∙ sym (uneven-by-key counts distinct))

pub uneven-none : (counts : Entries) (queue : List ℕ) → IsDistinct is_same_message (keys_of counts)
    → ((i : ℕ) → is_uneven_at counts i ≡ true → holds queue i ≡ true) → queue ≡ [] → None ≡ first_uneven counts
uneven-none [] queue distinct queued none = refl
uneven-none (e ∷ es) queue distinct queued none =
    let counts : Entries = e ∷ es in
    let place : position_or_len (λ entry. not (is_even entry.1)) counts ≡ length counts =
    position_or_len_is (λ entry. not (is_even entry.1)) counts (length counts) e (omega arith)
    (λ k below. sym (fails-at counts k e below) ∙ false_from_ne_true (is_uneven_at counts k)
    (λ is. true≢false (sym (queued k is) ∙ ap (λ q. holds q k) none)))
    (λ above. absurd (omega arith)) in
    ap (option_map (λ entry. entry.1.first))
    (sym (slice_get_past counts (length counts) (omega arith)) ∙ ap (slice_get counts) (sym place)
    ∙ sym (find_at (λ entry. not (is_even entry.1)) counts) ∙ sym (uneven-by-key counts distinct))
