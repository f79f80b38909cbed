-- The entries of a map whose keys are the ids of their records' coins: found, grown, marked and shortened.
use Rattle.std.proofs.Common.{◌≡◌, ℕ, zero, suc, ◌+◌, ◌-◌, ◌<◌, Bool, true, false, ◌||◌, cond, List, [], ◌∷◌, ◌++◌, map, length, take, get_or, Option, Some, None, refl, ap, sym, subst, ◌∙◌, arith}
use Rattle.std.specs.Cmp.{nat_eq_equiv}
use Rattle.std.specs.Cmp.Lexicographic.{lists_equiv}
use Rattle.std.specs.List.{find, IsDistinct, AllByRecursion}
use Rattle.std.specs.Map.{lookup, keys_of, values_of, set_value}
use Rattle.std.specs.Prelude.{slice_get}
use Rattle.std.specs.Option.{option_to_list, is_some}
use Rattle.std.proofs.lemmas.Bool.{false≢true, or_parts}
use Rattle.std.proofs.lemmas.List.{map-append, length-append, append-nil}
use Rattle.std.proofs.Math.Seq.{take-append_seam}
use Rattle.coin_facts.specs.declared.hash32.Hash32.{Hash32}
use Rattle.coin_facts.specs.declared.coin.Coin.{Coin}
use Rattle.coin_facts.specs.contracts.hash32.Hash32PartialEq.TheImpl.{eq-value}
use Rattle.coin_facts.specs.CoinId.{coin_id}
use Rattle.coin_facts.specs.IdLists.{is_same_id, has_id, is_among}
use Rattle.chain_spec.specs.declared.chain.Record.{Record}
use Rattle.chain_spec.specs.ChainLaws.{ids_of}
use Rattle.chain_spec.proofs.LookLaws.{same-id}
use Rattle.chain_store.specs.RecordsView.{found_in, keyed}
use Rattle.chain_store.specs.Marks.{marked, without_last}

-- the keys' `==` is that of ids, whichever of the two comes first
key_eq-has_id : (id : Hash32) (coin : Coin) → eq-value.it id (coin_id coin) ≡ has_id id coin
key_eq-has_id id coin = (lists_equiv nat_eq_equiv).symm id.bytes (coin_id coin).bytes

lookup-keyed : (id : Hash32) (list : List Record) → lookup (eq-value.it id) (map keyed list) ≡ found_in list id
lookup-keyed id [] = refl
lookup-keyed id (one ∷ list) = λ j. cond (key_eq-has_id id one.coin j) (Some one) (lookup-keyed id list j)

pub keys-keyed : (list : List Record) → keys_of (map keyed list) ≡ ids_of list
keys-keyed [] = refl
keys-keyed (one ∷ list) = ap (λ ids. coin_id one.coin ∷ ids) (keys-keyed list)

values-keyed : (list : List Record) → values_of (map keyed list) ≡ list
values-keyed [] = refl
values-keyed (one ∷ list) = ap (λ others. one ∷ others) (values-keyed list)

-- entries that show a list, each with its coin's id
pub record Shows (entries : List (Hash32 × Record)) (list : List Record) : Type 0 where
  pub values : values_of entries ≡ list
  pub keyed : entries ≡ map keyed (values_of entries)

pub shows-keyed : (entries : List (Hash32 × Record)) (list : List Record) → entries ≡ map keyed list → Shows entries list
shows-keyed entries list is =
    let values : values_of entries ≡ list = ap values_of is ∙ values-keyed list in
    record { values = values; keyed = is ∙ ap (map keyed) (sym values) }

pub lookup-shown : (entries : List (Hash32 × Record)) (id : Hash32) → entries ≡ map keyed (values_of entries) → lookup (eq-value.it id) entries ≡ found_in (values_of entries) id
lookup-shown entries id held = ap (lookup (eq-value.it id)) held ∙ lookup-keyed id (values_of entries)

-- ---- one more

pub keyed-push : (entries : List (Hash32 × Record)) (one : Record) → entries ≡ map keyed (values_of entries)
    → entries ++ keyed one ∷ [] ≡ map keyed (values_of entries ++ one ∷ [])
keyed-push entries one held = ap (λ es. es ++ keyed one ∷ []) held ∙ sym (map-append keyed (values_of entries) (one ∷ []))

-- ---- one marked

not-marked : (spent : Option ℕ) (id : Hash32) (list : List Record) → AllByRecursion (λ other. is_same_id id other ≡ false) (ids_of list) → map (marked spent (id ∷ [])) list ≡ list
not-marked spent id [] apart = refl
not-marked spent id (one ∷ list) apart =
    λ j. alone (is_same_id id (coin_id one.coin)) apart.0 j ∷ not-marked spent id list apart.1 j
  where
    alone : (is : Bool) → is ≡ false → cond (is || false) (record one { spent = spent }) one ≡ one
    alone true e = absurd (false≢true (sym e))
    alone false e = refl

mark-first : (spent : Option ℕ) (id : Hash32) (found : Record) (list : List Record) → IsDistinct is_same_id (ids_of list) → found_in list id ≡ Some found
    → set_value (eq-value.it id) (map keyed list) (record found { spent = spent }) ≡ map keyed (map (marked spent (id ∷ [])) list)
unfolding IsDistinct
mark-first spent id found [] distinct e = cc
mark-first spent id found (one ∷ list) distinct e = by_test (is_same_id id (coin_id one.coin)) refl (mark-first spent id found list distinct.1)
  where
    the-one : (has : Bool) → has ≡ true → cond has (Some one) (found_in list id) ≡ Some found → one ≡ found
    the-one true is e = cc
    the-one false is e = cc

    others : (has : Bool) → has ≡ false → cond has (Some one) (found_in list id) ≡ Some found → found_in list id ≡ Some found
    others true is e = cc
    others false is e = e

    by_test : (is : Bool) → is_same_id id (coin_id one.coin) ≡ is
        → (found_in list id ≡ Some found → set_value (eq-value.it id) (map keyed list) (record found { spent = spent }) ≡ map keyed (map (marked spent (id ∷ [])) list))
        → cond (is_same_id id (coin_id one.coin)) ((coin_id one.coin, record found { spent = spent }) ∷ map keyed list) (keyed one ∷ set_value (eq-value.it id) (map keyed list) (record found { spent = spent }))
        ≡ keyed (cond (is_same_id id (coin_id one.coin) || false) (record one { spent = spent }) one) ∷ map keyed (map (marked spent (id ∷ [])) list)
    by_test true is more =
        let same : one ≡ found = the-one (has_id id one.coin) (sym (key_eq-has_id id one.coin) ∙ is) e in
        let apart : AllByRecursion (λ other. is_same_id id other ≡ false) (ids_of list) =
        subst (λ first. AllByRecursion (λ other. is_same_id first other ≡ false) (ids_of list)) (sym (same-id id (coin_id one.coin) is)) distinct.0 in
        ap (λ b. cond b ((coin_id one.coin, record found { spent = spent }) ∷ map keyed list) (keyed one ∷ set_value (eq-value.it id) (map keyed list) (record found { spent = spent }))) is
        ∙ ap (λ kept. (coin_id one.coin, record kept { spent = spent }) ∷ map keyed list) (sym same)
        ∙ ap (λ rest. (coin_id one.coin, record one { spent = spent }) ∷ map keyed rest) (sym (not-marked spent id list apart))
        ∙ sym (ap (λ b. keyed (cond (b || false) (record one { spent = spent }) one) ∷ map keyed (map (marked spent (id ∷ [])) list)) is)
    by_test false is more =
        let found_later : found_in list id ≡ Some found = others (has_id id one.coin) (sym (key_eq-has_id id one.coin) ∙ is) e in
        ap (λ b. cond b ((coin_id one.coin, record found { spent = spent }) ∷ map keyed list) (keyed one ∷ set_value (eq-value.it id) (map keyed list) (record found { spent = spent }))) is
        ∙ ap (λ rest. keyed one ∷ rest) (more found_later)
        ∙ sym (ap (λ b. keyed (cond (b || false) (record one { spent = spent }) one) ∷ map keyed (map (marked spent (id ∷ [])) list)) is)

-- none marked where there is none of the id
none-marked : (spent : Option ℕ) (id : Hash32) (list : List Record) → found_in list id ≡ None → map (marked spent (id ∷ [])) list ≡ list
none-marked spent id [] e = refl
none-marked spent id (one ∷ list) e =
    let parts = others (has_id id one.coin) e in
    let apart : is_same_id id (coin_id one.coin) ≡ false = key_eq-has_id id one.coin ∙ parts.0 in
    λ j. cond (apart j || false) (record one { spent = spent }) one ∷ none-marked spent id list parts.1 j
  where
    others : (has : Bool) → cond has (Some one) (found_in list id) ≡ None → (has ≡ false) × (found_in list id ≡ None)
    others true e = cc
    others false e = (refl, e)

module _ (entries : List (Hash32 × Record)) (held : entries ≡ map keyed (values_of entries)) (spent : Option ℕ) (id : Hash32) where
  -- The value at an id is marked.
  pub mark-shown : (found : Record) (after : List (Hash32 × Record)) → IsDistinct is_same_id (keys_of entries) → lookup (eq-value.it id) entries ≡ Some found
      → after ≡ set_value (eq-value.it id) entries (record found { spent = spent }) → Shows after (map (marked spent (id ∷ [])) (values_of entries))
  mark-shown found after distinct e is =
      let list = values_of entries in
      let apart : IsDistinct is_same_id (ids_of list) = subst (IsDistinct is_same_id) (ap keys_of held ∙ keys-keyed list) distinct in
      shows-keyed after (map (marked spent (id ∷ [])) list)
      (is ∙ ap (λ es. set_value (eq-value.it id) es (record found { spent = spent })) held
      ∙ mark-first spent id found list apart (sym (lookup-shown entries id held) ∙ e))

  -- There is none to be marked.
  pub none-shown : (after : List (Hash32 × Record)) → lookup (eq-value.it id) entries ≡ None → after ≡ entries → Shows after (map (marked spent (id ∷ [])) (values_of entries))
  none-shown after e is =
      let list = values_of entries in
      shows-keyed after (map (marked spent (id ∷ [])) list)
      (is ∙ held ∙ ap (map keyed) (sym (none-marked spent id list (sym (lookup-shown entries id held) ∙ e))))

-- ---- the last one gone

pub without-last-append : {A : Type 0} (xs ys : List A) (count : ℕ) → count ≡ length ys → without_last count (xs ++ ys) ≡ xs
without-last-append xs ys count is =
    let both = length-append xs ys in
    let front : length (xs ++ ys) - count ≡ length xs = omega (arith, both, is) in
    ap (λ n. take n (xs ++ ys)) front ∙ take-append_seam xs ys

pub empty-at-none : {A : Type 0} (list : List A) (last : Option A) → (0 < length list → is_some last ≡ true) → last ≡ None → length list ≡ 0
empty-at-none [] last found none = refl
empty-at-none (x ∷ list) last found none = absurd (false≢true (sym (ap is_some none) ∙ found (omega arith)))

pub pop-shown : (old new : List (Hash32 × Record)) (last : Option (Hash32 × Record)) → old ≡ map keyed (values_of old) → old ≡ new ++ option_to_list last
    → (last ≡ None → length old ≡ 0) → Shows new (without_last 1 (values_of old))
pop-shown old new None held is empty =
    let gone : old ≡ [] = nothing old (empty refl) in
    let new_gone : new ≡ [] = sym (append-nil new) ∙ sym is ∙ gone in
    shows-keyed new (without_last 1 (values_of old)) (new_gone ∙ ap (λ es. map keyed (without_last 1 (values_of es))) (sym gone))
  where
    nothing : (es : List (Hash32 × Record)) → length es ≡ 0 → es ≡ []
    nothing [] e = refl
    nothing (x ∷ es) e = absurd (omega (arith, e))
pop-shown old new (Some last) held is empty =
    let list = values_of old in
    let values : list ≡ values_of new ++ last.1 ∷ [] = ap values_of is ∙ map-append (λ e. e.1) new (last ∷ []) in
    let front : without_last 1 list ≡ values_of new = ap (without_last 1) values ∙ without-last-append (values_of new) (last.1 ∷ []) 1 refl in
    let both : new ++ last ∷ [] ≡ map keyed (values_of new) ++ keyed last.1 ∷ [] =
    sym is ∙ held ∙ ap (map keyed) values ∙ map-append keyed (values_of new) (last.1 ∷ []) in
    let new_held : new ≡ map keyed (values_of new) =
    sym (without-last-append new (last ∷ []) 1 refl) ∙ ap (without_last 1) both ∙ without-last-append (map keyed (values_of new)) (keyed last.1 ∷ []) 1 refl in
    record { values = sym front; keyed = new_held }

-- ---- by places

pub record IsAt (list : List Record) (place : ℕ) (one : Record) : Type 0 where
  pub within : place < length list
  pub is : one ≡ get_or list place one

pub value-at : (entries : List (Hash32 × Record)) (place : ℕ) (entry : Hash32 × Record) → slice_get entries place ≡ Some entry → IsAt (values_of entries) place entry.1
value-at [] place entry e = cc
value-at (first ∷ entries) zero entry e = let same : first ≡ entry = cc in record { within = omega arith; is = ap (λ x. x.1) (sym same) }
value-at (first ∷ entries) (suc place) entry e = let later = value-at entries place entry e in record { within = let lt = later.within in omega (arith, lt); is = later.is }
