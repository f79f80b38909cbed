-- Messages that are the same are equal: the laws of `==` and of `Hash`. Source: this project's own.
use Rattle.std.proofs.Common.{◌≡◌, ℕ, ◌&&◌, Bool, true, false, Option, Some, None, List, refl, sym, ap, subst, ◌∙◌, true≢false}
use Rattle.std.specs.Bool.{Decides}
use Rattle.std.specs.Cmp.{IsEquivalence, first_so, second_so, both_ways, unsigned_Decides}
use Rattle.std.specs.Option.{option_eq}
use Rattle.std.specs.Str.{bytes_eq}
use Rattle.std.proofs.lemmas.Slice.Eq.{bytes_eq-Decides}
use Rattle.coin_facts.specs.declared.hash32.Hash32.{Hash32}
use Rattle.coin_facts.specs.IdLists.{is_same_id}
use Rattle.cond_spec.specs.declared.party.Party.{Party}
use Rattle.cond_spec.specs.Messages.{Message, is_same_number, is_same_party, is_same_message}
use Rattle.cond_rules.specs.MessageHash.{message_input}

-- ---- sameness is equality

same_id-is : (a b : Hash32) → is_same_id a b ≡ true → a ≡ b
same_id-is a b same = λ i. record { bytes = (bytes_eq-Decides a.bytes b.bytes).0 same i }

option-is : {A : Type 0} (same : A → A → Bool) → ((a b : A) → same a b ≡ true → a ≡ b) → (a b : Option A) → option_eq same a b ≡ true → a ≡ b
option-is same is None None e = refl
option-is same is None (Some b) e = absurd (true≢false (sym e))
option-is same is (Some a) None e = absurd (true≢false (sym e))
option-is same is (Some a) (Some b) e = ap Some (is a b e)

same_party-is : (a b : Party) → is_same_party a b ≡ true → a ≡ b
same_party-is a b same =
    let ids = option_eq is_same_id a.id b.id in
    let parents = option_eq is_same_id a.parent b.parent in
    let puzzles = option_eq is_same_id a.puzzle_hash b.puzzle_hash in
    let amounts = option_eq is_same_number a.amount b.amount in
    let three = first_so (ids && parents && puzzles) amounts same in
    let two = first_so (ids && parents) puzzles three in
    λ i. record {
      id = option-is is_same_id same_id-is a.id b.id (first_so ids parents two) i;
      parent = option-is is_same_id same_id-is a.parent b.parent (second_so ids parents two) i;
      puzzle_hash = option-is is_same_id same_id-is a.puzzle_hash b.puzzle_hash (second_so (ids && parents) puzzles three) i;
      amount = option-is is_same_number (λ x y. (unsigned_Decides x y).0) a.amount b.amount (second_so (ids && parents && puzzles) amounts same) i;
    }

pub same_message-is : (a b : Message) → is_same_message a b ≡ true → a ≡ b
same_message-is a b same =
    let modes = is_same_number a.mode b.mode in
    let texts = bytes_eq a.text b.text in
    let senders = is_same_party a.sender b.sender in
    let receivers = is_same_party a.receiver b.receiver in
    let three = first_so (modes && texts && senders) receivers same in
    let two = first_so (modes && texts) senders three in
    λ i. record {
      mode = (unsigned_Decides a.mode b.mode).0 (first_so modes texts two) i;
      text = (bytes_eq-Decides a.text b.text).0 (second_so modes texts two) i;
      sender = same_party-is a.sender b.sender (second_so (modes && texts) senders three) i;
      receiver = same_party-is a.receiver b.receiver (second_so (modes && texts && senders) receivers same) i;
    }

-- ---- and equal ones are the same

same_id-refl : (a : Hash32) → is_same_id a a ≡ true
same_id-refl a = (bytes_eq-Decides a.bytes a.bytes).1 refl

option-refl : {A : Type 0} (same : A → A → Bool) → ((a : A) → same a a ≡ true) → (a : Option A) → option_eq same a a ≡ true
option-refl same is None = refl
option-refl same is (Some a) = is a

same_number-refl : (n : ℕ) → is_same_number n n ≡ true
same_number-refl n = (unsigned_Decides n n).1 refl

same_party-refl : (a : Party) → is_same_party a a ≡ true
same_party-refl a =
    λ i. option-refl is_same_id same_id-refl a.id i && option-refl is_same_id same_id-refl a.parent i
    && option-refl is_same_id same_id-refl a.puzzle_hash i && option-refl is_same_number same_number-refl a.amount i

pub same_message-refl : (a : Message) → is_same_message a a ≡ true
same_message-refl a =
    λ i. same_number-refl a.mode i && (bytes_eq-Decides a.text a.text).1 refl i && same_party-refl a.sender i && same_party-refl a.receiver i

pub same_message-Decides : (a b : Message) → Decides (is_same_message a b) (a ≡ b)
same_message-Decides a b = (same_message-is a b, λ e. subst (λ other. is_same_message a other ≡ true) e (same_message-refl a))

-- ---- the laws of the keys of a map

pub same_message-sym : (a b : Message) → is_same_message a b ≡ is_same_message b a
same_message-sym a b =
    both_ways (is_same_message a b) (is_same_message b a) (λ e. (same_message-Decides b a).1 (sym (same_message-is a b e))) (λ e. (same_message-Decides a b).1 (sym (same_message-is b a e)))

pub same_message-equiv : IsEquivalence is_same_message
same_message-equiv = record {
  refl = same_message-refl;
  symm = same_message-sym;
  congr = λ a b c e. ap (λ m. is_same_message m c) (same_message-is a b e);
}

pub same_message-fed : (a b : Message) → is_same_message a b ≡ true → message_input a ≡ message_input b
same_message-fed a b e = ap message_input (same_message-is a b e)
