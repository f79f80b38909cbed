-- Messages between the spends of a list. Source: CHIP-0025.
use Rattle.std.specs.Prelude.{ℕ, ◌==◌, ◌&&◌, List, [], ◌∷◌, ◌++◌, Bool, count_by}
use Rattle.std.specs.Str.{bytes_eq}
use Rattle.std.specs.Option.{option_eq}
use Rattle.coin_facts.specs.declared.coin.Coin.{Coin}
use Rattle.coin_facts.specs.IdLists.{is_same_id}
use Rattle.cond_spec.specs.declared.condition.Condition.{Condition}
use Rattle.cond_spec.specs.declared.condition.Condition.TheVariants.{SendMessage, ReceiveMessage}
use Rattle.cond_spec.specs.declared.party.Party.{Party}
use Rattle.cond_spec.specs.Parties.{sender_side, receiver_side, party_of}
use Rattle.cond_spec.specs.Acts.{Acts, of_spend, of_list}

pub record Message : Type 0 where
  pub mode : ℕ
  pub text : List ℕ
  pub sender : Party
  pub receiver : Party

abbrev pub is_same_number : ℕ → ℕ → Bool
is_same_number a b = a == b

abbrev pub is_same_party : Party → Party → Bool
is_same_party a b =
    option_eq is_same_id a.id b.id && option_eq is_same_id a.parent b.parent
    && option_eq is_same_id a.puzzle_hash b.puzzle_hash && option_eq is_same_number a.amount b.amount

abbrev pub is_same_message : Message → Message → Bool
is_same_message a b =
    a.mode == b.mode && bytes_eq a.text b.text && is_same_party a.sender b.sender && is_same_party a.receiver b.receiver

-- 66 sends and 67 receives a message, whose own side tells of the spent coin.
abbrev pub sent : Coin → Condition → List Message
sent coin (SendMessage mode text receiver) =
    record { mode = mode; text = text; sender = party_of (sender_side mode) coin; receiver = receiver } ∷ []
sent coin _ = []

abbrev pub received : Coin → Condition → List Message
received coin (ReceiveMessage mode text sender) =
    record { mode = mode; text = text; sender = sender; receiver = party_of (receiver_side mode) coin } ∷ []
received coin _ = []

-- the messages of one spend, sent or received
abbrev pub messages : Acts → List Message
messages acts = of_spend sent acts ++ of_spend received acts

-- how often a message is sent or received, by what gives it of each condition
abbrev pub times : (Coin → Condition → List Message) → List Acts → Message → ℕ
times given list message = count_by (is_same_message message) (of_list given list)
