-- What one spend asks of the list that it stands in, and makes for it. Source: this project's own.
use Rattle.std.specs.Prelude.{ℕ, List, [], ◌∷◌, ◌++◌, map}
use Rattle.coin_facts.specs.declared.coin.Coin.{Coin}
use Rattle.coin_facts.specs.CoinId.{coin_id}
use Rattle.cond_spec.specs.declared.condition.Condition.{Condition}
use Rattle.cond_spec.specs.declared.condition.Condition.TheVariants.{CreateCoin, ReserveFee, CreateCoinAnnouncement, AssertCoinAnnouncement, CreatePuzzleAnnouncement, AssertPuzzleAnnouncement, AssertConcurrentSpend, AssertConcurrentPuzzle, AssertEphemeral}
use Rattle.cond_spec.specs.Acts.{Acts, announcement}
use Rattle.cond_spec.specs.Messages.{Message, sent, received}
use Rattle.cond_rules.specs.declared.letter.Way.{Way}
use Rattle.cond_rules.specs.declared.letter.Way.TheVariants.{Sent, Received}
use Rattle.cond_rules.specs.declared.letter.Letter.{Letter}
use Rattle.cond_rules.specs.declared.want.Want.{Want}
use Rattle.cond_rules.specs.declared.want.Want.TheVariants.{CoinAnnouncement, PuzzleAnnouncement, Spend, Puzzle, Creation}

-- ---- of one condition

abbrev pub announcement_asked : Coin → Condition → List Want
announcement_asked coin (AssertCoinAnnouncement hash) = CoinAnnouncement hash ∷ []
announcement_asked coin (AssertPuzzleAnnouncement hash) = PuzzleAnnouncement hash ∷ []
announcement_asked coin _ = []

abbrev pub announcement_made : Coin → Condition → List Want
announcement_made coin (CreateCoinAnnouncement text) = CoinAnnouncement (announcement (coin_id coin) text) ∷ []
announcement_made coin (CreatePuzzleAnnouncement text) = PuzzleAnnouncement (announcement coin.puzzle_hash text) ∷ []
announcement_made coin _ = []

abbrev pub spend_asked : Coin → Condition → List Want
spend_asked coin (AssertConcurrentSpend id) = Spend id ∷ []
spend_asked coin (AssertConcurrentPuzzle hash) = Puzzle hash ∷ []
spend_asked coin _ = []

abbrev pub creation_asked : Coin → Condition → List Want
creation_asked coin AssertEphemeral = Creation (coin_id coin) ∷ []
creation_asked coin _ = []

abbrev pub creation_made : Coin → Condition → List Want
creation_made coin (CreateCoin hash amount) = Creation (coin_id (record { parent = coin_id coin; puzzle_hash = hash; amount = amount })) ∷ []
creation_made coin _ = []

abbrev pub letter : Way → Message → Letter
letter way message = record { way = way; message = message }

abbrev pub letters_given : Coin → Condition → List Letter
letters_given coin condition = map (letter Sent) (sent coin condition) ++ map (letter Received) (received coin condition)

-- what a condition claims of the spent amounts
abbrev pub claim : Condition → ℕ
claim (CreateCoin hash amount) = amount
claim (ReserveFee amount) = amount
claim _ = 0

-- ---- of the spend itself

abbrev pub spend_made : Coin → List Want
spend_made coin = Spend (coin_id coin) ∷ Puzzle coin.puzzle_hash ∷ []

abbrev pub spends_made : Acts → List Want
spends_made acts = spend_made acts.coin
