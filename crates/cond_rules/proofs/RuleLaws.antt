-- The rules by what a tally keeps of spends are those by coins and conditions.
use Rattle.std.proofs.Common.{◌≡◌, ℕ, ◌+◌, ◌==◌, ◌||◌, not, nat_lt, Bool, false, cond, List, [], ◌∷◌, ◌++◌, length, map, Option, None, refl, ap, sym, ◌∙◌, arith}
use Rattle.std.specs.Prelude.{position, count_by}
use Rattle.std.specs.List.{list_any, sum_by, flat_map}
use Rattle.std.proofs.lemmas.List.Folds.{list_any-append}
use Rattle.coin_facts.specs.declared.hash32.Hash32.{Hash32}
use Rattle.coin_facts.specs.declared.coin.Coin.{Coin}
use Rattle.coin_facts.specs.CoinId.{coin_id}
use Rattle.coin_facts.specs.IdLists.{is_same_id, is_among}
use Rattle.coin_facts.specs.Steps.{when}
use Rattle.cond_spec.specs.declared.condition.Condition.{Condition}
use Rattle.cond_spec.specs.declared.condition.Condition.TheVariants.{CreateCoin, SendMessage, ReceiveMessage, CreateCoinAnnouncement, CreatePuzzleAnnouncement, AssertCoinAnnouncement, AssertPuzzleAnnouncement, AssertConcurrentSpend, AssertConcurrentPuzzle, AssertEphemeral}
use Rattle.cond_spec.specs.Acts.{Acts, of_spend, of_list, announcement, coin_announcement, coin_announcements, puzzle_announcement, puzzle_announcements, coin_made, created_ids, spent_ids, spent_puzzles}
use Rattle.cond_spec.specs.ActRules.{first_with, is_unmade, is_absent, is_born_before, is_uneven, unmade_announcement, absent_spend, not_ephemeral, uneven_message, lacks_reserved_fee}
use Rattle.cond_spec.specs.Messages.{Message, is_same_message, sent, received, messages, times}
use Rattle.judge_spec.specs.declared.rule.Rule.TheVariants.{UnmadeAnnouncement, AbsentSpend, NotEphemeral, UnevenMessage, LacksReservedFee}
use Rattle.cond_spec.specs.Parties.{sender_side, party_of}
use Rattle.cond_rules.specs.declared.letter.Way.{Way}
use Rattle.cond_rules.specs.declared.letter.Way.TheVariants.{Sent, Received}
use Rattle.cond_rules.specs.declared.letter.Letter.{Letter}
use Rattle.cond_rules.specs.declared.letters.Counts.{Counts}
use Rattle.cond_rules.specs.declared.want.Want.{Want}
use Rattle.cond_rules.specs.declared.want.Want.TheVariants.{CoinAnnouncement, PuzzleAnnouncement, Spend, Puzzle, Creation}
use Rattle.cond_rules.specs.FirstBroken.{broken_or, first_broken}
use Rattle.cond_rules.specs.Deeds.{announcement_asked, announcement_made, spend_asked, spends_made, creation_asked, creation_made, letter, letters_given}
use Rattle.cond_rules.specs.Wants.{Wanted, is_same_want, is_made, first_open, AreWantsOf}
use Rattle.cond_rules.specs.Letters.{is_same_letter, is_any, is_uneven_in, first_uneven, AreLettersOf}
use Rattle.cond_rules.specs.TallySeen.{Tallied}
use Rattle.cond_rules.specs.Rules.{lacking, broken_in}
use Rattle.cond_rules.specs.Tallies.{IsTallyOf}
use Rattle.cond_rules.proofs.ListLaws.{any-flat, any-both, any-map, map-flat, sum-flat, or_false}
use Rattle.cond_rules.proofs.WantLaws.{same_id-sym, open-first}

-- ---- what a list makes

made-each : (given : Coin → Condition → List Want) (ids : Coin → Condition → List Hash32) (want : Want) (hash : Hash32)
    → ((coin : Coin) (c : Condition) → is_made (given coin c) want ≡ is_among (ids coin c) hash)
    → (list : List Acts) → is_made (flat_map (of_spend given) list) want ≡ is_among (of_list ids list) hash
made-each given ids want hash same list =
    any-flat (is_same_want want) (of_spend given) list
    ∙ (λ i. list_any (λ acts. any-flat (is_same_want want) (given acts.coin) acts.conditions i) list)
    ∙ (λ i. list_any (λ acts. list_any (λ c. same acts.coin c i) acts.conditions) list)
    ∙ sym (any-flat (λ other. is_same_id other hash) (of_spend ids) list
    ∙ (λ i. list_any (λ acts. any-flat (λ other. is_same_id other hash) (ids acts.coin) acts.conditions i) list))

turned : (a b : Hash32) → (is_same_id a b || false) ≡ (is_same_id b a || false)
turned a b = ap (λ same. same || false) (same_id-sym a b)

as-coin : (hash : Hash32) (coin : Coin) (c : Condition) → is_made (announcement_made coin c) (CoinAnnouncement hash) ≡ is_among (coin_announcement coin c) hash
as-coin hash coin (CreateCoinAnnouncement text) = turned hash (announcement (coin_id coin) text)
as-coin hash coin (CreatePuzzleAnnouncement text) = refl
as-coin hash coin _ = refl

as-puzzle : (hash : Hash32) (coin : Coin) (c : Condition) → is_made (announcement_made coin c) (PuzzleAnnouncement hash) ≡ is_among (puzzle_announcement coin c) hash
as-puzzle hash coin (CreateCoinAnnouncement text) = refl
as-puzzle hash coin (CreatePuzzleAnnouncement text) = turned hash (announcement coin.puzzle_hash text)
as-puzzle hash coin _ = refl

created_by : Coin → Condition → List Hash32
created_by coin condition = map coin_id (coin_made coin condition)

created : (id : Hash32) (coin : Coin) (c : Condition) → is_made (creation_made coin c) (Creation id) ≡ is_among (created_by coin c) id
unfolding created_by
created id coin (CreateCoin hash amount) = turned id (coin_id (record { parent = coin_id coin; puzzle_hash = hash; amount = amount }))
created id coin _ = refl

created-ids : (list : List Acts) → of_list created_by list ≡ created_ids list
unfolding created_by
created-ids list = sym (map-flat coin_id (of_spend coin_made) list ∙ (λ i. flat_map (λ acts. map-flat coin_id (coin_made acts.coin) acts.conditions i) list))

spent-id : (list : List Acts) (id : Hash32) → is_made (flat_map spends_made list) (Spend id) ≡ is_among (spent_ids list) id
spent-id list id =
    any-flat (is_same_want (Spend id)) spends_made list
    ∙ (λ i. list_any (λ acts. (or_false (is_same_id id (coin_id acts.coin)) ∙ same_id-sym id (coin_id acts.coin)) i) list)
    ∙ sym (any-map (λ other. is_same_id other id) (λ acts. coin_id acts.coin) list)

spent-puzzle : (list : List Acts) (hash : Hash32) → is_made (flat_map spends_made list) (Puzzle hash) ≡ is_among (spent_puzzles list) hash
spent-puzzle list hash =
    any-flat (is_same_want (Puzzle hash)) spends_made list
    ∙ (λ i. list_any (λ acts. (or_false (is_same_id hash acts.coin.puzzle_hash) ∙ same_id-sym hash acts.coin.puzzle_hash) i) list)
    ∙ sym (any-map (λ other. is_same_id other hash) (λ acts. acts.coin.puzzle_hash) list)

-- ---- what a condition asks

is_unmet : (Acts → List Want) → List Acts → Want → Bool
is_unmet made list want = not (is_made (flat_map made list) want)

asks-first : (asked : Coin → Condition → List Want) (test : Want → Bool) (rule : Coin → Condition → Bool)
    → ((coin : Coin) (c : Condition) → list_any test (asked coin c) ≡ rule coin c)
    → (list : List Acts) → position (λ acts. list_any test (of_spend asked acts)) list ≡ first_with rule list
asks-first asked test rule same list =
    (λ i. position (λ acts. any-flat test (asked acts.coin) acts.conditions i) list)
    ∙ (λ i. position (λ acts. list_any (λ c. same acts.coin c i) acts.conditions) list)

unmade : (list : List Acts) (coin : Coin) (c : Condition) → list_any (is_unmet (of_spend announcement_made) list) (announcement_asked coin c) ≡ is_unmade list c
unfolding is_unmet
unmade list coin (AssertCoinAnnouncement hash) =
    or_false (not (is_made (flat_map (of_spend announcement_made) list) (CoinAnnouncement hash)))
    ∙ ap not (made-each announcement_made coin_announcement (CoinAnnouncement hash) hash (as-coin hash) list)
unmade list coin (AssertPuzzleAnnouncement hash) =
    or_false (not (is_made (flat_map (of_spend announcement_made) list) (PuzzleAnnouncement hash)))
    ∙ ap not (made-each announcement_made puzzle_announcement (PuzzleAnnouncement hash) hash (as-puzzle hash) list)
unmade list coin _ = refl

absent : (list : List Acts) (coin : Coin) (c : Condition) → list_any (is_unmet spends_made list) (spend_asked coin c) ≡ is_absent list c
unfolding is_unmet
absent list coin (AssertConcurrentSpend id) = or_false (not (is_made (flat_map spends_made list) (Spend id))) ∙ ap not (spent-id list id)
absent list coin (AssertConcurrentPuzzle hash) = or_false (not (is_made (flat_map spends_made list) (Puzzle hash))) ∙ ap not (spent-puzzle list hash)
absent list coin _ = refl

born : (list : List Acts) (coin : Coin) (c : Condition) → list_any (is_unmet (of_spend creation_made) list) (creation_asked coin c) ≡ is_born_before list coin c
unfolding is_unmet
born list coin AssertEphemeral =
    or_false (not (is_made (flat_map (of_spend creation_made) list) (Creation (coin_id coin))))
    ∙ ap not (made-each creation_made created_by (Creation (coin_id coin)) (coin_id coin) (created (coin_id coin)) list ∙ ap (λ ids. is_among ids (coin_id coin)) (created-ids list))
born list coin _ = refl

unmade-is : (wanted : Wanted) (list : List Acts) → AreWantsOf (of_spend announcement_asked) (of_spend announcement_made) wanted list → first_open wanted ≡ unmade_announcement list
unfolding is_unmet
unmade-is wanted list are =
    open-first (of_spend announcement_asked) (of_spend announcement_made) wanted list are
    ∙ asks-first announcement_asked (is_unmet (of_spend announcement_made) list) (λ coin. is_unmade list) (unmade list) list

absent-is : (wanted : Wanted) (list : List Acts) → AreWantsOf (of_spend spend_asked) spends_made wanted list → first_open wanted ≡ absent_spend list
unfolding is_unmet
absent-is wanted list are =
    open-first (of_spend spend_asked) spends_made wanted list are
    ∙ asks-first spend_asked (is_unmet spends_made list) (λ coin. is_absent list) (absent list) list

born-is : (wanted : Wanted) (list : List Acts) → AreWantsOf (of_spend creation_asked) (of_spend creation_made) wanted list → first_open wanted ≡ not_ephemeral list
unfolding is_unmet
born-is wanted list are =
    open-first (of_spend creation_asked) (of_spend creation_made) wanted list are
    ∙ asks-first creation_asked (is_unmet (of_spend creation_made) list) (is_born_before list) (born list) list

-- ---- messages

count-sent : (message : Message) (coin : Coin) (c : Condition)
    → count_by (is_same_letter (letter Sent message)) (letters_given coin c) ≡ count_by (is_same_message message) (sent coin c)
count-sent message coin (SendMessage mode text receiver) = refl
count-sent message coin (ReceiveMessage mode text sender) = refl
count-sent message coin _ = refl

count-received : (message : Message) (coin : Coin) (c : Condition)
    → count_by (is_same_letter (letter Received message)) (letters_given coin c) ≡ count_by (is_same_message message) (received coin c)
count-received message coin (SendMessage mode text receiver) = refl
count-received message coin (ReceiveMessage mode text sender) = refl
count-received message coin _ = refl

times-of : (way : Way) (given : Coin → Condition → List Message) (message : Message)
    → ((coin : Coin) (c : Condition) → count_by (is_same_letter (letter way message)) (letters_given coin c) ≡ count_by (is_same_message message) (given coin c))
    → (list : List Acts) → count_by (is_same_letter (letter way message)) (flat_map (of_spend letters_given) list) ≡ times given list message
times-of way given message same list =
    let passes : Letter → ℕ = λ other. cond (is_same_letter (letter way message) other) 1 0 in
    let counts : Message → ℕ = λ other. cond (is_same_message message other) 1 0 in
    sum-flat passes (of_spend letters_given) list
    ∙ (λ i. sum_by (λ acts. sum-flat passes (letters_given acts.coin) acts.conditions i) list)
    ∙ (λ i. sum_by (λ acts. sum_by (λ c. same acts.coin c i) acts.conditions) list)
    ∙ sym (sum-flat counts (of_spend given) list ∙ (λ i. sum_by (λ acts. sum-flat counts (given acts.coin) acts.conditions i) list))

uneven : (counts : List (Message × Counts)) (list : List Acts) → AreLettersOf (of_spend letters_given) counts list
    → (message : Message) → is_uneven_in counts message ≡ is_uneven list message
uneven counts list are message =
    let sends = are.times (letter Sent message) ∙ times-of Sent sent message (count-sent message) list in
    let receives = are.times (letter Received message) ∙ times-of Received received message (count-received message) list in
    (λ i. not (sends i == receives i))

any-given : (test : Message → Bool) (coin : Coin) (c : Condition)
    → is_any test (letters_given coin c) ≡ (list_any test (sent coin c) || list_any test (received coin c))
any-given test coin (SendMessage mode text receiver) = sym (or_false (test (record { mode = mode; text = text; sender = party_of (sender_side mode) coin; receiver = receiver }) || false))
any-given test coin (ReceiveMessage mode text sender) = refl
any-given test coin _ = refl

any-messages : (test : Message → Bool) (acts : Acts) → is_any test (of_spend letters_given acts) ≡ list_any test (messages acts)
any-messages test acts =
    any-flat (λ one. test one.message) (letters_given acts.coin) acts.conditions
    ∙ (λ i. list_any (λ c. any-given test acts.coin c i) acts.conditions)
    ∙ any-both (λ c. list_any test (sent acts.coin c)) (λ c. list_any test (received acts.coin c)) acts.conditions
    ∙ sym (list_any-append test (of_spend sent acts) (of_spend received acts)
    ∙ (λ i. any-flat test (sent acts.coin) acts.conditions i || any-flat test (received acts.coin) acts.conditions i))

uneven-is : (counts : List (Message × Counts)) (list : List Acts) → AreLettersOf (of_spend letters_given) counts list
    → first_uneven counts ≡ uneven_message list
uneven-is counts list are =
    are.first (is_uneven_in counts)
    ∙ (λ i. position (λ acts. any-messages (is_uneven_in counts) acts i) list)
    ∙ (λ i. position (λ acts. list_any (λ message. uneven counts list are message i) (messages acts)) list)

-- ---- the first of the rules

lacks-is : (tally : Tallied) (list : List Acts) → IsTallyOf tally list → lacking tally ≡ lacks_reserved_fee list
lacks-is tally list is = (λ i. when (nat_lt (is.spent i) (is.claims i)) (is.count i))

pub broken-is : (tally : Tallied) (list : List Acts) → IsTallyOf tally list → broken_in tally ≡ first_broken list
broken-is tally list is =
    let unmade = unmade-is tally.announcements list is.announcements in
    let absent = absent-is tally.spends list is.spends in
    let born = born-is tally.creations list is.creations in
    let messages = uneven-is tally.letters list is.letters in
    let lacks = lacks-is tally list is in
    (λ i. broken_or UnmadeAnnouncement (unmade i) (broken_or AbsentSpend (absent i) (broken_or NotEphemeral (born i)
    (broken_or UnevenMessage (messages i) (broken_or LacksReservedFee (lacks i) None)))))
