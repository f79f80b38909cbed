-- A store that connects, undoes and reverts, computed: its records, its peak, its unspent coins and its changes.
use Rattle.std.proofs.Common.{◌≡◌, ℕ, Some, None, List, [], ◌∷◌, replicate, refl, sym, arith}
use Rattle.std.proofs.lemmas.Bool.{true≢false}
use Rattle.std.specs.Prelude.{option_map}
use Rattle.std.specs.List.{IsDistinct}
use Rattle.sha2.specs.Sha256.{sha256, digest_bytes, hash_after, compress, rounds, schedule, first_words}
use Rattle.clvm_spec.specs.Numbers.{without_sign_bytes, shortest_atom}
use Rattle.coin_facts.specs.declared.hash32.Hash32.{Hash32}
use Rattle.coin_facts.specs.declared.coin.Coin.{Coin}
use Rattle.coin_facts.specs.CoinId.{coin_id}
use Rattle.chain_spec.specs.declared.chain.Record.{Record}
use Rattle.chain_spec.specs.declared.chain.Unspent.TheVariants as unspent
use Rattle.chain_spec.specs.Chain.{Connected, ledger_of, records_of, peak_of}
use Rattle.chain_spec.specs.Looks.{unspent_of, part_of}
use Rattle.chain_spec.specs.Soundness.{CanConnect, IsSound}
use Rattle.chain_spec.specs.StoreViews.{StoreView, started, connected, undone, reverted}

-- ---- the parts

abbrev hash : ℕ → Hash32
hash byte = record { bytes = replicate 32 byte }

abbrev coin : ℕ → Coin
coin amount = record { parent = hash 0; puzzle_hash = hash 5; amount = amount }

abbrev child : ℕ → Coin
child amount = record { parent = coin_id (coin 1000); puzzle_hash = hash 5; amount = amount }

abbrev found : Coin → ℕ → ℕ → Record
found one height seconds = record { coin = one; height = height; seconds = seconds; spent = None }

abbrev gone : Coin → ℕ → ℕ → ℕ → Record
gone one height seconds at = record { coin = one; height = height; seconds = seconds; spent = Some at }

-- a chain of 50 seconds with coins of 1,000 and of 7
abbrev start : StoreView
start = record {
  chain = record { genesis = hash 0x11; seconds = 50; coins = coin 1000 ∷ coin 7 ∷ []; blocks = [] };
  changes = [];
  before = None;
}

-- It spends the coin of 1,000, and makes coins of 900 and of 7, of which it spends the first.
abbrev block : Connected
block = record {
  hash = hash 0x22;
  seconds = 100;
  spent = coin_id (coin 1000) ∷ coin_id (child 900) ∷ [];
  created = child 900 ∷ child 7 ∷ [];
}

abbrev one_block : StoreView
one_block = connected block start

-- a block with nothing
abbrev empty : Connected
empty = record { hash = hash 0x33; seconds = 101; spent = []; created = [] }

abbrev two_blocks : StoreView
two_blocks = connected empty one_block

abbrev touched : List Hash32
touched = coin_id (coin 1000) ∷ coin_id (child 900) ∷ coin_id (child 900) ∷ coin_id (child 7) ∷ []

-- ---- connected

start_records : records_of start.chain ≡ found (coin 1000) 0 50 ∷ found (coin 7) 0 50 ∷ []
start_records = refl

start_peak : peak_of start.chain ≡ record { height = 0; hash = hash 0x11; seconds = 50 }
start_peak = refl

records_after_a_block : records_of one_block.chain ≡ gone (coin 1000) 0 50 1 ∷ found (coin 7) 0 50 ∷ gone (child 900) 1 100 1 ∷ found (child 7) 1 100 ∷ []
unfolding sha256 digest_bytes hash_after compress rounds schedule first_words shortest_atom without_sign_bytes
records_after_a_block = refl

peak_after_two_blocks : peak_of two_blocks.chain ≡ record { height = 2; hash = hash 0x33; seconds = 101 }
peak_after_two_blocks = refl

changes_after_a_block : one_block.changes ≡ touched
changes_after_a_block = refl

-- ---- unspent coins

one_of_the_pair : unspent_of (ledger_of start.chain) (hash 5) 7 [] ≡ unspent.One (coin_id (coin 7))
one_of_the_pair = refl

several_of_the_pair : unspent_of (ledger_of one_block.chain) (hash 5) 7 [] ≡ unspent.Many
unfolding sha256 digest_bytes hash_after compress rounds schedule first_words shortest_atom without_sign_bytes
several_of_the_pair = refl

all_but_the_excepted : unspent_of (ledger_of one_block.chain) (hash 5) 7 (coin_id (coin 7) ∷ []) ≡ unspent.One (coin_id (child 7))
unfolding sha256 digest_bytes hash_after compress rounds schedule first_words shortest_atom without_sign_bytes
all_but_the_excepted = refl

none_that_is_unspent : unspent_of (ledger_of one_block.chain) (hash 5) 900 [] ≡ unspent.None
unfolding sha256 digest_bytes hash_after compress rounds schedule first_words shortest_atom without_sign_bytes
none_that_is_unspent = refl

an_asked_part : (part_of (coin_id (coin 1000) ∷ []) ((hash 5, 7) ∷ []) (ledger_of one_block.chain)).records ≡ gone (coin 1000) 0 50 1 ∷ found (coin 7) 0 50 ∷ found (child 7) 1 100 ∷ []
unfolding sha256 digest_bytes hash_after compress rounds schedule first_words shortest_atom without_sign_bytes
an_asked_part = refl

-- ---- undone and reverted

one_block_undone : option_map (λ view. view.chain) (undone 1 one_block) ≡ Some start.chain
one_block_undone = refl

changes_of_an_undo : option_map (λ view. view.changes) (undone 1 one_block) ≡ Some (coin_id (coin 1000) ∷ coin_id (child 900) ∷ coin_id (child 900) ∷ coin_id (child 7) ∷ coin_id (coin 1000) ∷ coin_id (child 900) ∷ coin_id (child 900) ∷ coin_id (child 7) ∷ [])
changes_of_an_undo = refl

more_than_there_are : undone 3 two_blocks ≡ None
more_than_there_are = refl

an_undo_of_none : undone 0 one_block ≡ Some (record { chain = one_block.chain; changes = touched; before = Some (one_block.chain, touched) })
an_undo_of_none = refl

a_connect_reverted : reverted one_block ≡ start
a_connect_reverted = refl

an_undo_reverted : option_map reverted (undone 2 two_blocks) ≡ Some (record { chain = two_blocks.chain; changes = touched; before = None })
an_undo_reverted = refl

a_coin_more_to_start_with : started (coin 8) (record start { changes = touched; before = Some (start.chain, []) })
    ≡ record { chain = record start.chain { coins = coin 1000 ∷ coin 7 ∷ coin 8 ∷ [] }; changes = touched; before = None }
a_coin_more_to_start_with = refl

-- ---- soundness

can_connect : CanConnect (ledger_of start.chain) block
unfolding IsDistinct sha256 digest_bytes hash_after compress rounds schedule first_words shortest_atom without_sign_bytes
can_connect = record { spent_once = ((refl, tt), (tt, tt)); spendable = refl; created_once = ((refl, tt), (tt, tt)); new = refl; room = omega arith }

a_sound_chain : IsSound one_block.chain
unfolding IsDistinct sha256 digest_bytes hash_after compress rounds schedule first_words shortest_atom without_sign_bytes
a_sound_chain = (((refl, tt), (tt, tt)), (can_connect, tt))

-- A coin that is spent can't be spent again.
not_again : ¬ (CanConnect (ledger_of one_block.chain) (record empty { spent = coin_id (coin 1000) ∷ [] }))
unfolding sha256 digest_bytes hash_after compress rounds schedule first_words shortest_atom without_sign_bytes
not_again can = true≢false (sym can.spendable)

-- A coin that is there can't be made again.
not_made_again : ¬ (CanConnect (ledger_of one_block.chain) (record empty { created = coin 7 ∷ [] }))
unfolding sha256 digest_bytes hash_after compress rounds schedule first_words shortest_atom without_sign_bytes
not_made_again can = true≢false (sym can.new)

-- A chain whose start coins have one id isn't sound.
not_sound : ¬ (IsSound (record start.chain { coins = coin 7 ∷ coin 7 ∷ [] }))
unfolding IsDistinct sha256 digest_bytes hash_after compress rounds schedule first_words shortest_atom without_sign_bytes
not_sound sound = true≢false sound.0.0.0
