-- Lineages, computed: those of a chain and of what is taken, and each check broken.
use Rattle.std.proofs.Common.{◌≡◌, ℕ, Result, Ok, Err, List, [], ◌∷◌, refl}
use Rattle.sha2.specs.Sha256.{sha256, digest_bytes, hash_after, compress, rounds, schedule, first_words}
use Rattle.clvm_spec.specs.Reading.{head_at, tree_at_front}
use Rattle.clvm_spec.specs.Numbers.{without_sign_bytes, shortest_atom}
use Rattle.coin_facts.specs.declared.hash32.Hash32.{Hash32}
use Rattle.coin_facts.specs.declared.coin.Coin.{Coin}
use Rattle.coin_facts.specs.CoinId.{coin_id}
use Rattle.chain_spec.specs.declared.chain.Record.{Record}
use Rattle.cond_spec.proofs.ConditionRows.{hash}
use Rattle.judge_spec.proofs.RowParts.{ledger}
use Rattle.pool_spec.specs.declared.lineage.Lineage.{Lineage}
use Rattle.pool_spec.specs.Fit.{Taken, nothing_taken, lineage_of}
use Rattle.pool_spec.proofs.RowParts.{coin_of, there_coin, gone_coin}

abbrev top : Hash32
top = hash 5

abbrev parent : Coin
parent = coin_of (hash 0) top 3

abbrev child : Coin
child = coin_of (coin_id parent) top 1

abbrev next : Coin
next = coin_of (coin_id child) top 1

abbrev lineage : List Record → Taken → Result Lineage ℕ
lineage records taken = lineage_of (ledger records) taken top 1

in_the_chain : lineage (gone_coin parent ∷ there_coin child ∷ []) nothing_taken ≡ Ok (record { coin = child; parent = parent })
unfolding head_at tree_at_front without_sign_bytes shortest_atom sha256 digest_bytes hash_after compress rounds schedule first_words
in_the_chain = refl

no_coin : lineage (gone_coin parent ∷ gone_coin child ∷ []) nothing_taken ≡ Err 1
unfolding head_at tree_at_front without_sign_bytes shortest_atom sha256 digest_bytes hash_after compress rounds schedule first_words
no_coin = refl

several_coins : lineage (gone_coin parent ∷ there_coin child ∷ there_coin (coin_of (hash 7) top 1) ∷ []) nothing_taken ≡ Err 2
unfolding head_at tree_at_front without_sign_bytes shortest_atom sha256 digest_bytes hash_after compress rounds schedule first_words
several_coins = refl

parent_nowhere : lineage (there_coin child ∷ []) nothing_taken ≡ Err 3
unfolding head_at tree_at_front without_sign_bytes shortest_atom sha256 digest_bytes hash_after compress rounds schedule first_words
parent_nowhere = refl

parent_of_another_puzzle : lineage (gone_coin (coin_of (hash 0) (hash 6) 3) ∷ there_coin (coin_of (coin_id (coin_of (hash 0) (hash 6) 3)) top 1) ∷ []) nothing_taken ≡ Err 4
unfolding head_at tree_at_front without_sign_bytes shortest_atom sha256 digest_bytes hash_after compress rounds schedule first_words
parent_of_another_puzzle = refl

spent_by_what_is_taken : lineage (gone_coin parent ∷ there_coin child ∷ []) (record { spent = coin_id child ∷ []; created = [] }) ≡ Err 1
unfolding head_at tree_at_front without_sign_bytes shortest_atom sha256 digest_bytes hash_after compress rounds schedule first_words
spent_by_what_is_taken = refl

created_by_what_is_taken : lineage (gone_coin parent ∷ there_coin child ∷ []) (record { spent = coin_id child ∷ []; created = next ∷ [] }) ≡ Ok (record { coin = next; parent = child })
unfolding head_at tree_at_front without_sign_bytes shortest_atom sha256 digest_bytes hash_after compress rounds schedule first_words
created_by_what_is_taken = refl

one_here_and_one_there : lineage (gone_coin parent ∷ there_coin child ∷ []) (record { spent = []; created = next ∷ [] }) ≡ Err 2
unfolding head_at tree_at_front without_sign_bytes shortest_atom sha256 digest_bytes hash_after compress rounds schedule first_words
one_here_and_one_there = refl
