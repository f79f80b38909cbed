-- Coins that are read and added, one line after another.
use Rattle.std.proofs.Common.{◌≡◌, ◌∙◌, List, [], ◌∷◌, ◌++◌, Bool, true, false, Option, Some, None, refl, ap, if◌then◌else◌}
use Rattle.serde_json.specs.Data.{Data}
use Rattle.coin_facts.specs.declared.coin.Coin.{Coin}
use Rattle.coin_facts.specs.CoinId.{coin_id}
use Rattle.chain_spec.specs.Chain.{Chain, is_in_chain, ledger_of}
use Rattle.session_spec.specs.Steps.{◌>>=◌, all_of}
use Rattle.session_spec.specs.FirstForm.{start_coins}

-- the chain with the coins that were read
abbrev pub started : Chain → Option (List Coin) → Option Chain
started chain coins = coins >>= start_coins chain

abbrev pub with_coin : Chain → Coin → Chain
with_coin chain coin = record chain { coins = chain.coins ++ coin ∷ [] }

-- a new coin is added, whatever is read of the others
started-new : (chain : Chain) (coin : Coin) (others : Option (List Coin)) → is_in_chain (ledger_of chain) (coin_id coin) ≡ false
    → started chain (others >>= λ more. Some (coin ∷ more)) ≡ started (with_coin chain coin) others
started-new chain coin None new = refl
started-new chain coin (Some more) new = ap (λ b. if b then None else start_coins (with_coin chain coin) more) new

started-there : (chain : Chain) (coin : Coin) (others : Option (List Coin)) → is_in_chain (ledger_of chain) (coin_id coin) ≡ true
    → started chain (others >>= λ more. Some (coin ∷ more)) ≡ None
started-there chain coin None there = refl
started-there chain coin (Some more) there = ap (λ b. if b then None else start_coins (with_coin chain coin) more) there

pub started-read : (read : Data → Option Coin) (chain : Chain) (line : Data) (coin : Coin) (lines : List Data)
    → read line ≡ Some coin → is_in_chain (ledger_of chain) (coin_id coin) ≡ false
    → started chain (all_of read (line ∷ lines)) ≡ started (with_coin chain coin) (all_of read lines)
started-read read chain line coin lines found new =
    ap (λ r. started chain (r >>= λ c. all_of read lines >>= λ others. Some (c ∷ others))) found ∙ started-new chain coin (all_of read lines) new

pub started-twice : (read : Data → Option Coin) (chain : Chain) (line : Data) (coin : Coin) (lines : List Data)
    → read line ≡ Some coin → is_in_chain (ledger_of chain) (coin_id coin) ≡ true
    → started chain (all_of read (line ∷ lines)) ≡ None
started-twice read chain line coin lines found there =
    ap (λ r. started chain (r >>= λ c. all_of read lines >>= λ others. Some (c ∷ others))) found ∙ started-there chain coin (all_of read lines) there

pub started-refused : (read : Data → Option Coin) (chain : Chain) (line : Data) (lines : List Data)
    → read line ≡ None → started chain (all_of read (line ∷ lines)) ≡ None
started-refused read chain line lines none =
    ap (λ r. started chain (r >>= λ c. all_of read lines >>= λ others. Some (c ∷ others))) none
