-- A loop that reads coins and adds them to a chain: one turn, its refusals, and the end.
use Rattle.std.proofs.Common.{◌≡◌, ◌∙◌, ℕ, ◌+◌, ◌<◌, ◌≤◌, List, ◌∷◌, length, map, drop, get_or, true, false, Option, Some, None, ap, sym}
use Rattle.std.proofs.lemmas.List.{at_drop_more, at_drop_all}
use Rattle.serde_json.specs.View.{view}
use Rattle.serde_json.specs.declared.value.Value.{Value}
use Rattle.coin_facts.specs.declared.coin.Coin.{Coin}
use Rattle.coin_facts.specs.CoinId.{coin_id}
use Rattle.chain_spec.specs.Chain.{Chain, is_in_chain, ledger_of}
use Rattle.session_spec.specs.Steps.{all_of}
use Rattle.session_spec.specs.FirstForm.{coin_of}
use Rattle.session_spec.proofs.StartCoins.{started, with_coin, started-read, started-twice, started-refused}

-- the chain with the coins of the lines from an index on
abbrev pub started_from : Chain → ℕ → List Value → Option Chain
started_from chain i lines = started chain (all_of coin_of (map view (drop i lines)))

at_line : (chain : Chain) (lines : List Value) (i : ℕ) (line : Value) → i < length lines → line ≡ get_or lines i line
    → started_from chain i lines ≡ started chain (all_of coin_of (view line ∷ map view (drop (i + 1) lines)))
at_line chain lines i line within here =
    at_drop_more (λ ls. started chain (all_of coin_of (map view ls))) lines i line within
    ∙ ap (λ l. started chain (all_of coin_of (view l ∷ map view (drop (i + 1) lines)))) (sym here)

pub started_from-new : (chain : Chain) (lines : List Value) (i : ℕ) (line : Value) (coin : Coin) → i < length lines → line ≡ get_or lines i line
    → coin_of (view line) ≡ Some coin → is_in_chain (ledger_of chain) (coin_id coin) ≡ false → started_from chain i lines ≡ started_from (with_coin chain coin) (i + 1) lines
started_from-new chain lines i line coin within here found new =
    at_line chain lines i line within here ∙ started-read coin_of chain (view line) coin (map view (drop (i + 1) lines)) found new

pub started_from-there : (chain : Chain) (lines : List Value) (i : ℕ) (line : Value) (coin : Coin) → i < length lines → line ≡ get_or lines i line
    → coin_of (view line) ≡ Some coin → is_in_chain (ledger_of chain) (coin_id coin) ≡ true → started_from chain i lines ≡ None
started_from-there chain lines i line coin within here found there =
    at_line chain lines i line within here ∙ started-twice coin_of chain (view line) coin (map view (drop (i + 1) lines)) found there

pub started_from-refused : (chain : Chain) (lines : List Value) (i : ℕ) (line : Value) → i < length lines → line ≡ get_or lines i line
    → coin_of (view line) ≡ None → started_from chain i lines ≡ None
started_from-refused chain lines i line within here none =
    at_line chain lines i line within here ∙ started-refused coin_of chain (view line) (map view (drop (i + 1) lines)) none

pub started_from-end : (chain : Chain) (lines : List Value) (i : ℕ) → length lines ≤ i → started_from chain i lines ≡ Some chain
started_from-end chain lines i past = at_drop_all (λ ls. started chain (all_of coin_of (map view ls))) lines i past
