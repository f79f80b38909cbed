-- The session of lines, once their coins are added.
use Rattle.std.proofs.Common.{◌≡◌, ◌∙◌, ℕ, List, take, drop, Option, Some, None, refl, ap}
use Rattle.serde_json.specs.Data.{Data}
use Rattle.chain_spec.specs.Chain.{Chain}
use Rattle.session_spec.specs.Steps.{◌>>=◌, all_of}
use Rattle.session_spec.specs.FirstForm.{coin_of, start_coins, with_commands, with_coins}

regrouped : {A B C : Type 0} (r : Option A) (f : A → Option B) (g : B → Option C) → (r >>= λ a. f a >>= g) ≡ ((r >>= f) >>= g)
regrouped None f g = refl
regrouped (Some a) f g = refl

pub with_coins-started : (chain : Chain) (count : ℕ) (lines : List Data) (started : Option Chain)
    → (all_of coin_of (take count lines) >>= start_coins chain) ≡ started
    → with_coins chain count lines ≡ (started >>= λ s. with_commands s (drop count lines))
with_coins-started chain count lines started e =
    regrouped (all_of coin_of (take count lines)) (start_coins chain) (λ s. with_commands s (drop count lines)) ∙ ap (λ s. s >>= λ t. with_commands t (drop count lines)) e
