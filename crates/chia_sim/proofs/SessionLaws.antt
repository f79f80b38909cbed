-- The session of lines, step by step.
use Rattle.std.proofs.Common.{◌≡◌, ◌∙◌, ℕ, ◌+◌, List, [], ◌∷◌, map, take, drop, Bool, Option, Some, Err, ap, refl, sym, if◌then◌else◌}
use Rattle.std.specs.List.{prefix_len}
use Rattle.std.proofs.lemmas.List.{take-map, drop-map}
use Rattle.serde_json.specs.View.{view}
use Rattle.serde_json.specs.declared.value.Value.{Value}
use Rattle.chain_spec.specs.Chain.{Chain}
use Rattle.pool_spec.specs.History.{Session}
use Rattle.session_spec.specs.Steps.{◌>>=◌, all_of}
use Rattle.session_spec.specs.FirstForm.{header, is_coin_line, coin_of, with_coins, with_commands, first_form_of_lines}
use Rattle.session_spec.proofs.StartCoins.{started}
use Rattle.session_spec.proofs.WithCoins.{with_coins-started}
use Rattle.chia_sim.specs.declared.form.FormFault.{FormFault}
use Rattle.chia_sim.specs.declared.form.FormFault.TheVariants.{Unbuilt, OutOfMemory}
use Rattle.chia_sim.specs.Reads.{Reads}
use Rattle.chia_sim.specs.Opening.{Opens}

prefix_len-map : {A B : Type 0} (p : B → Bool) (f : A → B) (xs : List A) → prefix_len p (map f xs) ≡ prefix_len (λ x. p (f x)) xs
prefix_len-map p f [] = refl
prefix_len-map p f (x ∷ xs) = ap (λ n. if p (f x) then 1 + n else 0) (prefix_len-map p f xs)

-- The first line is the header, and as many coin lines as there are stand behind it.
pub first_form_of_lines-started : (lines others coins commands : List Value) (first : Value) (chain : Chain) (count : ℕ) (s : Option Chain)
    → lines ≡ first ∷ others → header (view first) ≡ Some chain → count ≡ prefix_len (λ line. is_coin_line (view line)) others
    → coins ≡ take count others → commands ≡ drop count others → started chain (all_of coin_of (map view coins)) ≡ s
    → first_form_of_lines (map view lines) ≡ (s >>= λ t. with_commands t (map view commands))
first_form_of_lines-started lines others coins commands first chain count s whole opens counted front back are =
    ap (λ ls. first_form_of_lines (map view ls)) whole
    ∙ ap (λ h. h >>= λ c. with_coins c (prefix_len is_coin_line (map view others)) (map view others)) opens
    ∙ ap (λ n. with_coins chain n (map view others)) (prefix_len-map is_coin_line view others ∙ sym counted)
    ∙ with_coins-started chain count (map view others) s (ap (λ cs. started chain (all_of coin_of cs)) (take-map view count others ∙ ap (map view) (sym front)) ∙ are)
    ∙ ap (λ cs. s >>= λ t. with_commands t cs) (drop-map view count others ∙ ap (map view) (sym back))

-- A fault of what comes first is one of the whole.
pub Opens-refused : {A : Type 0} (session : Option Session) (read : Option A) (after : A → Option Session) (fault : FormFault)
    → session ≡ (read >>= after) → Reads read (Err fault) → Opens session (Err fault)
Opens-refused session read after Unbuilt same none = same ∙ ap (λ r. r >>= after) none
Opens-refused session read after OutOfMemory same none = tt
