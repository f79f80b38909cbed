-- What is the same from some depth on.
use Rattle.std.proofs.Common.{◌≡◌, ℕ, suc, ◌+◌, ◌≤◌, refl, sym, ap, ap₂, ◌∙◌, arith}

unfoldable pub Eventually : {A : Type 0} → (ℕ → A) → A → Type 0
Eventually y a = (b : ℕ) × ((more : ℕ) → b ≤ more → y more ≡ a)

pub eventually_same : {A : Type 0} (a : A) → Eventually (λ b. a) a
unfolding Eventually
eventually_same a = (0, λ more le. refl)

pub eventually_map : {A B : Type 0} (f : A → B) (y : ℕ → A) (a : A) → Eventually y a → Eventually (λ b. f (y b)) (f a)
unfolding Eventually
eventually_map f y a s = (s.0, λ more le. ap f (s.1 more le))

pub eventually_two : {A B C : Type 0} (f : A → B → C) (y : ℕ → A) (z : ℕ → B) (a : A) (b : B) → Eventually y a → Eventually z b → Eventually (λ n. f (y n) (z n)) (f a b)
unfolding Eventually
eventually_two f y z a b s t = (s.0 + t.0, λ more le. ap₂ f (s.1 more (omega arith)) (t.1 more (omega arith)))

pub eventually_suc : {A : Type 0} (y : ℕ → A) (a : A) → Eventually y a → Eventually (λ b. y (suc b)) a
unfolding Eventually
eventually_suc y a s = (s.0, λ more le. s.1 (suc more) (omega arith))

pub eventually_alike : {A : Type 0} (y z : ℕ → A) (a : A) → ((b : ℕ) → y b ≡ z b) → Eventually z a → Eventually y a
unfolding Eventually
eventually_alike y z a same s = (s.0, λ more le. same more ∙ s.1 more le)

pub eventually_one : {A : Type 0} (y : ℕ → A) (a b : A) → Eventually y a → Eventually y b → a ≡ b
unfolding Eventually
eventually_one y a b s t = sym (s.1 (s.0 + t.0) (omega arith)) ∙ t.1 (s.0 + t.0) (omega arith)
