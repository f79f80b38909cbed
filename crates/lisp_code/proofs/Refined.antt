-- Refining, piece by piece.
use Rattle.std.proofs.Common.{◌≡◌, ℕ, ◌≤◌, refl, sym, ap, subst, ◌+◌, suc, arith}
use Rattle.clvm_spec.specs.Tree.{Tree}
use Rattle.lisp_spec.specs.Meaning.{Meaning, Value, Failed, Wide, Out, if_value}
pub use Rattle.lisp_spec.proofs.MeaningProofs.{refines_equal, refines_then, refines_cond}
use Rattle.lisp_code.proofs.Refining.{Refines, out, same, Covered, Rises}

pub refines_trans : (a b c : Meaning) → Refines a b → Refines b c → Refines a c
refines_trans a b c (out m) q = out c
refines_trans a b c (same m) q = q

-- ---- covering

pub covered_later : (x : Meaning) (f : ℕ → Meaning) → Rises f → (m : ℕ) → Refines x (f m) → (n : ℕ) → m ≤ n → Refines x (f n)
covered_later x f rises m r n le = refines_trans x (f m) (f n) r (rises m n le)

pub settled : (a b : Meaning) → Refines a b → (a ≡ Out → ⊥) → a ≡ b
settled a b (out m) not_out = absurd (not_out refl)
settled a b (same m) not_out = refl

pub covered_then : (x : Meaning) (f : ℕ → Meaning) (go : Tree → Meaning) (go' : ℕ → Tree → Meaning) → Rises f → ((v : Tree) → Rises (λ m. go' m v)) →
    Covered x f → ((v : Tree) → Covered (go v) (λ m. go' m v)) → Covered (if_value x go) (λ m. if_value (f m) (go' m))
covered_then Out f go go' p q c goes = (0, out _)
covered_then Failed f go go' p q c goes = (c.0, refines_equal _ _ (ap (λ x. if_value x (go' c.0)) (settled Failed (f c.0) c.1 (λ e. cc))))
covered_then Wide f go go' p q c goes = (c.0, refines_equal _ _ (ap (λ x. if_value x (go' c.0)) (settled Wide (f c.0) c.1 (λ e. cc))))
covered_then (Value v) f go go' p q c goes =
    let d = goes v in
    let n = c.0 + d.0 in
    let here : Value v ≡ f n = settled (Value v) (f n) (covered_later (Value v) f p c.0 c.1 n (omega arith)) (λ e. cc) in
    (n, subst (λ x. Refines (go v) (if_value x (go' n))) here (covered_later (go v) (λ m. go' m v) (q v) d.0 d.1 n (omega arith)))

-- ---- more of covering

pub covered_same : (x y : Meaning) (f : ℕ → Meaning) → y ≡ x → Covered x f → Covered y f
covered_same x y f e c = subst (λ z. Covered z f) (sym e) c

pub covered_from : (x y : Meaning) (f : ℕ → Meaning) → Refines x y → Covered y f → Covered x f
covered_from x y f r c = (c.0, refines_trans x y (f c.0) r c.1)

pub covered_suc : (x : Meaning) (f : ℕ → Meaning) → Covered x (λ m. f (suc m)) → Covered x f
covered_suc x f c = (suc c.0, c.1)

pub covered_third : (x : Meaning) (f : ℕ → Meaning) → Covered x (λ m. f (suc (suc (suc m)))) → Covered x f
covered_third x f c = (suc (suc (suc c.0)), c.1)

pub covered_at_suc : (x : Meaning) (f : ℕ → Meaning) → Rises f → Covered x f → Covered x (λ m. f (suc m))
covered_at_suc x f rises c = (c.0, refines_trans x (f c.0) (f (suc c.0)) c.1 (rises c.0 (suc c.0) (omega arith)))

-- families that are the same, or refined, at each count
pub covered_by : (x : Meaning) (f g : ℕ → Meaning) → ((m : ℕ) → Refines (f m) (g m)) → Covered x f → Covered x g
covered_by x f g r c = (c.0, refines_trans x (f c.0) (g c.0) c.1 (r c.0))

pub rises_same : (x : Meaning) → Rises (λ m. x)
rises_same x n m le = same x

pub rises_then : (f : ℕ → Meaning) (go : ℕ → Tree → Meaning) → Rises f → ((v : Tree) → Rises (λ m. go m v)) → Rises (λ m. if_value (f m) (go m))
rises_then f go p q n m le = refines_then (f n) (f m) (go n) (go m) (p n m le) (λ v. q v n m le)

pub if_value_if_value : (x : Meaning) (f g : Tree → Meaning) → if_value (if_value x f) g ≡ if_value x (λ v. if_value (f v) g)
if_value_if_value (Value v) f g = refl
if_value_if_value Failed f g = refl
if_value_if_value Wide f g = refl
if_value_if_value Out f g = refl
