-- How two meanings compare: the same, or anything where the count didn't suffice.
use Rattle.std.specs.Prelude.{ℕ, ◌≤◌}
use Rattle.lisp_spec.specs.Meaning.{Meaning}
pub use Rattle.lisp_spec.proofs.MeaningProofs.{Refines, out, same}

-- One meaning by its count has what the other has.
abbrev pub Covered : Meaning → (ℕ → Meaning) → Type 0
Covered x f = (m : ℕ) × Refines x (f m)

abbrev pub Rises : (ℕ → Meaning) → Type 0
Rises f = (n m : ℕ) → n ≤ m → Refines (f n) (f m)
