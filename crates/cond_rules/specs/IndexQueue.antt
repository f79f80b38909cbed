-- Indexes that wait, in no order. Source: this project's own.
use Rattle.std.specs.Prelude.{◌≡◌, ℕ, ◌==◌, ◌≤◌, List, Bool, true}
use Rattle.std.specs.List.{list_any}

-- the indexes, and how many more have room
pub record IndexQueue : Type 0 where
  pub indexes : List ℕ
  pub room : ℕ

abbrev pub holds : List ℕ → ℕ → Bool
holds indexes index = list_any (λ other. other == index) indexes

pub record IsLeast (indexes : List ℕ) (index : ℕ) : Type 0 where
  pub held : holds indexes index ≡ true
  pub least : (other : ℕ) → holds indexes other ≡ true → index ≤ other
