-- Where bytes of which no prefix is a spelling go wrong: behind the longest list of heads that leaves trees open.
-- This project's own.
use Rattle.std.specs.Prelude.{◌≡◌, ℕ, zero, suc, ◌≤◌, List, [], ◌∷◌, ◌++◌, length}
use Rattle.std.specs.List.{flat_map}
use Rattle.clvm_spec.specs.Tree.{Atom}
use Rattle.clvm_spec.specs.Spelling.{atom_spelling, pair_mark, HasSpelling}
use Rattle.clvm_spec.specs.Reading.{Flaw, Head, PairMark, Leaf, Flawed, head_at}

abbrev pub head_bytes : Head → List ℕ
head_bytes PairMark = pair_mark ∷ []
head_bytes (Leaf atom) = atom_spelling atom

-- Behind k more marks of pairs than atoms, no prefix of these heads has more atoms than marks.
abbrev pub IsOpenFrom : ℕ → List Head → Type 0
IsOpenFrom k [] = Unit {0}
IsOpenFrom k (PairMark ∷ heads) = IsOpenFrom (suc k) heads
IsOpenFrom zero (Leaf atom ∷ heads) = ⊥
IsOpenFrom (suc k) (Leaf atom ∷ heads) = HasSpelling (Atom atom) × IsOpenFrom k heads

-- Bytes begin with a list of heads that leaves trees open.
pub record BeginOpen (bytes : List ℕ) (heads : List Head) (rest : List ℕ) : Type 0 where
  pub trees_open : IsOpenFrom 0 heads
  pub front : bytes ≡ flat_map head_bytes heads ++ rest

-- Behind the longest such list stands no head, by this flaw.
pub record HasFault (bytes : List ℕ) (flaw : Flaw) (rest : List ℕ) : Type 0 where
  pub heads : List Head
  pub begin : BeginOpen bytes heads rest
  pub longest : (others : List Head) (behind : List ℕ) → BeginOpen bytes others behind → length others ≤ length heads
  pub flaw_is : head_at rest ≡ Flawed flaw
