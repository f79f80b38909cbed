-- A bundle of the pool as contracts see it. This project's own.
use Rattle.std.specs.Prelude.{ℕ}
use Rattle.block_spec.specs.declared.bundle.Bundle.{Bundle}

pub record ItemView : Type 0 where
  pub bundle : Bundle
  pub fee : ℕ
  pub cost : ℕ
