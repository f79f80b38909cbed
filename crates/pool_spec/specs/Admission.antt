-- The first form's admission by its earlier names, for the crates above until they stand on the whole one. Declares nothing.
pub use Rattle.pool_spec.specs.Pool.{PoolState}
pub use Rattle.pool_spec.specs.FirstAdmission.{FirstAdmission as Admission, Admitted, Refused, first_admission as admission, after_admission}
