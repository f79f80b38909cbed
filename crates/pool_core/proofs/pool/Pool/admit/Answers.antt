use Rattle.std.proofs.Common.{ap, subst}
use Rattle.std.proofs.lemmas.Result.{err_from_is_err_and}
use Rattle.pool_spec.specs.Pool.{PoolState}
use Rattle.pool_spec.specs.FirstAdmission.{first_admission}
use Rattle.pool_core.specs.JudgedItems.{bundles_of}
use Rattle.pool_core.specs.Admissions.{IsRefusedBy}
use Rattle.pool_core.proofs.AdmitLaws.{refused-by_verdict}
use Rattle.pool_core.proofs.pool.Pool.admit.Goals as goal

pub returns-in_err-cost-clause-refused : goal.returns-in_err-cost-clause-refused
returns-in_err-cost-clause-refused c =
    let p = err_from_is_err_and c.from_residual.result c.from_residual.ensures.1 in
    let state : PoolState = record { chain = c.self.inside.store; limits = c.self.inside.limits; bundles = bundles_of c.self.inside.items.items } in
    let refused : IsRefusedBy (first_admission state c.args.bundle) c.in_err-cost.field-0.0 = refused-by_verdict state c.args.bundle _ c.in_err-cost.ensures.err in
    rw (p.1, p.2) (subst (λ s. IsRefusedBy (first_admission s c.args.bundle) c.in_err-cost.field-0.0) c.self.view_is refused)
