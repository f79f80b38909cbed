-- The first form's admission is the whole one, where a payment comes to an empty pool. It goes with the first form. Source:
-- this project's own.
use Rattle.std.specs.Prelude.{◌≡◌, [], ◌∷◌, ◌++◌, true}
use Rattle.block_spec.specs.declared.bundle.Bundle.{Bundle}
use Rattle.pool_spec.specs.Pool.{PoolState, Admission, Admits, Refuses, admission}
use Rattle.pool_spec.specs.Payment.{is_payment}
use Rattle.pool_spec.specs.FirstAdmission.{FirstAdmission, Admitted, Refused, first_admission}

-- the answer that a first form's answer stands for
abbrev pub whole_answer : PoolState → Bundle → FirstAdmission → Admission
whole_answer state bundle (Admitted id fee cost replaced) =
    Admits (record { id = id; fee = fee; cost = cost; replaced = replaced }) (record state { bundles = state.bundles ++ bundle ∷ [] })
whole_answer state bundle (Refused rule place) = Refuses (record { rule = rule; place = place })

abbrev pub FirstIsWhole : Type 0
FirstIsWhole = (state : PoolState) (bundle : Bundle) → is_payment state.chain bundle ≡ true → state.bundles ≡ [] →
    admission state bundle ≡ whole_answer state bundle (first_admission state bundle)
