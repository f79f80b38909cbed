use Rattle.std.proofs.Common.{sym, subst}
use Rattle.chia_sim.specs.Reads.{Reads}
use Rattle.chia_sim.proofs.BundleLaws.{spends-list}
use Rattle.chia_sim.proofs.bundles.spends.Goals as goal

pub returns-in-Some : goal.returns-in-Some
returns-in-Some c =
    subst (λ read. Reads read c.spends_of.result) (spends-list _ _ _ c.deref.ensures.value (sym c.in-Some.ensures)) c.spends_of.ensures
