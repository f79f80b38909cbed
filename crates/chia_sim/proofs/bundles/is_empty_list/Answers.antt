use Rattle.std.proofs.Common.{◌∙◌, ◌==◌, sym, ap}
use Rattle.chia_sim.proofs.BundleLaws.{nothing-list}
use Rattle.chia_sim.proofs.bundles.is_empty_list.Goals as goal

pub returns-in-Some : goal.returns-in-Some
returns-in-Some c =
    c.is_empty.ensures ∙ ap (λ n. n == 0) c.in-Some.list.now.ok.0 ∙ sym (nothing-list _ c.in-Some.list.now.items (sym c.in-Some.ensures))
