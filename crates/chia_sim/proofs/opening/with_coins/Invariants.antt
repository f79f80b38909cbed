use Rattle.std.proofs.Common.{◌≡◌, map}
use Rattle.serde_json.specs.View.{view}
use Rattle.session_spec.specs.Steps.{all_of}
use Rattle.session_spec.specs.FirstForm.{coin_of}
use Rattle.session_spec.proofs.StartCoins.{started}
use Rattle.chia_sim.proofs.CoinTurns.{started_from}
use Rattle.chia_sim.proofs.opening.with_coins.Given as goal

abbrev pub invariant-loop-line : goal.invariant-loop-line
invariant-loop-line l = started_from l.store l.line-index l.lines ≡ started l.fn.store (all_of coin_of (map view l.lines))
