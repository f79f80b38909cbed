use Rattle.step_spec.proofs.HistoryLaws.{legal-is-in-order}
use Rattle.step_spec.proofs.laws.legal_is_in_order.Goals as goal

pub returns : goal.returns
returns c = legal-is-in-order
