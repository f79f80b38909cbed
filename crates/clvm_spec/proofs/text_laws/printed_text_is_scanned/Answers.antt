use Rattle.clvm_spec.proofs.PrintedLaws.{printed_is_scanned, printed_too_deep}
use Rattle.clvm_spec.proofs.text_laws.printed_text_is_scanned.Goals as goal

pub returns-clause-scanned : goal.returns-clause-scanned
returns-clause-scanned c = printed_is_scanned

pub returns-clause-too_deep : goal.returns-clause-too_deep
returns-clause-too_deep c = printed_too_deep
