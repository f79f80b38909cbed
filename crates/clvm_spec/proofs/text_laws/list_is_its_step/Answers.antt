use Rattle.clvm_spec.specs.Text.{clvm}
use Rattle.clvm_spec.proofs.GrammarLaws.{list_step}
use Rattle.clvm_spec.proofs.text_laws.list_is_its_step.Goals as goal

pub returns : goal.returns
returns c = list_step clvm
