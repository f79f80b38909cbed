use Rattle.clvm_spec.specs.Text.{clvm}
use Rattle.clvm_spec.proofs.GrammarLaws.{form_within}
use Rattle.clvm_spec.proofs.text_laws.steps_are_within_the_text.Goals as goal

pub returns : goal.returns
returns c = form_within clvm
