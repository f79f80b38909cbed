use Rattle.lisp_spec.proofs.MeaningProofs.{gives_the_same}
use Rattle.lisp_spec.proofs.meaning_laws.counts_give_the_same.Goals as goal

pub returns : goal.returns
returns c = gives_the_same
