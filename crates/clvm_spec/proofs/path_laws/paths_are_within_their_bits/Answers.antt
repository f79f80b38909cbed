use Rattle.clvm_spec.proofs.PathLaws.{paths_law}
use Rattle.clvm_spec.proofs.path_laws.paths_are_within_their_bits.Goals as goal

pub returns : goal.returns
returns c = paths_law
