use Rattle.clvm_spec.proofs.CurryingLaws.{hash_follows}
use Rattle.clvm_spec.proofs.currying_laws.curried_hash_follows.Goals as goal

pub returns : goal.returns
returns c = hash_follows
