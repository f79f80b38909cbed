use Rattle.lisp_read.proofs.PlaceLaws.{places_law}
use Rattle.lisp_read.proofs.laws.places_are_first_bytes.Goals as goal

pub returns : goal.returns
returns c = places_law
