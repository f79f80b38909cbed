use Rattle.lisp_read.proofs.LineLaws.{lines_law}
use Rattle.lisp_read.proofs.laws.what_is_read_leaves_nothing.Goals as goal

pub returns : goal.returns
returns c = lines_law
