use Rattle.std.proofs.Common.{◌≡◌, length}
use Rattle.open_lists.specs.Lists.{folded, whole}
use Rattle.lisp_read.specs.Views.{form_of}
use Rattle.lisp_read.specs.Grammar.{Places}
use Rattle.lisp_read.specs.Parsing.{reading}
use Rattle.lisp_read.proofs.reader.whole.Given as goal

abbrev pub invariant-elements : goal.invariant-elements
invariant-elements l = (there : Places) → folded (reading there) l.place l.forms.items (form_of l.rest) ≡ whole (reading there) l.fn.list

abbrev pub decreases-elements : goal.decreases-elements
decreases-elements l = length l.forms.items
