-- The form that is seen one level at a time. This project's own.
use Rattle.lisp_read.specs.Forms.{Form, Atom, Symbol, Pair}
use Rattle.lisp_read.specs.declared.seen.Sight.{Sight}
use Rattle.lisp_read.specs.declared.seen.Sight.TheVariants as sight

abbrev pub sight_form : {S : Type 0} → (S → Form) → Sight S → Form
sight_form seen (sight.Atom place bytes) = Atom place bytes.now
sight_form seen (sight.Symbol place name) = Symbol place name.now
sight_form seen (sight.Pair place first rest) = Pair place (seen first.now) (seen rest.now)
