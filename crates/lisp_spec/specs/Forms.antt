-- Forms as the definitions name them: an atom, a symbol, or a pair, each with its place. Source: Chialisp reference.
pub use Rattle.lisp_read.specs.Forms.{Form, Atom, Symbol, Pair, place_of_form, is_pair}
pub use Rattle.lisp_read.specs.declared.place.Place.{Place}
