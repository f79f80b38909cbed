use Rattle.std.proofs.Common.{refl}
use Rattle.lisp_read.specs.Forms as forms
use Rattle.lisp_read.specs.Views.{form_of}
use Rattle.lisp_read.specs.declared.form.Form.TheVariants.{Atom, Symbol}
use Rattle.lisp_macro.specs.Walks.{part_of}
use Rattle.lisp_macro.proofs.WalkLaws.{atom_law, symbol_law, leaf_looked}
use Rattle.lisp_macro.proofs.walk.look.Goals as goal

pub returns-in-Atom : goal.returns-in-Atom
returns-in-Atom c =
    leaf_looked c.args.macros.now c.args.levels.now.items c.args.turns.now (part_of c.args.part) c.args.outer (forms.Atom c.in-Atom.place c.in-Atom.bytes) (form_of c.args.form) (Atom c.in-Atom.place c.in-Atom.bytes) refl c.in-Atom.ensures
    (atom_law c.args.macros.now (part_of c.args.part) c.args.outer c.in-Atom.place c.in-Atom.bytes c.args.turns.now)

pub returns-in-Symbol : goal.returns-in-Symbol
returns-in-Symbol c =
    leaf_looked c.args.macros.now c.args.levels.now.items c.args.turns.now (part_of c.args.part) c.args.outer (forms.Symbol c.in-Symbol.place c.in-Symbol.name) (form_of c.args.form) (Symbol c.in-Symbol.place c.in-Symbol.name) refl c.in-Symbol.ensures
    (symbol_law c.args.macros.now (part_of c.args.part) c.args.outer c.in-Symbol.place c.in-Symbol.name c.args.turns.now)
