use Rattle.lisp_macro.proofs.MacroLaws.{found}
use Rattle.lisp_macro.proofs.macros.Macros.find.Goals as goal

pub returns : goal.returns
returns c = found c.self.inside.definitions.entries c.args.name.now c.args.self.now c.get.result c.self.view_is c.get.ensures.value
