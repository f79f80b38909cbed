use Rattle.std.proofs.Common.{ap}
use Rattle.std.specs.Fmt.{digits}
use Rattle.lisp_spec.specs.BuiltIns.{built_in}
use Rattle.lisp_library.proofs.Names.{other_name}
use Rattle.lisp_library.proofs.texts.built_in.Goals as goal

pub returns-in-text : goal.returns-in-text
unfolding built_in digits
returns-in-text c = ap built_in c.in-text.is

pub returns-in-text-2 : goal.returns-in-text-2
unfolding built_in
returns-in-text-2 c = ap built_in c.in-text-2.is

pub returns-in_default : goal.returns-in_default
returns-in_default c = other_name c.args.name.now c.in_default.not-text c.in_default.not-text-2
