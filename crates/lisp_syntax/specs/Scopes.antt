-- What may be named in an expression, as the program has it. This project's own.
use Rattle.std.specs.Prelude.{◌++◌}
use Rattle.lisp_spec.specs.Expressions as spec
use Rattle.lisp_syntax.specs.declared.scope.Scope.{Scope}

abbrev pub scope_of : Scope → spec.Scope
scope_of scope = record {
  symbols = scope.parameters.now.keys ++ scope.constants.now.keys;
  functions = scope.functions.now.keys;
  inlines = scope.inlines.now.keys;
  may_run = scope.may_run;
}
