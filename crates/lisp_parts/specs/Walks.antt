-- How far the definitions of a module are walked, as the program has it. This project's own.
use Rattle.std.specs.Prelude.{◌≡◌}
use Rattle.lisp_spec.specs.Definitions.{names_of}
use Rattle.lisp_spec.specs.Inclusion as spec
use Rattle.lisp_parts.specs.declared.walk.Walk.{Walk}
use Rattle.lisp_parts.specs.Views.{all_written}

abbrev pub walk_of : Walk → spec.Walk
walk_of walk = record { included = walk.included; definitions = all_written walk.definitions.items }

-- The names are those of the definitions.
abbrev pub IsNamed : Walk → Type 0
IsNamed walk = walk.names ≡ names_of (all_written walk.definitions.items)
