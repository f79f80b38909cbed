-- What stands in the place of a definition, as the program has it. This project's own.
use Rattle.std.specs.Prelude.{List, Option, Some, None}
use Rattle.lisp_spec.specs.Forms.{Form}
use Rattle.lisp_spec.specs.Definitions as spec
use Rattle.lisp_parts.specs.declared.entry.Entry.{Entry}
use Rattle.lisp_parts.specs.declared.entry.Entry.TheVariants.{Defines, Includes, Shapeless}
use Rattle.lisp_parts.specs.Views.{written_of}

abbrev pub entry_seen : Entry → spec.Entry
entry_seen (Defines d) = spec.Defines (written_of d)
entry_seen (Includes name) = spec.Includes name
entry_seen Shapeless = spec.Shapeless

-- what a proper list of these elements is
abbrev pub with_elements : (List Form → spec.Entry) → Option (List Form) → spec.Entry
with_elements entry None = spec.Shapeless
with_elements entry (Some parts) = entry parts
