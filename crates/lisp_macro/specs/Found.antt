-- What is found, and what is still to be looked through. This project's own.
use Rattle.std.specs.Prelude.{ℕ, ◌+◌, List, [], ◌∷◌, Option, Some, None}
use Rattle.lisp_read.specs.Views.{form_of}
use Rattle.lisp_read.specs.Copies.{size}
use Rattle.lisp_spec.specs.Forms.{Form}
use Rattle.lisp_macro.specs.Bindings.{part_of, or_else, named_in}
use Rattle.lisp_macro.specs.declared.call.Found.{Found}
use Rattle.lisp_macro.specs.declared.call.Found.TheVariants.{At, Astray, NoParameter}
use Rattle.lisp_macro.specs.declared.call.Part.{Part}

abbrev pub found_of : Found → Option (Option Form)
found_of (At value) = Some (Some value.now)
found_of Astray = Some None
found_of NoParameter = None

abbrev pub part_named : List ℕ → Part → Option (Option Form)
part_named name part = named_in name (form_of part.params.now) (part_of part.operand)

-- The last part is looked through first.
abbrev pub parts_named : List ℕ → List Part → Option (Option Form)
parts_named name [] = None
parts_named name (part ∷ above) = or_else (parts_named name above) (part_named name part)

abbrev pub parts_left : List Part → ℕ
parts_left [] = 0
parts_left (part ∷ above) = size (form_of part.params.now) + parts_left above
