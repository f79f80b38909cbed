-- The values of a JSON array, as the reader lends them.
use Rattle.std.proofs.Common.{◌≡◌, ◌∙◌, ◌&&◌, Bool, true, false, List, [], ◌∷◌, map, Option, Some, None, option_map, refl, ap, if◌then◌else◌}
use Rattle.std.specs.Prelude.{is_some, option_and_then}
use Rattle.std.specs.List.{list_all}
use Rattle.serde_json.specs.Data.{Data, Members}
use Rattle.serde_json.specs.View.{view, items_view}
use Rattle.serde_json.specs.Find.{as_array, as_object}
use Rattle.serde_json.specs.declared.value.Value.{Value}
use Rattle.session_spec.specs.Steps.{◌>>=◌, all_of}
use Rattle.session_spec.specs.Lines.{if_object}
use Rattle.session_spec.specs.Values.{values, values_of, objects}
use Rattle.session_spec.proofs.ValuesOf.{values_of-items_of}

pub values-list : (value : Data) (list : List Value) → as_array value ≡ Some (items_view list) → values value ≡ Some (map view list)
values-list value list e = ap (λ items. items >>= λ i. Some (values_of i)) e ∙ ap Some (values_of-items_of (map view list))

pub values-none : (value : Data) → as_array value ≡ None → values value ≡ None
values-none value e = ap (λ items. items >>= λ i. Some (values_of i)) e

-- ---- lists of objects

abbrev pub is_object : Value → Bool
is_object value = is_some (as_object (view value))

object_if : (value : Data) (members : Option Members) → option_map (λ m. value) members ≡ (if is_some members then Some value else None)
object_if value None = refl
object_if value (Some found) = refl

joined : (value : Data) (values : List Data) (b c : Bool) (first : Option Data) (others : Option (List Data)) → first ≡ (if b then Some value else None)
    → others ≡ (if c then Some values else None)
    → option_and_then (λ f. option_and_then (λ os. Some (f ∷ os)) others) first ≡ (if b && c then Some (value ∷ values) else None)
joined value values true true first others e f = rw (e, f) refl
joined value values true false first others e f = rw (e, f) refl
joined value values false c first others e f = rw e refl

objects_if : (list : List Value) → all_of if_object (map view list) ≡ (if list_all is_object list then Some (map view list) else None)
objects_if [] = refl
objects_if (value ∷ list) =
    joined (view value) (map view list) (is_object value) (list_all is_object list) _ _ (object_if (view value) (as_object (view value))) (objects_if list)

pub objects-list : (value : Data) (list : List Value) (b : Bool) → values value ≡ Some (map view list) → list_all is_object list ≡ b → objects value ≡ (if b then Some (map view list) else None)
objects-list value list b e all =
    ap (λ vs. vs >>= all_of if_object) e ∙ objects_if list ∙ ap (λ b. if b then Some (map view list) else None) all
