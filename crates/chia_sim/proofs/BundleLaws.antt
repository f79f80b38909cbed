-- The values of a JSON array, as the reader lends them.
use Rattle.std.proofs.Common.{◌≡◌, ◌∙◌, ◌==◌, ℕ, suc, false, arith, sym, List, [], ◌∷◌, length, map, Some, refl, ap}
use Rattle.std.specs.Prelude.{is_some}
use Rattle.std.proofs.lemmas.Bool.Decides.{nat_tests}
use Rattle.serde_json.specs.Data.{Data}
use Rattle.serde_json.specs.View.{view, items_view}
use Rattle.serde_json.specs.Find.{as_array}
use Rattle.serde_json.specs.declared.value.Value.{Value}
use Rattle.session_spec.specs.Steps.{◌>>=◌, all_of}
use Rattle.session_spec.specs.Bundles.{values, values_of, nothing, spend, spends}
use Rattle.session_spec.proofs.ValuesOf.{values_of-items_of}

pub values-list : (value : Data) (list : List Value) → as_array value ≡ Some (items_view list) → values value ≡ Some (map view list)
values-list value list e = ap (λ items. items >>= λ i. Some (values_of i)) e ∙ ap Some (values_of-items_of (map view list))

suc_not_none : (n : ℕ) → false ≡ (suc n == 0)
suc_not_none n = grind (arith, nat_tests)

is_some-nothing : (list : List Value) → is_some (nothing (map view list)) ≡ (length list == 0)
is_some-nothing [] = refl
is_some-nothing (value ∷ list) = suc_not_none (length list)

pub nothing-list : (value : Data) (list : List Value) → as_array value ≡ Some (items_view list) → is_some (values value >>= nothing) ≡ (length list == 0)
nothing-list value list e = ap (λ vs. is_some (vs >>= nothing)) (values-list value list e) ∙ is_some-nothing list

pub spends-list : (value : Data) (list lent : List Value) → lent ≡ list → as_array value ≡ Some (items_view list) → all_of spend (map view lent) ≡ spends value
spends-list value list lent same e = ap (λ vs. all_of spend (map view vs)) same ∙ sym (ap (λ vs. vs >>= all_of spend) (values-list value list e))
