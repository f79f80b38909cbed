-- The values of a JSON array, as a list.
use Rattle.std.proofs.Common.{◌≡◌, List, [], ◌∷◌, refl, ap}
use Rattle.serde_json.specs.Data.{Data}
use Rattle.serde_json.specs.View.{items_of}
use Rattle.session_spec.specs.Bundles.{values_of}

pub values_of-items_of : (values : List Data) → values_of (items_of values) ≡ values
values_of-items_of [] = refl
values_of-items_of (value ∷ values) = ap (λ others. value ∷ others) (values_of-items_of values)
