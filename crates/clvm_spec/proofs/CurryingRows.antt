-- Curried programs by their spelling.
use Rattle.std.specs.Prelude.{◌≡◌, refl, [], ◌∷◌, Some, None}
use Prim.Native.String.{String}
use Rattle.hex.specs.Hex.{decode_pairs}
use Rattle.clvm_spec.specs.Reading.{head_at, tree_at_front}
use Rattle.clvm_spec.proofs.Cases.{spelled}
use Rattle.clvm_spec.specs.Currying.{curried, uncurried}

-- An argument of its own, two, and none.
curries :
    (curried (spelled "ff10ff02ffff010180") (spelled "05" ∷ []) ≡ spelled "ff02ffff01ff10ff02ffff010180ffff04ffff0105ff018080")
    × (curried (spelled "02") (spelled "80" ∷ spelled "ff0102" ∷ []) ≡ spelled "ff02ffff0102ffff04ffff0180ffff04ffff01ff0102ff01808080")
    × (curried (spelled "02") [] ≡ spelled "ff02ffff0102ff0180")
unfolding decode_pairs head_at tree_at_front
curries = (refl, refl, refl)

abbrev none_of : String → Type 0
none_of digits = uncurried (spelled digits) ≡ None

-- What isn't of that form with at least one argument isn't taken apart.
uncurries :
    (uncurried (spelled "ff02ffff01ff10ff02ffff010180ffff04ffff0105ff018080") ≡ Some (record { program = spelled "ff10ff02ffff010180"; arguments = spelled "05" ∷ [] }))
    × none_of "ff02ffff0102ff0180"
    × none_of "02"
    × none_of "ff03ffff0102ffff04ffff0105ff018080"
    × none_of "ff02ffff0202ffff04ffff0105ff018080"
    × none_of "ff02ffff0102ffff05ffff0105ff018080"
    × none_of "ff02ffff0102ffff04ffff0205ff018080"
    × none_of "ff02ffff0102ffff04ffff0105ff028080"
    × none_of "ff02ffff0102ffff04ffff0105ff01ff018080"
    × none_of "ff02ffff0102ffff04ffff0105ff0180ff0180"
    × none_of "ff02ffff0102ffff04ffff0105ff018001"
unfolding decode_pairs head_at tree_at_front
uncurries = (refl, refl, refl, refl, refl, refl, refl, refl, refl, refl, refl)
