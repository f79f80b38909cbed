-- A number of 128 bits is held.
use Rattle.std.proofs.Common.{◌≡◌, ◌^◌, ℤ, pos, negsuc, true, Some, FitsSigned}
use Rattle.std.proofs.lemmas.Bool.{lt-ltb, cond-true}
use Rattle.std.specs.Int.{w128}
use Rattle.clvm_spec.specs.Arithmetic.{fits_128, if_fits}

fits : (n : ℤ) → FitsSigned w128 n → fits_128 n ≡ true
fits (pos n) h = lt-ltb n (2 ^ 127) h.sfits
fits (negsuc n) h = lt-ltb n (2 ^ 127) h.sfits

pub is_held : (n : ℤ) → FitsSigned w128 n → if_fits n ≡ Some n
is_held n h = cond-true _ _ _ (fits n h)
