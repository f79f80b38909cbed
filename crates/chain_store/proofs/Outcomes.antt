-- What is known of a call that succeeds.
use Rattle.std.proofs.Common.{◌≡◌, true, Result, Ok, Err}
use Rattle.std.specs.Result.{is_ok, OnOk}
use Rattle.std.proofs.lemmas.Bool.{false≢true}

pub on-ok : {T E : Type 0} (result : Result T E) (P : Type 0) → is_ok result ≡ true → OnOk result P → P
on-ok (Ok x) P is known = known
on-ok (Err e) P is known = absurd (false≢true is)
