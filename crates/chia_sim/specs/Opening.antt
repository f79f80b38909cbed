-- What opening a session answers, by the session that the input is.
use Rattle.std.specs.Prelude.{◌≡◌, [], true, Option, Some, None, Result, Ok, Err}
use Rattle.pool_spec.specs.Payment.{is_payment}
use Rattle.pool_spec.specs.History.{Session}
use Rattle.session_spec.specs.FirstForm.{session, default_limits}
use Rattle.chia_sim.specs.declared.form.FormFault.{FormFault}
use Rattle.chia_sim.specs.declared.form.FormFault.TheVariants.{Unbuilt, OutOfMemory}
use Rattle.chia_sim.specs.declared.opening.Opening.{Opening}

abbrev pub session_of_opening : Opening → Session
session_of_opening opening = session opening.pool.chain opening.bundle opening.asked

-- The pool has no bundle and the limits of a session that says nothing of them, and it judges the bundle.
pub record IsReady (opening : Opening) : Type 0 where
  pub limits : opening.pool.limits ≡ default_limits
  pub empty : opening.pool.bundles ≡ []
  pub payment : is_payment opening.pool.chain opening.bundle ≡ true

-- The opening is of this session.
pub record IsOpened (read : Option Session) (opening : Opening) : Type 0 where
  pub says : read ≡ Some (session_of_opening opening)
  pub ready : IsReady opening

-- Want of memory says nothing.
abbrev pub Opens : Option Session → Result Opening FormFault → Type 0
Opens read (Ok opening) = IsOpened read opening
Opens read (Err Unbuilt) = read ≡ None
Opens read (Err OutOfMemory) = Unit {0}
