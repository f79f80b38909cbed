-- How a result stands for a session that was played.
use Rattle.std.specs.Prelude.{◌≡◌, ℕ, List, None, Result, Ok, Err, String, string_bytes}
use Rattle.std.specs.declared.alloc.Global.{Global}
use Rattle.session_spec.specs.FirstForm.{first_form_of}
use Rattle.chia_sim.specs.Outputs.{IsPlayed}
use Rattle.chia_sim.specs.declared.form.FormFault.{FormFault}
use Rattle.chia_sim.specs.declared.form.FormFault.TheVariants.{Unbuilt, OutOfMemory}

-- The input was played, or is no session of the form that is built. Want of memory says nothing.
abbrev pub IsPlayedAs : List ℕ → Result (String Global) FormFault → Type 0
IsPlayedAs input (Ok output) = IsPlayed input (string_bytes output)
IsPlayedAs input (Err Unbuilt) = first_form_of input ≡ None
IsPlayedAs input (Err OutOfMemory) = Unit {0}
