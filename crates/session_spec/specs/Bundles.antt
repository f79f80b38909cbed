-- A bundle as a JSON object. Source: this project's own, with the members of the Chia documentation.
use Rattle.std.specs.Prelude.{List, [], ◌∷◌, Option, Some, None, codes}
use Rattle.serde_json.specs.Data.{Data}
use Rattle.serde_json.specs.Find.{get}
use Rattle.block_spec.specs.declared.spend.Spend.{Spend}
use Rattle.block_spec.specs.declared.bundle.Bundle.{Bundle}
use Rattle.session_spec.specs.Steps.{◌>>=◌, all_of}
use Rattle.session_spec.specs.Members.{member, code, coin}
pub use Rattle.session_spec.specs.Values.{values_of, values}

abbrev pub spend : Data → Option Spend
spend value = do
  coin ← member (codes "coin") coin value
  puzzle ← member (codes "puzzle_reveal") code value
  solution ← member (codes "solution") code value
  Some (record { coin = coin; puzzle = puzzle; solution = solution })

abbrev pub spends : Data → Option (List Spend)
spends value = values value >>= all_of spend

-- What is attested is absent, or an empty list.
abbrev pub nothing : List Data → Option (List Data)
nothing [] = Some []
nothing (value ∷ more) = None

abbrev pub unattested : Option Data → Option (List Data)
unattested None = Some []
unattested (Some value) = values value >>= nothing

abbrev pub bundle : Data → Option Bundle
bundle value = do
  spends ← member (codes "coin_spends") spends value
  attested ← unattested (get (codes "attested") value)
  Some (record { spends = spends; attested = [] })
