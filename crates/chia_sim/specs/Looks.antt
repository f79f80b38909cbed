-- The entries of looks at coins, which change nothing.
use Rattle.std.specs.Prelude.{ℕ, suc, List, [], ◌∷◌}
use Rattle.coin_facts.specs.declared.hash32.Hash32.{Hash32}
use Rattle.pool_spec.specs.Admission.{PoolState}
use Rattle.pool_spec.specs.Step.{Reply, LookUp, reply_to}
use Rattle.pool_spec.specs.History.{Entry}

-- the entry of a reply to the command with this number, in the one lane
abbrev pub entry : ℕ → Reply → Entry
entry number reply = record { lane = 0; number = number; reply = reply }

-- the entries of the looks from this number on
abbrev pub looks : PoolState → ℕ → List Hash32 → List Entry
looks state number [] = []
looks state number (id ∷ ids) = entry number (reply_to state (LookUp id)) ∷ looks state (suc number) ids
