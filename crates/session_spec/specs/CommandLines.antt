-- Commands as lines. Source: this project's own.
use Rattle.std.specs.Prelude.{ℕ, ◌^◌, ◌-◌, List, [], ◌∷◌, bytes_eq, find, Option, option_and_then, Result, Ok, Err, codes}
use Rattle.serde_json.specs.Data.{Data}
use Rattle.serde_json.specs.Find.{as_str}
use Rattle.step_spec.specs.declared.command.Command.{Command}
use Rattle.step_spec.specs.declared.command.Command.TheVariants as commands
use Rattle.session_spec.specs.declared.member.Member.TheVariants as member
use Rattle.session_spec.specs.Lines.{if_object}
use Rattle.session_spec.specs.LineFaults.{What}
use Rattle.session_spec.specs.Results.{◌>>=◌}
use Rattle.session_spec.specs.Values.{number_between, whole_number, some_bytes, bytes_of_hash}
use Rattle.session_spec.specs.LineMembers.{Compiled, plain, hash_value, required, optional}
use Rattle.session_spec.specs.BundleMembers.{bundle_in}

-- what the members behind `do` and `lane` are read as, in a lane, with the earlier modules
abbrev pub Members : Type 0
Members = List Compiled → (lane : ℕ) → Data → Result Command What

abbrev pub admit : Members
admit modules lane fields = do
  value ← required member.Bundle (plain if_object) fields
  bundle ← bundle_in modules value
  Ok (commands.Admit lane bundle)

abbrev pub assemble : Members
assemble modules lane fields = do
  seconds ← required member.Seconds (plain whole_number) fields
  reward_hash ← required member.RewardHash (hash_value modules) fields
  Ok (commands.Assemble lane seconds reward_hash)

abbrev pub farm : Members
farm modules lane fields = do
  seconds ← required member.Seconds (plain whole_number) fields
  reward_hash ← required member.RewardHash (hash_value modules) fields
  Ok (commands.Farm lane seconds reward_hash)

abbrev pub block : Members
block modules lane fields = required member.Bytes (plain some_bytes) fields >>= λ bytes. Ok (commands.Block lane bytes)

-- how many blocks can be asked back at most
abbrev pub most_blocks : ℕ
most_blocks = 2 ^ 32 - 1

abbrev pub rollback : Members
rollback modules lane fields =
    required member.Blocks (plain (number_between 0 most_blocks)) fields >>= λ blocks. Ok (commands.Rollback lane blocks)

abbrev pub coin : Members
coin modules lane fields = required member.Id (plain bytes_of_hash) fields >>= λ id. Ok (commands.Coin lane id)

abbrev pub list_pool : Members
list_pool modules lane fields = Ok (commands.List lane)

abbrev pub tell_peak : Members
tell_peak modules lane fields = Ok (commands.Peak lane)

-- a word of `do`, and its further members
pub record Deed : Type 0 where
  pub word : List ℕ
  pub members : Members

abbrev pub deed : List ℕ → Members → Deed
deed word members = record { word = word; members = members }

abbrev pub deeds : List Deed
deeds =
    deed (codes "admit") admit
    ∷ deed (codes "assemble") assemble
    ∷ deed (codes "farm") farm
    ∷ deed (codes "block") block
    ∷ deed (codes "rollback") rollback
    ∷ deed (codes "coin") coin
    ∷ deed (codes "list") list_pool
    ∷ deed (codes "peak") tell_peak
    ∷ []

abbrev pub deed_of : Data → Option Deed
deed_of value = option_and_then (λ text. find (λ d. bytes_eq d.word text) deeds) (as_str value)

-- the command of a line of a session with so many lanes; without a lane it is in lane 0
abbrev pub command_in : List Compiled → (lanes : ℕ) → Data → Result Command What
command_in modules lanes fields = do
  found ← required member.Do (plain deed_of) fields
  lane ← optional member.Lane 0 (plain (number_between 0 (lanes - 1))) fields
  found.members modules lane fields
