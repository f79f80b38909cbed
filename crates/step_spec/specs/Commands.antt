-- The lanes of commands, and what is looked at of a command beside its step. Source: this project's own.
use Rattle.std.specs.Prelude.{ℕ, ◌==◌, List, map, filter}
use Rattle.std.specs.List.{range_with_len}
use Rattle.step_spec.specs.declared.command.Command.{Command}
use Rattle.step_spec.specs.declared.command.Command.TheVariants.{Admit, Assemble, Farm, Block, Rollback, Coin, List as Listing, Peak}

abbrev pub lane_of : Command → ℕ
lane_of (Admit lane bundle) = lane
lane_of (Assemble lane seconds reward_hash) = lane
lane_of (Farm lane seconds reward_hash) = lane
lane_of (Block lane bytes) = lane
lane_of (Rollback lane blocks) = lane
lane_of (Coin lane id) = lane
lane_of (Listing lane) = lane
lane_of (Peak lane) = lane

-- the commands of each lane, in the order of the input
abbrev pub lanes_of : ℕ → List Command → List (List Command)
lanes_of count commands = map (λ lane. filter (λ command. lane_of command == lane) commands) (range_with_len 0 count)

-- Want of memory may be the reply to every command but `coin` and `peak`.
abbrev pub MayLackMemory : Command → Type 0
MayLackMemory (Coin lane id) = ⊥
MayLackMemory (Peak lane) = ⊥
MayLackMemory _ = Unit {0}
