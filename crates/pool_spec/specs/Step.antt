-- One command on a pool. Source: this project's own.
use Rattle.std.specs.Prelude.{Option, Some, None}
use Rattle.coin_facts.specs.declared.hash32.Hash32.{Hash32}
use Rattle.block_spec.specs.declared.bundle.Bundle.{Bundle}
use Rattle.chain_spec.specs.declared.chain.Record.{Record}
use Rattle.chain_spec.specs.Chain.{look_up, ledger_of}
use Rattle.pool_spec.specs.Admission.{PoolState, Admission, admission, after_admission}

pub data Command : Type 0 where
  -- admit this bundle
  Admit : Bundle → Command
  -- tell the coin with this id
  LookUp : Hash32 → Command

pub data Reply : Type 0 where
  Answered : Admission → Reply
  NoCoin : Reply
  Found : Record → Reply
  Memory : Reply

abbrev pub coin_reply : Option Record → Reply
coin_reply None = NoCoin
coin_reply (Some found) = Found found

-- the reply to a command
abbrev pub reply_to : PoolState → Command → Reply
reply_to state (Admit bundle) = Answered (admission state bundle)
reply_to state (LookUp id) = coin_reply (look_up (ledger_of state.chain) id)

-- the state after a command
abbrev pub after : PoolState → Command → PoolState
after state (Admit bundle) = after_admission state bundle
after state (LookUp id) = state
