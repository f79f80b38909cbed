-- The legal histories of a session. Source: this project's own.
use Rattle.std.specs.Prelude.{◌≡◌, ℕ, suc, ◌⊎◌, List, [], ◌∷◌}
use Rattle.chain_spec.specs.Chain.{Chain}
use Rattle.judge_spec.specs.declared.limits.Limits.{Limits}
use Rattle.pool_spec.specs.Admission.{PoolState}
use Rattle.pool_spec.specs.Step.{Command, Admit, LookUp, Reply, Memory, reply_to, after}

-- what a session says: the chain that it opens with, its limits, and its commands, all of one lane
pub record Session : Type 0 where
  pub chain : Chain
  pub limits : Limits
  pub commands : List Command

-- the state in which a session opens: no bundle is in the pool
abbrev pub opening : Session → PoolState
opening session = record { chain = session.chain; limits = session.limits; bundles = [] }

pub record Entry : Type 0 where
  pub lane : ℕ
  -- which of its lane's commands is answered, from 0 on
  pub number : ℕ
  pub reply : Reply

-- Want of memory may be the reply to every command but a look at a coin.
abbrev pub MayLackMemory : Command → Type 0
MayLackMemory (Admit bundle) = Unit {0}
MayLackMemory (LookUp id) = ⊥

-- From one state a command may be given this reply, and the state goes on to another: as its step says, or the
-- reply is want of memory, and the state stays.
abbrev pub Answers : PoolState → Command → Reply → PoolState → Type 0
Answers state command reply next =
    ((reply ≡ reply_to state command) × (next ≡ after state command)) ⊎ (MayLackMemory command × (reply ≡ Memory) × (next ≡ state))

-- From a state on, the entries answer the commands, each once and in order, from this number on.
abbrev pub Walks : PoolState → ℕ → List Command → List Entry → Type 0
Walks state number [] [] = Unit {0}
Walks state number [] (entry ∷ entries) = ⊥
Walks state number (command ∷ commands) [] = ⊥
Walks state number (command ∷ commands) (entry ∷ entries) =
    (entry.lane ≡ 0) × (entry.number ≡ number) × ((next : PoolState) × Answers state command entry.reply next × Walks next (suc number) commands entries)

abbrev pub IsLegal : Session → List Entry → Type 0
IsLegal session entries = Walks (opening session) 0 session.commands entries
