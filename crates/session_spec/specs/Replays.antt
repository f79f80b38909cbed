-- What `replay` writes: for each block whether it is accepted on the chain of those before it. Source: this project's own.
use Rattle.std.specs.Prelude.{ℕ, List, [], ◌∷◌, ◌++◌, Ok, Err, Result, codes}
use Rattle.clvm_spec.specs.Lines.{line_feed}
use Rattle.block_spec.specs.declared.block.Block.{Block}
use Rattle.block_spec.specs.BlockTree.{block_hash}
use Rattle.chain_spec.specs.Chain.{Chain, ledger_of}
use Rattle.judge_spec.specs.Judgement.{terms_of}
use Rattle.judge_spec.specs.BlockJudgement.{BlockVerdict, Accepts, Breaks, block_judgement, connected_block}
use Rattle.pool_spec.specs.Prices.{facts_in}
use Rattle.pool_spec.specs.Pool.{PoolState}
use Rattle.step_spec.specs.declared.command.Command.{Command}
use Rattle.step_spec.specs.declared.command.Command.TheVariants as commands
use Rattle.step_spec.specs.Steps.{connected}
use Rattle.step_spec.specs.Histories.{start_state}
use Rattle.session_spec.specs.Words.{id_word, number_word}
use Rattle.session_spec.specs.Sessions.{Session, Faulty, replay_of}
use Rattle.session_spec.specs.LineFaults.{faulty_line_text}

-- `accepted HEIGHT HASH FEE COST`, or `broken RULE PLACE`
abbrev pub verdict_line : BlockVerdict → List ℕ
verdict_line (Accepts block cost fee) =
    codes "accepted" ++ number_word block.height ++ id_word (block_hash block) ++ number_word fee ++ number_word cost ++ line_feed
verdict_line (Breaks rule place) = codes "broken" ++ number_word rule ++ number_word place ++ line_feed

-- A broken block changes nothing.
abbrev pub after_verdict : PoolState → BlockVerdict → PoolState
after_verdict state (Accepts block cost fee) = connected state block
after_verdict state (Breaks rule place) = state

-- the bytes of the blocks
abbrev pub blocks_in : List Command → List (List ℕ)
blocks_in [] = []
blocks_in (commands.Block lane bytes ∷ more) = bytes ∷ blocks_in more
blocks_in (other ∷ more) = blocks_in more

-- one line a block, from a pool without bundles on
abbrev pub replayed : PoolState → List (List ℕ) → List ℕ
replayed state [] = []
replayed state (bytes ∷ more) =
    let verdict = block_judgement (terms_of state.limits) (ledger_of state.chain) bytes in
    verdict_line verdict ++ replayed (after_verdict state verdict) more

abbrev pub replay_lines : Session → List ℕ
replay_lines session = replayed (start_state session.header session.coins) (blocks_in session.commands)

-- what is written for an input, or the words of its first faulty line
abbrev pub faulty_words : Faulty → List ℕ
faulty_words faulty = faulty_line_text faulty.line faulty.what

abbrev pub replay_by : Result Session Faulty → Result (List ℕ) (List ℕ)
replay_by (Ok session) = Ok (replay_lines session)
replay_by (Err faulty) = Err (faulty_words faulty)

abbrev pub replay_output : List ℕ → Result (List ℕ) (List ℕ)
replay_output input = replay_by (replay_of input)
