use Rattle.chain_spec.proofs.MoveLaws.{ledger-grows, connected-is-sound, undone-is-sound, started-is-sound, height-is-blocks}
use Rattle.chain_spec.proofs.laws.chains_stay_sound.Goals as goal

pub returns-clause-ledger : goal.returns-clause-ledger
returns-clause-ledger c = ledger-grows

pub returns-clause-connected : goal.returns-clause-connected
returns-clause-connected c = connected-is-sound

pub returns-clause-undone : goal.returns-clause-undone
returns-clause-undone c = undone-is-sound

pub returns-clause-started : goal.returns-clause-started
returns-clause-started c = started-is-sound

pub returns-clause-height : goal.returns-clause-height
returns-clause-height c = height-is-blocks
