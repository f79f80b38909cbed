-- The replies and entries of the program as the definitions have them.
use Rattle.pool_spec.specs.Admission as answer
use Rattle.pool_spec.specs.Step as step
use Rattle.pool_spec.specs.History as history
use Rattle.chia_sim.specs.declared.reply.Reply.{Reply}
use Rattle.chia_sim.specs.declared.reply.Reply.TheVariants.{Admitted, Refused, NoCoin, Coin, Memory}
use Rattle.chia_sim.specs.declared.report.Entry.{Entry}

abbrev pub reply_of : Reply → step.Reply
reply_of (Admitted id fee cost replaced) = step.Answered (answer.Admitted id fee cost replaced)
reply_of (Refused rule place) = step.Answered (answer.Refused rule place)
reply_of NoCoin = step.NoCoin
reply_of (Coin found) = step.Found found
reply_of Memory = step.Memory

abbrev pub entry_of : Entry → history.Entry
entry_of entry = record { lane = entry.lane; number = entry.number; reply = reply_of entry.reply }
