use Rattle.std.proofs.Common.{length, take, drop, arith, ap, length-drop}
use Rattle.std.proofs.lemmas.List.{take_rest}
use Rattle.std.specs.Io.KnownBytes.{Appends}
use Rattle.ports_io.proofs.KnownLemmas.{Appends-next}
use Rattle.ports_io.proofs.sink.write_all.Goals as goal

pub loop-at-preserved : goal.loop-at-preserved
loop-at-preserved g c =
    let held = c.loop-at.invariant in
    let done = c.in_ok-at.ensures in
    let bytes = c.args.bytes.now in
    let rest = take_rest bytes c.loop-at.at in
    let next : Appends (g.K.Sink.got c.loop-at.sink) (g.K.Sink.got c.write.new.self) (take c.in_ok-at.field-0 (drop c.loop-at.at bytes)) = rw rest at done.appended in
    record {
      within = omega (arith, done.within, ap length rest, length-drop c.loop-at.at bytes);
      written = Appends-next _ _ _ bytes c.loop-at.at c.in_ok-at.field-0 held.written next;
      later = omega (arith, done.cause.later);
    }
