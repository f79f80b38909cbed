use Rattle.std.proofs.Common.{◌≡◌, ◌+◌, ◌≤◌, ◌++◌, length, take, arith, ap}
use Rattle.std.proofs.KnownBytes.{Consumes-nil, Consumes-kept, Consumes-trans}
use Rattle.ports_io.proofs.KnownLemmas.{Consumes-none, Consumes-more, length_with_piece}
use Rattle.ports_io.proofs.source.read_to_limit.Goals as goal

pub loop-bytes-init : goal.loop-bytes-init
loop-bytes-init g c = rw c.new-bytes.ensures.items (record {
  within = omega arith;
  room = omega (arith, c.as_mut_slice-piece.ensures.len, c.in_ok-room.ensures, c.in_ok-room.room.ok.0);
  taken = Consumes-nil _;
  later = omega arith;
})

pub returns-in_err-taken-clause-fault : goal.returns-in_err-taken-clause-fault
returns-in_err-taken-clause-fault g c = λ _.
    let held = c.loop-bytes.invariant in
    (c.loop-bytes.bytes.items, held.within, Consumes-kept _ _ _ _ held.taken c.in_err-taken.ensures.kept)

pub returns-then-taken-eq0-clause-whole : goal.returns-then-taken-eq0-clause-whole
returns-then-taken-eq0-clause-whole g c =
    Consumes-none _ _ _ _ _ _ c.if-taken-eq0.true c.loop-bytes.invariant.taken c.in_ok-taken.ensures.taken

pub returns-then-taken-eq0-clause-end : goal.returns-then-taken-eq0-clause-end
returns-then-taken-eq0-clause-end g c = c.in_ok-taken.ensures.end c.if-taken-eq0.true (omega arith)

pub returns-in_err-extend_from_slice-clause-memory :
    goal.returns-in_err-extend_from_slice-clause-memory
returns-in_err-extend_from_slice-clause-memory g c = λ _.
    let held = c.loop-bytes.invariant in
    let bytes = c.loop-bytes.bytes.items in
    let n = c.in_ok-taken.taken in
    let piece = c.read.new.into in
    let longest : length piece ≡ 65536 = omega arith in
    let short : length (bytes ++ take n piece) ≤ c.args.most + 65536 = omega (arith, length_with_piece bytes piece n c.args.most held.within) in
    (bytes ++ take n piece, short, Consumes-trans _ _ _ _ _ held.taken c.in_ok-taken.ensures.taken)

pub returns-then-len-most-clause-long : goal.returns-then-len-most-clause-long
returns-then-len-most-clause-long g c = λ _.
    let held = c.loop-bytes.invariant in
    let bytes = c.loop-bytes.bytes.items in
    let n = c.in_ok-taken.taken in
    let piece = c.read.new.into in
    let longest : length piece ≡ 65536 = omega arith in
    let whole : c.extend_from_slice.new.self.items ≡ bytes ++ take n piece = grind (arith, c.in_ok-extend_from_slice.ensures.items) in
    let count : length (bytes ++ take n piece) ≡ c.len.result = omega (arith, ap length whole, c.len.ensures, c.extend_from_slice.new.self.ok.0) in
    let short : length (bytes ++ take n piece) ≤ c.args.most + 65536 = omega (arith, length_with_piece bytes piece n c.args.most held.within) in
    (bytes ++ take n piece, (omega arith, short), Consumes-trans _ _ _ _ _ held.taken c.in_ok-taken.ensures.taken)

pub loop-bytes-preserved : goal.loop-bytes-preserved
loop-bytes-preserved g c =
    let held = c.loop-bytes.invariant in
    let bytes = c.loop-bytes.bytes.items in
    let n = c.in_ok-taken.taken in
    let piece = c.read.new.into in
    let whole : c.extend_from_slice.new.self.items ≡ bytes ++ take n piece = grind (arith, c.in_ok-extend_from_slice.ensures.items) in
    record {
      within = omega (arith, c.extend_from_slice.new.self.ok.0);
      room = omega arith;
      taken = Consumes-more _ _ _ _ _ _ whole held.taken c.in_ok-taken.ensures.taken;
      later = omega (arith, c.in_ok-taken.ensures.cause.later);
    }
