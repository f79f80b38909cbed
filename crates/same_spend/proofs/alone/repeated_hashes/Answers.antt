use Rattle.std.proofs.Common.{◌≡◌, ◌+◌, true, false, [], take, get_or, sym, subst}
use Rattle.std.specs.HashSet.{contains}
use Rattle.coin_facts.specs.declared.hash32.Hash32.{Hash32}
use Rattle.coin_facts.specs.IdLists.{is_same_id}
use Rattle.same_spend.proofs.MarkLaws.{HasSeen, seen-more, repeated-stays, repeated-more, new_from_added, old_from_added}
use Rattle.same_spend.proofs.alone.repeated_hashes.Goals as goal
use Rattle.same_spend.proofs.alone.repeated_hashes.Goals.{then-not-branch+in_ok-insert-2, else-not-branch}

pub loop-hash-preserved : goal.loop-hash-preserved
loop-hash-preserved c =
    let hashes = c.args.hashes.now in
    let k = c.loop-hash.hash-index in
    let h = c.loop-hash-test.true in
    let none : Hash32 = record { bytes = [] } in
    let held = c.loop-hash.invariant in
    record {
      seen = seen-more c.loop-hash.seen c.insert.new.self hashes k none h held.seen c.in_ok-insert.ensures.updates.0;
      repeated = elim c.if-not-branch.branch [
        | then-not-branch+in_ok-insert-2 w ↦
            let there : contains is_same_id c.loop-hash.seen (get_or hashes k none) ≡ true = old_from_added _ w.if-not-branch.true c.in_ok-insert.ensures.added in
            subst (λ set. HasSeen 1 set (take (k + 1) hashes)) (sym w.repeated-is)
            (repeated-more c.loop-hash.seen c.loop-hash.repeated w.insert-then-not-branch.new.self hashes k none h held.seen held.repeated there w.in_ok-insert-2.ensures.updates.0)
        | else-not-branch w ↦
            let fresh : contains is_same_id c.loop-hash.seen (get_or hashes k none) ≡ false = new_from_added _ w.if-not-branch.false c.in_ok-insert.ensures.added in
            subst (λ set. HasSeen 1 set (take (k + 1) hashes)) (sym w.repeated-is)
            (repeated-stays c.loop-hash.seen c.loop-hash.repeated hashes k none h held.seen held.repeated fresh)
      ];
    }
