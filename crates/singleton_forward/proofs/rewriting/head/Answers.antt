use Rattle.std.proofs.Common.{◌≡◌, length, ap, arith}
use Rattle.singleton_forward.specs.Heads.{head_of}
use Rattle.singleton_forward.specs.Solutions.{proof_seen}
use Rattle.singleton_forward.proofs.SpelledLaws.{pieces, head-short}
use Rattle.singleton_forward.proofs.rewriting.head.Goals as goal

pub returns-clause-value : goal.returns-clause-value
returns-clause-value c =
    pieces _ _ _ _ _ _ _ _ _ _ _ _ _ _ c.new-bytes.ensures.items c.in_ok-extend_from_slice.ensures.items c.in_ok-push_hash.ensures.value
    c.in_ok-push.ensures.items c.in_ok-push_hash-2.ensures.value c.in_ok-push-2.ensures.items c.in_ok-push_amount.ensures
    c.in_ok-extend_from_slice-2.ensures.items c.in_ok-push_amount-2.ensures c.in_ok-push-3.ensures.items

pub returns-clause-short : goal.returns-clause-short
returns-clause-short c =
    let is : c.push-3.new.self.items ≡ head_of (proof_seen c.args.proof.now) c.args.own = pieces _ _ _ _ _ _ _ _ _ _ _ _ _ _ c.new-bytes.ensures.items
    c.in_ok-extend_from_slice.ensures.items c.in_ok-push_hash.ensures.value
    c.in_ok-push.ensures.items c.in_ok-push_hash-2.ensures.value c.in_ok-push-2.ensures.items c.in_ok-push_amount.ensures
    c.in_ok-extend_from_slice-2.ensures.items c.in_ok-push_amount-2.ensures c.in_ok-push-3.ensures.items in
    omega (arith, ap length is, head-short (proof_seen c.args.proof.now) c.args.own c.in_ok-push_hash.ensures.size c.in_ok-push_hash-2.ensures.size)
