use Rattle.std.proofs.Common.{◌≡◌, ◌<◌, ◌≤◌, ◌++◌, length, sym, ◌∙◌, ap, subst, append_assoc, arith}
use Rattle.std.proofs.lemmas.Result.{err_from_is_err_and}
use Rattle.clvm_spec.specs.Spelling.{spelling, atom_spelling}
use Rattle.clvm_spec.proofs.SpellingLaws.{spelling_some, short_has_spelling}
use Rattle.clvm_tree.specs.Nodes.{tree_at, IsKnown, AreKnown}
use Rattle.clvm_tree.specs.Writes.{IsWriteFault}
use Rattle.clvm_tree.proofs.PendingLaws.{spellings, AreKnown-init, AreKnown-push, next_spelled, too_long, fault_is, pair_spelled, all_spelled}
use Rattle.clvm_tree.proofs.arena.Trees.write.Goals as goal
use Rattle.clvm_tree.proofs.arena.Trees.write.Goals.{In-Some}

known : (c : In-Some) → AreKnown c.args.self.now c.pop.new.self.items × IsKnown c.args.self.now c.in-Some.next.0
known c = AreKnown-init c.args.self.now c.pop.new.self.items c.in-Some.next (subst (AreKnown c.args.self.now) c.in-Some.ensures.items c.nodes.invariant.known)

written : (c : In-Some) → c.nodes.out.items ++ (spelling (tree_at c.args.self.now c.in-Some.next.0) ++ spellings c.args.self.now c.pop.new.self.items) ≡ spelling (tree_at c.args.self.now c.args.node.0)
written c = next_spelled c.args.self.now c.nodes.out.items (spelling (tree_at c.args.self.now c.args.node.0)) c.nodes.pending.items c.pop.new.self.items c.in-Some.next c.in-Some.ensures.items c.nodes.invariant.written

pub look-requires : goal.look-requires
look-requires c = (known (goal.at.look-requires c).In-Some).1

pub nodes-preserved-in-Continue-branch-2 : goal.nodes-preserved-in-Continue-branch-2
nodes-preserved-in-Continue-branch-2 c =
    let at = (goal.at.nodes-preserved-in-Continue-branch-2 c).In-Some in
    let later = spellings c.args.self.now c.pop.new.self.items in
    record {
      known = (known at).0;
      within = c.in_ok-push_atom-in-Bytes.ensures.within;
      written = ap (λ o. o ++ later) c.in_ok-push_atom-in-Bytes.ensures.ok ∙ append_assoc c.nodes.out.items (atom_spelling c.in-Bytes.bytes.now) later
          ∙ ap (λ s. c.nodes.out.items ++ (s ++ later)) (sym (ap spelling c.in-Bytes.ensures)) ∙ written at;
    }

pub returns-in_err-push_atom-in-Bytes-clause-fault : goal.returns-in_err-push_atom-in-Bytes-clause-fault
returns-in_err-push_atom-in-Bytes-clause-fault c =
    let at = (goal.at.returns-in_err-push_atom-in-Bytes-clause-fault c).In-Some in
    let trees = c.args.self.now in
    let whole = tree_at trees c.args.node.0 in
    let fault = c.in_err-push_atom-in-Bytes.field-0.0 in
    let p = err_from_is_err_and c.from_residual-in_err-push_atom-in-Bytes.result c.from_residual-in_err-push_atom-in-Bytes.ensures.1 in
    let long = fault_is c.args.most whole fault (λ e. too_long c.args.most whole c.nodes.out.items (spelling (tree_at trees c.in-Some.next.0)) (spellings trees c.pop.new.self.items) (written at)
    (omega (arith, c.in_err-push_atom-in-Bytes.ensures.too_long e, ap length (ap spelling c.in-Bytes.ensures), c.nodes.out.ok.0))) in
    rw p.1 (subst (IsWriteFault c.args.most whole) (sym p.2) long)

pub returns-then-len-most-clause-fault : goal.returns-then-len-most-clause-fault
returns-then-len-most-clause-fault c =
    let at = (goal.at.returns-then-len-most-clause-fault c).In-Some in
    let trees = c.args.self.now in
    too_long c.args.most (tree_at trees c.args.node.0) c.nodes.out.items (spelling (tree_at trees c.in-Some.next.0)) (spellings trees c.pop.new.self.items) (written at)
    (omega (arith, spelling_some (tree_at trees c.in-Some.next.0), c.len.ensures, c.if-len-most.true, c.nodes.out.ok.0))

pub nodes-preserved : goal.nodes-preserved
nodes-preserved c =
    let at = (goal.at.nodes-preserved c).In-Some in
    let trees = c.args.self.now in
    let parts = c.in-Parts.ensures in
    let popped = c.pop.new.self.items in
    let after = c.push-in-Parts-2.new.self.items in
    let both = known at in
    let rest_known : c.in-Parts.rest.0 < length trees = omega (arith, parts.rest_earlier, both.1) in
    let first_known : c.in-Parts.first.0 < length trees = omega (arith, parts.first_earlier, both.1) in
    record {
      known = subst (AreKnown trees) (sym c.in_ok-push-in-Parts-3.ensures.items) (AreKnown-push trees after c.in-Parts.first (subst (AreKnown trees) (sym c.in_ok-push-in-Parts-2.ensures.items) (AreKnown-push trees popped c.in-Parts.rest both.0 rest_known)) first_known);
      within = omega (arith, c.in_ok-push-in-Parts.ensures.len, c.nodes.invariant.within, c.if-len-most.false, c.len.ensures);
      written = pair_spelled trees c.nodes.out.items c.push-in-Parts.new.self.items (spelling (tree_at trees c.args.node.0)) popped after c.push-in-Parts-3.new.self.items c.in-Some.next.0 c.in-Parts.first c.in-Parts.rest parts c.in_ok-push-in-Parts.ensures.items c.in_ok-push-in-Parts-2.ensures.items c.in_ok-push-in-Parts-3.ensures.items (written at);
    }

pub returns-clause-within : goal.returns-clause-within
returns-clause-within c =
    let trees = c.args.self.now in
    let whole = tree_at trees c.args.node.0 in
    let none : length c.nodes.pending.items ≡ 0 = omega (arith, c.in_default.ensures.cases.0, c.nodes.pending.ok.0) in
    let all = all_spelled trees c.nodes.out.items (spelling whole) c.nodes.pending.items none c.nodes.invariant.written in
    let short : length (spelling whole) ≤ c.args.most = omega (arith, ap length all, c.nodes.invariant.within, c.nodes.out.ok.0) in
    record { spelled = short_has_spelling whole (omega (arith, short, c.requires.most)); within = short }
