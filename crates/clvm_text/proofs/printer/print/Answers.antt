use Rattle.std.proofs.Common.{◌≡◌, ◌<◌, ◌++◌, length, sym, ◌∙◌, ap, subst, refl, append_assoc, arith}
use Rattle.std.specs.Prelude.{string_bytes}
use Rattle.std.proofs.lemmas.List.{length-append}
use Rattle.std.proofs.lemmas.Result.{err_from_is_err_and}
use Rattle.clvm_spec.specs.Text.{text_at, printed}
use Rattle.clvm_tree.specs.Nodes.{tree_at, IsKnown}
use Rattle.clvm_spec.specs.Tree.{Atom}
use Rattle.clvm_tree.specs.declared.WriteFault.TheVariants.{TooLong}
use Rattle.clvm_text.specs.declared.printer.Pending.{Pending}
use Rattle.clvm_text.specs.declared.printer.Position.TheVariants.{Rest}
use Rattle.clvm_text.specs.Positions.{position_of}
use Rattle.clvm_text.proofs.PrintLaws.{text_of, texts, AreKnown, AreKnown-init, AreKnown-push, next_printed, too_long, opening_some, pair_printed}
use Rattle.clvm_text.proofs.printer.print.Goals as goal
use Rattle.clvm_text.proofs.printer.print.Goals.{In-Some}

known : (c : In-Some) → AreKnown c.args.trees.now c.pop.new.self.items × IsKnown c.args.trees.now c.in-Some.next.node.0
known c = AreKnown-init c.args.trees.now c.pop.new.self.items c.in-Some.next (subst (AreKnown c.args.trees.now) c.in-Some.ensures.items c.pending.invariant.known)

written : (c : In-Some) → string_bytes c.pending.text ++ (text_of c.args.trees.now c.in-Some.next ++ texts c.args.trees.now c.pop.new.self.items) ≡ printed (tree_at c.args.trees.now c.args.node.0)
written c = next_printed c.args.trees.now (string_bytes c.pending.text) (printed (tree_at c.args.trees.now c.args.node.0)) c.pending.pending.items c.pop.new.self.items c.in-Some.next c.in-Some.ensures.items c.pending.invariant.written

pub look-requires : goal.look-requires
look-requires c = (known (goal.at.look-requires c).In-Some).1

pub push_atom-requires-clause-known : goal.push_atom-requires-clause-known
push_atom-requires-clause-known c = (known (goal.at.push_atom-requires-clause-known c).In-Some).1

pub pending-smaller-in-Continue-branch-2 : goal.pending-smaller-in-Continue-branch-2
pending-smaller-in-Continue-branch-2 c =
    let longer = ap length c.in_ok-push_atom-in-Bytes.ensures.ok ∙ length-append (string_bytes c.pending.text) (text_at (position_of c.in-Some.next.position) (Atom c.in-Bytes.bytes.now)) in
    omega (arith, longer, c.pending.text.bytes.ok.0, c.push_atom.new.text.bytes.ok.0, c.in-Some.ensures.len)

pub pending-preserved-in-Continue-branch-2 : goal.pending-preserved-in-Continue-branch-2
pending-preserved-in-Continue-branch-2 c =
    let at = (goal.at.pending-preserved-in-Continue-branch-2 c).In-Some in
    let trees = c.args.trees.now in
    let later = texts trees c.pop.new.self.items in
    record {
      known = (known at).0;
      within = c.in_ok-push_atom-in-Bytes.ensures.within;
      written = ap (λ o. o ++ later) c.in_ok-push_atom-in-Bytes.ensures.ok
          ∙ append_assoc (string_bytes c.pending.text) (text_at (position_of c.in-Some.next.position) (Atom c.in-Bytes.bytes.now)) later
          ∙ ap (λ t. string_bytes c.pending.text ++ (text_at (position_of c.in-Some.next.position) t ++ later)) (sym c.in-Bytes.ensures) ∙ written at;
    }

pub returns-in_err-push_atom-in-Bytes-clause-too_long : goal.returns-in_err-push_atom-in-Bytes-clause-too_long
returns-in_err-push_atom-in-Bytes-clause-too_long c =
    let at = (goal.at.returns-in_err-push_atom-in-Bytes-clause-too_long c).In-Some in
    let trees = c.args.trees.now in
    let whole = printed (tree_at trees c.args.node.0) in
    let fault = c.in_err-push_atom-in-Bytes.field-0.0 in
    let p = err_from_is_err_and c.from_residual-in_err-push_atom-in-Bytes.result c.from_residual-in_err-push_atom-in-Bytes.ensures.1 in
    let long : fault ≡ TooLong → c.args.most < length whole = λ e. too_long c.args.most (string_bytes c.pending.text) (text_of trees c.in-Some.next) (texts trees c.pop.new.self.items) whole (written at)
    (omega (arith, c.in_err-push_atom-in-Bytes.ensures.too_long e, ap length (ap (text_at (position_of c.in-Some.next.position)) c.in-Bytes.ensures), c.pending.text.bytes.ok.0)) in
    rw p.1 (λ e. long (sym p.2 ∙ e))

pub returns-in_err-push-in-Parts-clause-too_long : goal.returns-in_err-push-in-Parts-clause-too_long
returns-in_err-push-in-Parts-clause-too_long c =
    let at = (goal.at.returns-in_err-push-in-Parts-clause-too_long c).In-Some in
    let trees = c.args.trees.now in
    let whole = printed (tree_at trees c.args.node.0) in
    let fault = c.in_err-push-in-Parts.field-0.0 in
    let p = err_from_is_err_and c.from_residual-in_err-push-in-Parts.result c.from_residual-in_err-push-in-Parts.ensures.1 in
    let some = opening_some (position_of c.in-Some.next.position) (tree_at trees c.in-Parts.first.0) (tree_at trees c.in-Parts.rest.0) in
    let long : fault ≡ TooLong → c.args.most < length whole = λ e. too_long c.args.most (string_bytes c.pending.text) (text_of trees c.in-Some.next) (texts trees c.pop.new.self.items) whole (written at)
    (omega (arith, c.in_err-push-in-Parts.ensures.too_long e, ap length c.opening.ensures, some, ap length (ap (text_at (position_of c.in-Some.next.position)) c.in-Parts.ensures.pair), c.pending.text.bytes.ok.0)) in
    rw p.1 (λ e. long (sym p.2 ∙ e))

pub pending-preserved : goal.pending-preserved
pending-preserved c =
    let at = (goal.at.pending-preserved c).In-Some in
    let trees = c.args.trees.now in
    let parts = c.in-Parts.ensures in
    let popped = c.pop.new.self.items in
    let after = c.push-in-Parts-2.new.self.items in
    let both = known at in
    let rest_known : c.in-Parts.rest.0 < length trees = omega (arith, parts.rest_earlier, both.1) in
    let first_known : c.in-Parts.first.0 < length trees = omega (arith, parts.first_earlier, both.1) in
    let rest : Pending = record { position = Rest; node = c.in-Parts.rest } in
    let first : Pending = record { position = c.first_position.result; node = c.in-Parts.first } in
    record {
      known = subst (AreKnown trees) (sym c.in_ok-push-in-Parts-3.ensures.items) (AreKnown-push trees after first (subst (AreKnown trees) (sym c.in_ok-push-in-Parts-2.ensures.items) (AreKnown-push trees popped rest both.0 rest_known)) first_known);
      within = c.in_ok-push-in-Parts.ensures.within;
      written = pair_printed trees (string_bytes c.pending.text) (string_bytes c.push-in-Parts.new.text) (printed (tree_at trees c.args.node.0)) popped after c.push-in-Parts-3.new.self.items c.in-Some.next first rest parts refl c.first_position.ensures
          (c.in_ok-push-in-Parts.ensures.ok ∙ ap (λ o. string_bytes c.pending.text ++ o) c.opening.ensures) c.in_ok-push-in-Parts-2.ensures.items c.in_ok-push-in-Parts-3.ensures.items (written at);
    }
