use Rattle.std.proofs.Common.{sym, ◌∙◌, ap, subst}
use Rattle.clvm_spec.specs.Text.{Unreadable, Unnamed, LeftOver}
use Rattle.clvm_text.specs.Scans.{IsTextFault}
use Rattle.clvm_text.proofs.ScanningLaws.{last_is, unknown_is, text_fault}
use Rattle.clvm_text.proofs.scanner.scan.Goals as goal

pub returns-in-Err-clause-fault : goal.returns-in-Err-clause-fault
returns-in-Err-clause-fault c =
    subst (IsTextFault c.args.text.now) (sym c.answered.ensures) (text_fault c.first_form.new.trees c.as_bytes-bytes.result.now c.args.text.now c.in-Err.fault c.as_bytes-bytes.ensures.value c.in-Err.ensures.broken)

pub returns-in-Unknown-clause-fault : goal.returns-in-Unknown-clause-fault
returns-in-Unknown-clause-fault c =
    unknown_is c.first_form.new.trees c.as_bytes-bytes.result.now c.args.text.now c.in-Ok.found.0 c.in-Unknown.from c.in-Ok.found.1.now c.as_bytes-bytes.ensures.value c.in-Ok.ensures.found c.in-Unknown.is ∙ ap Unnamed (sym c.place_of.ensures)

pub returns-in-AtEnd-clause-scanned : goal.returns-in-AtEnd-clause-scanned
returns-in-AtEnd-clause-scanned c =
    last_is c.first_form.new.trees c.as_bytes-bytes.result.now c.args.text.now c.in-Ok.found.0 c.in-Tree.tree c.in-Ok.found.1.now _ c.as_bytes-bytes.ensures.value c.in-Ok.ensures.found c.in-Tree.is (sym c.in-AtEnd.ensures.front)

pub returns-in-Unread-clause-fault : goal.returns-in-Unread-clause-fault
returns-in-Unread-clause-fault c =
    last_is c.first_form.new.trees c.as_bytes-bytes.result.now c.args.text.now c.in-Ok.found.0 c.in-Tree.tree c.in-Ok.found.1.now _ c.as_bytes-bytes.ensures.value c.in-Ok.ensures.found c.in-Tree.is (sym c.in-Unread.ensures.front)
    ∙ ap (Unreadable c.in-Unread.kind) (sym c.place_of-in-Unread.ensures)

pub returns-in-Took-clause-fault : goal.returns-in-Took-clause-fault
returns-in-Took-clause-fault c =
    last_is c.first_form.new.trees c.as_bytes-bytes.result.now c.args.text.now c.in-Ok.found.0 c.in-Tree.tree c.in-Ok.found.1.now _ c.as_bytes-bytes.ensures.value c.in-Ok.ensures.found c.in-Tree.is (sym c.in-Took.ensures.front)
    ∙ ap LeftOver (sym c.place_of-in-Took.ensures)
