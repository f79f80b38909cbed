use Rattle.std.proofs.Common.{◌≡◌, Some, cond, ap, sym, ◌∙◌}
use Rattle.std.specs.Map.{lookup}
use Rattle.indexmap.specs.IndexMap.{insert_entry}
use Rattle.cond_spec.specs.Messages.{is_same_message}
use Rattle.cond_rules.specs.Letters.{is_even, more}
use Rattle.cond_rules.specs.LettersInside.{is_uneven_at}
use Rattle.cond_rules.proofs.LetterLaws.{known, adds-one, most-one}
use Rattle.cond_rules.proofs.QueueLaws.{queued-kept, queued-pushed}
use Rattle.cond_rules.proofs.letters.count_letter.Goals as goal

pub returns-then-is_even-clause-adds : goal.returns-then-is_even-clause-adds
returns-then-is_even-clause-adds c =
    let letter = c.args.letter in
    let old = c.args.counts.now.entries in
    let value = c.more.ensures ∙ ap (more letter.way) c.counts_of-before.ensures in
    let updates = rw c.unwrap-index.ensures at c.insert_full.ensures.updates in
    let inserts = rw c.unwrap-index.ensures at c.insert_full.ensures.entries in
    adds-one old _ letter.way letter.message c.args.place
    (λ other. updates.0 other ∙ ap (λ now. cond (is_same_message letter.message other) (Some now) (lookup (is_same_message other) old)) value)
    (inserts ∙ ap (insert_entry is_same_message old letter.message) value)

pub returns-else-is_even-clause-adds : goal.returns-else-is_even-clause-adds
returns-else-is_even-clause-adds c =
    let letter = c.args.letter in
    let old = c.args.counts.now.entries in
    let value = c.more.ensures ∙ ap (more letter.way) c.counts_of-before.ensures in
    let updates = rw c.unwrap-index.ensures at c.insert_full.ensures.updates in
    let inserts = rw c.unwrap-index.ensures at c.insert_full.ensures.entries in
    adds-one old _ letter.way letter.message c.args.place
    (λ other. updates.0 other ∙ ap (λ now. cond (is_same_message letter.message other) (Some now) (lookup (is_same_message other) old)) value)
    (inserts ∙ ap (insert_entry is_same_message old letter.message) value)

pub returns-then-is_even-clause-queued : goal.returns-then-is_even-clause-queued
returns-then-is_even-clause-queued c =
    let letter = c.args.letter in
    let old = c.args.counts.now.entries in
    let queued = c.requires.queued in
    let inserts = rw c.unwrap-index.ensures at c.insert_full.ensures.entries in
    let index = rw c.unwrap-index.ensures at c.insert_full.ensures.index in
    record {
      distinct = c.insert_full.ensures.unique;
      most = most-one old _ c.args.total letter (returns-then-is_even-clause-adds c).times queued.most;
      queued = λ i is. queued-pushed letter.message c.more.result old _ c.args.uneven.now.indexes _ index c.push.ensures.held queued.queued i
          (ap (λ counts. is_uneven_at counts i) (sym inserts) ∙ is);
    }

pub returns-else-is_even-clause-queued : goal.returns-else-is_even-clause-queued
returns-else-is_even-clause-queued c =
    let letter = c.args.letter in
    let old = c.args.counts.now.entries in
    let queued = c.requires.queued in
    let inserts = rw c.unwrap-index.ensures at c.insert_full.ensures.entries in
    let uneven : is_even (known old letter.message c.args.place) ≡ _ = ap is_even (sym c.counts_of-before.ensures) ∙ sym c.is_even.ensures ∙ c.if-is_even.false in
    record {
      distinct = c.insert_full.ensures.unique;
      most = most-one old _ c.args.total letter (returns-else-is_even-clause-adds c).times queued.most;
      queued = λ i is. queued-kept letter.message c.more.result old c.args.place c.args.uneven.now.indexes uneven queued.queued i
          (ap (λ counts. is_uneven_at counts i) (sym inserts) ∙ is);
    }
