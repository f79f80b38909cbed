use Rattle.std.proofs.Common.{◌≡◌, ◌++◌, OnOk, codes, string_bytes, length, nat_le, rules, refl, ap, sym, subst, if◌then◌else◌}
use Rattle.clvm_spec.specs.declared.limits.TheConstants.{MOST_WRITTEN}
use Rattle.clvm_spec.specs.Spelling.{spelling}
use Rattle.clvm_tree.specs.Nodes.{tree_at}
use Rattle.clvm_tree.specs.Writes.{IsWriteFault}
use Rattle.tool_eval.specs.Outcomes.{styled, tree_words}
use Rattle.tool_eval.proofs.Spellings.{long-if-refused}
use Rattle.tool_eval.proofs.words.write_tree.Goals as goal

pub returns-in-Err-TooLong : goal.returns-in-Err-TooLong
returns-in-Err-TooLong c =
    let tree = tree_at c.args.trees.now c.args.node.0 in
    let long = long-if-refused tree (nat_le (length (spelling tree)) MOST_WRITTEN) refl (subst (IsWriteFault MOST_WRITTEN tree) c.in-Err-TooLong.field-0-is c.in-Err-TooLong.ensures.fault) in
    let words : codes "too-long" ≡ tree_words c.args.style tree = sym (ap (λ b. if b then styled c.args.style tree else codes "too-long") long) in
    let wrote : OnOk c.push_str.result (string_bytes c.push_str.new.self ≡ string_bytes c.args.text.now ++ codes "too-long") = search rules in
    subst (λ w. OnOk c.push_str.result (string_bytes c.push_str.new.self ≡ string_bytes c.args.text.now ++ w)) words wrote
