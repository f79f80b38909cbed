use Rattle.std.proofs.Common.{◌+◌, ◌-◌, ◌≤◌, ◌≡◌, length, sym, ◌∙◌, ap, refl, arith, rules}
use Rattle.clvm_spec.specs.Tree.{Atom}
use Rattle.clvm_tree.specs.Nodes.{tree_at}
use Rattle.clvm_tree.specs.Arena.{trees_of}
use Rattle.clvm_tree.specs.declared.entry.Entry.TheVariants.{Bytes, Two}
use Rattle.clvm_tree.proofs.ArenaLaws.{nil_stands, byte_stands, entry_is, parts_from_entry}
use Rattle.clvm_tree.proofs.arena.sight_of.Goals as goal
use Rattle.clvm_tree.proofs.arena.sight_of.Goals.{In-Bytes}

in_range : (c : In-Bytes) → (c.in-Bytes.start + 2 ≤ c.in-Bytes.end) × (c.in-Bytes.end ≤ length c.args.bytes.now)
in_range c = (entry_is c.args.entries.now c.args.bytes.now c.args.node.0 (Bytes 0 0) (Bytes c.in-Bytes.start c.in-Bytes.end) c.requires.arena (omega arith) c.requires.known (c.entry_at.ensures (Bytes 0 0) ∙ c.in-Bytes.is)).0

pub slice_bounds-result-count : goal.slice_bounds-result-count
slice_bounds-result-count c = let r = in_range (goal.at.slice_bounds-result-count c).In-Bytes in omega (arith, r.0)

pub slice_bounds-result-start : goal.slice_bounds-result-start
slice_bounds-result-start c = let r = in_range (goal.at.slice_bounds-result-start c).In-Bytes in search (rules, r.0)

pub slice_bounds-result-end-in-Bytes : goal.slice_bounds-result-end-in-Bytes
slice_bounds-result-end-in-Bytes c = let r = in_range (goal.at.slice_bounds-result-end-in-Bytes c).In-Bytes in search (rules, r.1)

pub returns-then-place-eq0 : goal.returns-then-place-eq0
returns-then-place-eq0 c =
    let trees = trees_of c.args.bytes.now c.args.entries.now in
    ap (tree_at trees) c.if-place-eq0.true ∙ nil_stands c.args.bytes.now c.args.entries.now trees refl

pub returns-then-place-lt-FIRST_COUNT : goal.returns-then-place-lt-FIRST_COUNT
returns-then-place-lt-FIRST_COUNT c =
    let trees = trees_of c.args.bytes.now c.args.entries.now in
    let at : c.args.node.0 ≡ c.args.node.0 - 1 + 1 = omega arith in
    ap (tree_at trees) at ∙ byte_stands c.args.bytes.now c.args.entries.now trees (c.args.node.0 - 1) refl (omega arith) ∙ ap Atom (sym c.lent_byte.ensures)

pub returns-in-Bytes : goal.returns-in-Bytes
returns-in-Bytes c =
    (entry_is c.args.entries.now c.args.bytes.now c.args.node.0 (Bytes 0 0) (Bytes c.in-Bytes.start c.in-Bytes.end) c.requires.arena (omega arith) c.requires.known (c.entry_at.ensures (Bytes 0 0) ∙ c.in-Bytes.is)).1

pub returns-in-Two : goal.returns-in-Two
returns-in-Two c =
    let facts = entry_is c.args.entries.now c.args.bytes.now c.args.node.0 (Bytes 0 0) (Two c.in-Two.first c.in-Two.rest) c.requires.arena (omega arith) c.requires.known (c.entry_at.ensures (Bytes 0 0) ∙ c.in-Two.is) in
    parts_from_entry c.args.bytes.now (trees_of c.args.bytes.now c.args.entries.now) c.args.node.0 (length c.args.bytes.now) (Two c.in-Two.first c.in-Two.rest) c.in-Two.first c.in-Two.rest refl facts.0 facts.1
