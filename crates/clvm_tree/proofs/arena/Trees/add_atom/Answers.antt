use Rattle.std.proofs.Common.{◌≡◌, ◌+◌, ◌^◌, ◌<◌, [], ◌∷◌, ◌++◌, length, ◌∙◌, subst, sym, ap, arith}
use Rattle.std.proofs.lemmas.List.{length-append}
use Rattle.std.proofs.lemmas.Result.{err_from_is_err_and}
use Rattle.clvm_spec.specs.Tree.{Atom}
use Rattle.clvm_tree.specs.Arena.{trees_of, IsArena}
use Rattle.clvm_tree.specs.declared.entry.Entry.TheVariants.{Bytes}
use Rattle.clvm_tree.proofs.ArenaLaws.{length-trees_of, same_trees, adds_atom, adds_node, arena_with, arena_longer}
use Rattle.clvm_tree.proofs.arena.Trees.add_atom.Goals as goal
use Rattle.clvm_tree.proofs.arena.Trees.add_atom.Goals.{In_ok-extend_from_slice}

short : (c : In_ok-extend_from_slice) → length c.extend_from_slice.new.self.items < 2 ^ 32
short c =
    let long = ap length c.in_ok-extend_from_slice.ensures.items in
    omega (arith, long, length-append c.self.inside.bytes.items c.args.bytes.now, c.self.inside.bytes.ok.0)

pub invariant_of-self-in_err-push : goal.invariant_of-self-in_err-push
invariant_of-self-in_err-push c =
    let s = short (goal.at.invariant_of-self-in_err-push c).In_ok-extend_from_slice in
    let arena = arena_longer c.self.inside.entries.items c.self.inside.bytes.items c.args.bytes.now c.extend_from_slice.new.self.items c.self.invariant c.in_ok-extend_from_slice.ensures.items s in
    subst (λ es. IsArena es c.extend_from_slice.new.self.items) (sym c.in_err-push.ensures.items) arena

pub returns-in_err-push-clause-out_of_memory : goal.returns-in_err-push-clause-out_of_memory
returns-in_err-push-clause-out_of_memory c =
    let p = err_from_is_err_and c.from_residual-in_err-push.result c.from_residual-in_err-push.ensures.1 in
    rw p.1 (same_trees c.self.inside.entries.items c.push.new.self.items c.self.inside.bytes.items c.args.bytes.now c.extend_from_slice.new.self.items c.args.self.now c.self.invariant c.self.view_is c.in_ok-extend_from_slice.ensures.items c.in_err-push.ensures.items)

pub invariant_of-self-2 : goal.invariant_of-self-2
invariant_of-self-2 c =
    let es = c.self.inside.entries.items in
    let bytes = c.self.inside.bytes.items in
    let all = c.extend_from_slice.new.self.items in
    let long = c.in_ok-extend_from_slice.ensures.items in
    let room = length-trees_of bytes es in
    let whole = ap length long in
    let start : c.len-start.result ≡ length bytes = omega (arith, c.len-start.ensures, c.self.inside.bytes.ok.0) in
    let entry = Bytes c.len-start.result (c.len-start.result + length c.args.bytes.now) in
    arena_with es c.push.new.self.items bytes c.args.bytes.now all entry c.self.invariant
    (c.in_ok-push.ensures.items ∙ ap (λ e. es ++ e ∷ []) c.bytes.ensures) long
    (omega (arith, c.requires.long), omega (arith, start, whole, length-append bytes c.args.bytes.now))
    (omega (arith, room, ap length c.self.view_is)) (short (goal.at.invariant_of-self-2 c).In_ok-extend_from_slice)

pub returns-clause-ok : goal.returns-clause-ok
returns-clause-ok c =
    let es = c.self.inside.entries.items in
    let bytes = c.self.inside.bytes.items in
    let all = c.extend_from_slice.new.self.items in
    let more = c.args.bytes.now in
    let long = c.in_ok-extend_from_slice.ensures.items in
    let start : c.len-start.result ≡ length bytes = omega (arith, c.len-start.ensures, c.self.inside.bytes.ok.0) in
    let end : c.len-start.result + length more ≡ length all = omega (arith, start, ap length long, length-append bytes more) in
    let entries = c.in_ok-push.ensures.items ∙ ap (λ e. es ++ e ∷ []) c.bytes.ensures in
    let whole = adds_atom es c.push.new.self.items bytes more all c.len-start.result (c.len-start.result + length more) c.args.self.now c.self.invariant c.self.view_is long start end entries in
    adds_node c.args.self.now (trees_of all c.push.new.self.items) _ (Atom more) whole
    (omega (arith, length-trees_of bytes es, length-trees_of all c.push.new.self.items, ap length c.self.view_is, c.last.ensures, ap length c.in_ok-push.ensures.items, length-append es (c.bytes.result ∷ [])))
