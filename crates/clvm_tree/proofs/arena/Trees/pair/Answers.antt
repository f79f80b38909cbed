use Rattle.std.proofs.Common.{[], ◌∷◌, ◌++◌, length, sym, ◌∙◌, ap, arith}
use Rattle.std.proofs.lemmas.List.{append-nil, length-append}
use Rattle.clvm_tree.specs.Arena.{trees_of, entry_tree}
use Rattle.clvm_tree.specs.declared.entry.Entry.TheVariants.{Two}
use Rattle.clvm_tree.proofs.ArenaLaws.{length-trees_of, adds_entry, adds_node, arena_with}
use Rattle.clvm_tree.proofs.arena.Trees.pair.Goals as goal

pub invariant_of-self-2 : goal.invariant_of-self-2
invariant_of-self-2 c =
    let es = c.self.inside.entries.items in
    let bytes = c.self.inside.bytes.items in
    let long = length-trees_of bytes es in
    arena_with es c.push.new.self.items bytes [] bytes (Two c.args.first c.args.rest) c.self.invariant (c.in_ok-push.ensures.items ∙ ap (λ e. es ++ e ∷ []) c.two.ensures) (sym (append-nil bytes))
    (omega (arith, long, ap length c.self.view_is), omega (arith, long, ap length c.self.view_is))
    (omega (arith, long, ap length c.self.view_is)) c.self.invariant.short

pub returns-clause-ok : goal.returns-clause-ok
returns-clause-ok c =
    let es = c.self.inside.entries.items in
    let bytes = c.self.inside.bytes.items in
    let entry = Two c.args.first c.args.rest in
    let all = adds_entry es c.push.new.self.items bytes [] entry c.args.self.now c.self.invariant c.self.view_is (c.in_ok-push.ensures.items ∙ ap (λ e. es ++ e ∷ []) c.two.ensures) in
    let whole = ap (λ b. trees_of b c.push.new.self.items) (sym (append-nil bytes)) ∙ all in
    let long = length-trees_of bytes es in
    adds_node c.args.self.now (trees_of bytes c.push.new.self.items) _ (entry_tree bytes c.args.self.now entry) whole
    (omega (arith, long, length-trees_of bytes c.push.new.self.items, ap length c.self.view_is, c.last.ensures, ap length c.in_ok-push.ensures.items, length-append es (c.two.result ∷ [])))
