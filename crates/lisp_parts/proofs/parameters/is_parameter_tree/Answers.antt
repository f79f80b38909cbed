use Rattle.std.proofs.Common.{◌≡◌, ◌∙◌, ap, sym, [], ◌++◌, ◌∷◌, true, false, subst, ◌<◌}
use Rattle.lisp_read.specs.Views.{form_of}
use Rattle.lisp_spec.specs.Parameters.{is_parameter_tree}
use Rattle.lisp_parts.proofs.TreeWalks.{left_size, next_falls, parts_fall, next_is_tree, next_is_none, atom_is_tree, pair_is_trees, are_trees}
use Rattle.lisp_parts.proofs.parameters.is_parameter_tree.Goals as goal

pub returns-then-not-is_empty : goal.returns-then-not-is_empty
returns-then-not-is_empty c =
    let e : is_parameter_tree (form_of c.in-Some.part.now) ≡ false = ap (λ f. is_parameter_tree (form_of f)) c.in-Atom.is ∙ atom_is_tree c.in-Atom.field-0 c.in-Atom.bytes ∙ cc in
    sym (c.left.invariant ∙ next_is_none c.left.left.items c.pop.new.self.items c.in-Some.part c.in-Some.ensures.items e)

pub left-smaller-else-not-is_empty : goal.left-smaller-else-not-is_empty
left-smaller-else-not-is_empty c = next_falls c.left.left.items c.pop.new.self.items c.in-Some.part c.in-Some.ensures.items

pub left-preserved-else-not-is_empty : goal.left-preserved-else-not-is_empty
left-preserved-else-not-is_empty c =
    let e : is_parameter_tree (form_of c.in-Some.part.now) ≡ true = ap (λ f. is_parameter_tree (form_of f)) c.in-Atom.is ∙ atom_is_tree c.in-Atom.field-0 c.in-Atom.bytes ∙ cc in
    c.left.invariant ∙ next_is_tree c.left.left.items c.pop.new.self.items c.in-Some.part c.in-Some.ensures.items e

pub left-smaller-in-Symbol : goal.left-smaller-in-Symbol
left-smaller-in-Symbol c = next_falls c.left.left.items c.pop.new.self.items c.in-Some.part c.in-Some.ensures.items

pub left-preserved-in-Symbol : goal.left-preserved-in-Symbol
left-preserved-in-Symbol c = c.left.invariant ∙ next_is_tree c.left.left.items c.pop.new.self.items c.in-Some.part c.in-Some.ensures.items (ap (λ f. is_parameter_tree (form_of f)) c.in-Symbol.is)

pub left-smaller : goal.left-smaller
left-smaller c =
    let t = parts_fall c.left.left.items c.pop.new.self.items c.in-Some.part c.get-in-Pair.result c.get.result c.in-Pair.field-0 c.in-Pair.first c.in-Pair.rest c.in-Some.ensures.items (ap form_of c.in-Pair.is) c.get-in-Pair.ensures c.get.ensures in
    subst (λ l. left_size l < left_size c.left.left.items) (sym (c.in_ok-push-in-Pair-2.ensures.items ∙ ap (λ l. l ++ c.get-in-Pair.result ∷ []) c.in_ok-push-in-Pair.ensures.items)) t

pub left-preserved : goal.left-preserved
left-preserved c =
    c.left.invariant ∙ ap are_trees c.in-Some.ensures.items
    ∙ pair_is_trees c.pop.new.self.items c.in-Some.part c.get-in-Pair.result c.get.result c.in-Pair.field-0 c.in-Pair.first c.in-Pair.rest (ap form_of c.in-Pair.is) c.get-in-Pair.ensures c.get.ensures
    ∙ ap (λ l. are_trees (l ++ c.get-in-Pair.result ∷ [])) (sym c.in_ok-push-in-Pair.ensures.items)
    ∙ ap are_trees (sym c.in_ok-push-in-Pair-2.ensures.items)
