use Rattle.std.proofs.Common.{◌∙◌, ap, sym, subst, [], ◌++◌, ◌∷◌, ◌<◌, reverse}
use Rattle.lisp_read.specs.Views.{form_of}
use Rattle.lisp_spec.specs.Parameters.{parameters}
use Rattle.lisp_spec.specs.Inclusion.{second_of_a_name}
use Rattle.lisp_parts.proofs.NameLaws.{is_known, is_new, stands_last}
use Rattle.lisp_parts.proofs.TreeWalks.{left_size, left_parameters, next_falls, parts_fall, next_has_none, next_is_second, next_is_first, pair_has_both}
use Rattle.lisp_parts.proofs.parameters.repeated.Goals as goal

pub left-smaller-in-Atom : goal.left-smaller-in-Atom
left-smaller-in-Atom c = next_falls c.left.left.items c.pop.new.self.items c.in-Some.part c.in-Some.ensures.items

pub left-preserved-in-Atom : goal.left-preserved-in-Atom
left-preserved-in-Atom c =
    c.left.invariant ∙ next_has_none (reverse c.left.names) c.left.left.items c.pop.new.self.items c.in-Some.part c.in-Some.ensures.items (ap (λ f. parameters (form_of f)) c.in-Atom.is)

pub returns-then-not-branch : goal.returns-then-not-branch
returns-then-not-branch c =
    let known = is_known c.in-Symbol.name c.in_ok-copy-in-Symbol.field-0 c.left.names c.in_ok-add-in-Symbol.field-0 c.in_ok-copy-in-Symbol.ensures c.in_ok-add-in-Symbol.ensures.new c.if-not-branch.true in
    sym (c.left.invariant ∙ next_is_second c.left.names c.left.left.items c.pop.new.self.items c.in-Some.part c.in-Symbol.name c.in-Symbol.place c.in-Some.ensures.items (ap form_of c.in-Symbol.is) known)

pub left-smaller-else-not-branch : goal.left-smaller-else-not-branch
left-smaller-else-not-branch c = next_falls c.left.left.items c.pop.new.self.items c.in-Some.part c.in-Some.ensures.items

pub left-preserved-else-not-branch : goal.left-preserved-else-not-branch
left-preserved-else-not-branch c =
    let new = is_new c.in-Symbol.name c.in_ok-copy-in-Symbol.field-0 c.left.names c.in_ok-add-in-Symbol.field-0 c.in_ok-copy-in-Symbol.ensures c.in_ok-add-in-Symbol.ensures.new c.if-not-branch.false in
    let last = stands_last c.in-Symbol.name c.in_ok-copy-in-Symbol.field-0 c.left.names c.add.new.self c.in_ok-copy-in-Symbol.ensures c.in_ok-add-in-Symbol.ensures.names new in
    c.left.invariant ∙ next_is_first c.left.names c.add.new.self c.left.left.items c.pop.new.self.items c.in-Some.part c.in-Symbol.name c.in-Symbol.place c.in-Some.ensures.items (ap form_of c.in-Symbol.is) new last

pub left-smaller : goal.left-smaller
left-smaller c =
    let t = parts_fall c.left.left.items c.pop.new.self.items c.in-Some.part c.get-in-Pair.result c.get.result c.in-Pair.field-0 c.in-Pair.first c.in-Pair.rest c.in-Some.ensures.items (ap form_of c.in-Pair.is) c.get-in-Pair.ensures c.get.ensures in
    subst (λ l. left_size l < left_size c.left.left.items) (sym (c.in_ok-push-in-Pair-2.ensures.items ∙ ap (λ l. l ++ c.get-in-Pair.result ∷ []) c.in_ok-push-in-Pair.ensures.items)) t

pub left-preserved : goal.left-preserved
left-preserved c =
    let earlier = reverse c.left.names in
    c.left.invariant ∙ ap (λ l. second_of_a_name earlier (left_parameters l)) c.in-Some.ensures.items
    ∙ pair_has_both earlier c.pop.new.self.items c.in-Some.part c.get-in-Pair.result c.get.result c.in-Pair.field-0 c.in-Pair.first c.in-Pair.rest (ap form_of c.in-Pair.is) c.get-in-Pair.ensures c.get.ensures
    ∙ ap (λ l. second_of_a_name earlier (left_parameters (l ++ c.get-in-Pair.result ∷ []))) (sym c.in_ok-push-in-Pair.ensures.items)
    ∙ ap (λ l. second_of_a_name earlier (left_parameters l)) (sym c.in_ok-push-in-Pair-2.ensures.items)
