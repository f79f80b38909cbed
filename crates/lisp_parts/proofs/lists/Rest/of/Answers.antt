use Rattle.std.proofs.Common.{map, reverse, ap, ◌∙◌}
use Rattle.std.proofs.lemmas.List.{reverse-reverse}
use Rattle.indexmap.proofs.ReorderLemmas.{map-reverse}
use Rattle.lisp_read.specs.Views.{form_of}
use Rattle.lisp_parts.proofs.lists.Rest.of.Goals as goal

pub returns-clause-forms : goal.returns-clause-forms
returns-clause-forms c =
    let items = c.into_vec-items.result.items in
    ap reverse (c.from_vec.ensures ∙ ap (map form_of) c.reverse.ensures.items ∙ map-reverse form_of items) ∙ reverse-reverse (map form_of items) ∙ c.into_vec-items.ensures
