use Rattle.std.proofs.Common.{ap, sym, ◌∙◌}
use Rattle.std.specs.Prelude.{option_map, slice_get}
use Rattle.std.proofs.lemmas.List.Folds.{find_at}
use Rattle.cond_rules.specs.Wants.{is_open, first_open}
use Rattle.cond_rules.proofs.wants.Wants.first_open.Goals as goal

-- The asks before the first that is open are counted.
pub returns : goal.returns
returns c =
    let asked = c.self.inside.asked.items in
    c.place_at.ensures
    ∙ ap (λ asks. option_map (λ ask. ask.place) (slice_get asks c.self.inside.met)) c.as_slice.ensures.value
    ∙ ap (λ i. option_map (λ ask. ask.place) (slice_get asked i)) c.self.invariant
    ∙ ap (option_map (λ ask. ask.place)) (sym (find_at (is_open c.self.inside.made.keys) asked))
    ∙ ap (λ wants. first_open wants.wanted) c.self.view_is
