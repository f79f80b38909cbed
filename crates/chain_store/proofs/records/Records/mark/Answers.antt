use Rattle.std.proofs.Common.{[], ◌∷◌, map, ap, sym, subst, ◌∙◌}
use Rattle.std.specs.List.{IsDistinct}
use Rattle.std.specs.Map.{keys_of}
use Rattle.std.specs.Option.{option_copied_mut}
use Rattle.coin_facts.specs.IdLists.{is_same_id}
use Rattle.chain_spec.specs.declared.chain.Record.{Record}
use Rattle.chain_store.specs.Marks.{marked}
use Rattle.chain_store.proofs.KeyedLaws.{none-shown, mark-shown}
use Rattle.chain_store.proofs.records.Records.mark.Goals as goal

pub invariant_of-self : goal.invariant_of-self
invariant_of-self c =
    let entries = c.self.inside.by_id.entries in
    let stays = ap (λ map. map.entries) c.get_mut.follows.holds-at-none in
    let shown = none-shown entries c.self.invariant.entries c.args.spent c.args.id.now c.get_mut.follows.lender-at-none.entries (sym c.get_mut.ensures.value ∙ ap option_copied_mut c.in_default.is) stays in
    record { entries = shown.keyed; apart = subst (λ es. IsDistinct is_same_id (keys_of es)) (sym stays) c.self.invariant.apart }

pub returns-in_default-clause-list : goal.returns-in_default-clause-list
returns-in_default-clause-list c =
    let entries = c.self.inside.by_id.entries in
    let stays = ap (λ map. map.entries) c.get_mut.follows.holds-at-none in
    let shown = none-shown entries c.self.invariant.entries c.args.spent c.args.id.now c.get_mut.follows.lender-at-none.entries (sym c.get_mut.ensures.value ∙ ap option_copied_mut c.in_default.is) stays in
    shown.values ∙ ap (λ view. map (marked c.args.spent (c.args.id.now ∷ [])) view.list) c.self.view_is

pub invariant_of-self-2 : goal.invariant_of-self-2
invariant_of-self-2 c =
    let entries = c.self.inside.by_id.entries in
    let found = c.in-Some.record.now in
    let marked_one : Record = record { coin = found.coin; height = found.height; seconds = found.seconds; spent = c.args.spent } in
    let holds = c.get_mut.follows.holds marked_one in
    let shown = mark-shown entries c.self.invariant.entries c.args.spent c.args.id.now found (c.get_mut.follows.lender marked_one).entries c.self.invariant.apart (sym c.get_mut.ensures.value ∙ ap option_copied_mut c.in-Some.is) holds.0 in
    record { entries = shown.keyed; apart = holds.4 }

pub returns-clause-list : goal.returns-clause-list
returns-clause-list c =
    let entries = c.self.inside.by_id.entries in
    let found = c.in-Some.record.now in
    let marked_one : Record = record { coin = found.coin; height = found.height; seconds = found.seconds; spent = c.args.spent } in
    let holds = c.get_mut.follows.holds marked_one in
    let shown = mark-shown entries c.self.invariant.entries c.args.spent c.args.id.now found (c.get_mut.follows.lender marked_one).entries c.self.invariant.apart (sym c.get_mut.ensures.value ∙ ap option_copied_mut c.in-Some.is) holds.0 in
    shown.values ∙ ap (λ view. map (marked c.args.spent (c.args.id.now ∷ [])) view.list) c.self.view_is
