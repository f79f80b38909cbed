use Rattle.std.proofs.Common.{◌≡◌, ◌<◌, ◌≤◌, ◌+◌, None, [], ◌∷◌, ◌++◌, map, ap, sym, subst, ◌∙◌}
use Rattle.std.specs.Map.{values_of}
use Rattle.indexmap.specs.IndexMap.{get, spare}
use Rattle.indexmap.proofs.CallerLemmas.{insert_entry-new}
use Rattle.coin_facts.specs.CoinId.{coin_id}
use Rattle.coin_facts.specs.contracts.hash32.Hash32PartialEq.TheImpl.{eq-value}
use Rattle.chain_spec.specs.Chain.{made_at}
use Rattle.chain_store.specs.RecordsView.{found_in, keyed}
use Rattle.chain_store.proofs.Outcomes.{on-ok}
use Rattle.chain_store.proofs.KeyedLaws.{lookup-shown, keyed-push, shows-keyed}
use Rattle.chain_store.proofs.records.Records.add.Goals as goal

-- The new id goes last in the map.
pub invariant_of-self : goal.invariant_of-self
invariant_of-self c =
    let made = made_at c.args.height c.args.seconds c.args.coin in
    let entries = c.self.inside.by_id.entries in
    let room : 0 < spare c.self.inside.by_id = subst (λ view. 0 < view.room) (sym c.self.view_is) c.requires.room in
    let absent : get eq-value.it c.self.inside.by_id c.id.result ≡ None =
    lookup-shown entries c.id.result c.self.invariant.entries
    ∙ ap (found_in (values_of entries)) c.id.ensures
    ∙ ap (λ view. found_in view.list (coin_id c.args.coin)) c.self.view_is
    ∙ c.requires.new in
    let pushed : c.insert.new.self.entries ≡ map keyed (values_of entries ++ made ∷ []) =
    on-ok _ _ (c.insert.ensures.succeeds room) c.insert.ensures.entries
    ∙ insert_entry-new eq-value.it c.self.inside.by_id c.id.result made absent
    ∙ ap (λ id. entries ++ (id, made) ∷ []) c.id.ensures
    ∙ keyed-push entries made c.self.invariant.entries in
    let shown = shows-keyed c.insert.new.self.entries (values_of entries ++ made ∷ []) pushed in
    record { entries = shown.keyed; apart = c.insert.ensures.unique }

pub returns : goal.returns
returns c =
    let made = made_at c.args.height c.args.seconds c.args.coin in
    let entries = c.self.inside.by_id.entries in
    let room : 0 < spare c.self.inside.by_id = subst (λ view. 0 < view.room) (sym c.self.view_is) c.requires.room in
    let absent : get eq-value.it c.self.inside.by_id c.id.result ≡ None =
    lookup-shown entries c.id.result c.self.invariant.entries
    ∙ ap (found_in (values_of entries)) c.id.ensures
    ∙ ap (λ view. found_in view.list (coin_id c.args.coin)) c.self.view_is
    ∙ c.requires.new in
    let pushed : c.insert.new.self.entries ≡ map keyed (values_of entries ++ made ∷ []) =
    on-ok _ _ (c.insert.ensures.succeeds room) c.insert.ensures.entries
    ∙ insert_entry-new eq-value.it c.self.inside.by_id c.id.result made absent
    ∙ ap (λ id. entries ++ (id, made) ∷ []) c.id.ensures
    ∙ keyed-push entries made c.self.invariant.entries in
    let shown = shows-keyed c.insert.new.self.entries (values_of entries ++ made ∷ []) pushed in
    record {
      list = shown.values ∙ ap (λ view. view.list ++ made ∷ []) c.self.view_is;
      room = subst (λ view. view.room ≤ spare c.insert.new.self + 1) c.self.view_is c.insert.ensures.spare;
    }
