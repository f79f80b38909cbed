use Rattle.std.proofs.Common.{◌≡◌, [], ◌∷◌, ◌++◌, None, ap, sym, ◌∙◌}
use Rattle.indexmap.specs.IndexMap.{get}
use Rattle.indexmap.proofs.CallerLemmas.{insert_entry-new}
use Rattle.coin_facts.specs.contracts.hash32.Hash32PartialEq.TheImpl.{eq-value}
use Rattle.chain_spec.specs.Chain.{Chain, start_record, look_up, ledger_of}
use Rattle.coin_store.specs.Entries.{entries_of}
use Rattle.coin_store.specs.Inside.{chain_of}
use Rattle.coin_store.proofs.EntryLaws.{lookup-held, held-push, distinct-held}
use Rattle.coin_store.proofs.store.Store.add.Goals as goal

-- The new id goes last in the map, as the coin does in the list.
pub invariant_of-self-2 : goal.invariant_of-self-2
invariant_of-self-2 c =
    let chain = chain_of c.self.inside in
    let grown : Chain = record chain { coins = c.push.new.self.items } in
    let held = c.self.invariant.entries in
    let absent : get eq-value.it c.self.inside.records c.args.id ≡ None =
    lookup-held _ chain held c.args.id ∙ ap (λ chain. look_up (ledger_of chain) c.args.id) c.self.view_is ∙ c.requires.new in
    let coins : c.push.new.self.items ≡ chain.coins ++ c.args.coin ∷ [] =
    c.in_ok-push.ensures.items ∙ ap (λ cs. cs ++ c.args.coin ∷ []) c.reserve.ensures.items in
    let entries : c.insert.new.self.entries ≡ entries_of chain.seconds grown.coins =
    c.in_ok-insert.ensures.entries
    ∙ insert_entry-new eq-value.it c.self.inside.records c.args.id _ absent
    ∙ ap (λ id. c.self.inside.records.entries ++ (id, start_record chain.seconds c.args.coin) ∷ []) c.requires.id
    ∙ held-push _ chain held c.args.coin
    ∙ ap (entries_of chain.seconds) (sym coins) in
    record { entries = entries; distinct = distinct-held _ grown entries c.insert.ensures.unique }
