use Rattle.std.proofs.Common.{◌≡◌, ◌≤◌, Some, length, ap, sym, ◌∙◌, take_all, arith}
use Rattle.std.specs.Prelude.{slice_get, option_map}
use Rattle.std.specs.Map.{values_of}
use Rattle.std.specs.Map.Iter.{deref_pair}
use Rattle.std.proofs.lemmas.List.{length-map}
use Rattle.coin_facts.specs.CoinId.{coin_id}
use Rattle.chain_store.specs.Unspents.{is_asked, unspent_among, with_any}
use Rattle.chain_store.proofs.KeyedLaws.{value-at}
use Rattle.chain_store.proofs.UnspentLaws.{asked_in, asked-more, asked-among}
use Rattle.chain_store.proofs.records.Records.unspent_of.Goals as goal

pub loop-place-preserved : goal.loop-place-preserved
loop-place-preserved c =
    let entries = c.self.inside.by_id.entries in
    let place = c.loop-place.place in
    let puzzle_hash = c.args.puzzle_hash.now in
    let amount = c.args.amount in
    let except = c.args.except.now in
    let one = c.unwrap.result.1.now in
    let entry : slice_get entries place ≡ Some (deref_pair c.unwrap.result) = sym c.get_index.ensures.entry ∙ ap (option_map deref_pair) c.unwrap.ensures in
    let found = value-at entries place (deref_pair c.unwrap.result) entry in
    c.with_record-found.ensures
    ∙ ap (with_any (is_asked puzzle_hash amount except one) (coin_id one.coin)) c.loop-place.invariant
    ∙ sym (asked-more puzzle_hash amount except (values_of entries) place one found.within found.is)

pub returns : goal.returns
returns c =
    let entries = c.self.inside.by_id.entries in
    let place = c.loop-place.place in
    let puzzle_hash = c.args.puzzle_hash.now in
    let amount = c.args.amount in
    let except = c.args.except.now in
    let count = length-map entries (λ e. e.1) in
    let all : length (values_of entries) ≤ place = omega (arith, count, c.len-place-end.ensures.len, c.loop-place-test.false) in
    c.loop-place.invariant
    ∙ ap (asked_in puzzle_hash amount except) (take_all place (values_of entries) all)
    ∙ asked-among puzzle_hash amount except (values_of entries)
    ∙ ap (λ view. unspent_among puzzle_hash amount except view.list) c.self.view_is
