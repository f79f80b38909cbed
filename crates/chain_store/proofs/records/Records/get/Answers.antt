use Rattle.std.proofs.Common.{ap, ◌∙◌}
use Rattle.chain_store.specs.RecordsView.{found_in}
use Rattle.chain_store.proofs.KeyedLaws.{lookup-shown}
use Rattle.chain_store.proofs.records.Records.get.Goals as goal

pub returns : goal.returns
returns c =
    c.get.ensures.value ∙ lookup-shown c.self.inside.by_id.entries c.args.id.now c.self.invariant.entries
    ∙ ap (λ view. found_in view.list c.args.id.now) c.self.view_is
