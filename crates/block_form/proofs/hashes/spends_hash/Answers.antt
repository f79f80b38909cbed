use Rattle.std.proofs.Common.{◌≡◌, map, take, ap, ◌∙◌, arith}
use Rattle.std.proofs.lemmas.List.{take_all}
use Rattle.clvm_spec.specs.Hashing.{list_hash, tree_hash}
use Rattle.block_spec.specs.BundleTree.{spend_tree}
use Rattle.block_form.proofs.HashLaws.{list_hash-map}
use Rattle.block_form.proofs.hashes.spends_hash.Goals as goal

pub returns : goal.returns
returns c =
    let spends = c.args.spends.now in
    let whole : take c.loop-spend.spend-index spends ≡ spends = take_all _ _ (omega arith) in
    c.list_hash.ensures
    ∙ ap list_hash (c.deref.ensures.value ∙ c.loop-spend.invariant ∙ ap (map (λ spend. tree_hash (spend_tree spend))) whole)
    ∙ list_hash-map spend_tree spends
