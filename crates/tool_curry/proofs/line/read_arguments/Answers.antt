use Rattle.std.proofs.Common.{◌∙◌, ◌++◌, [], ◌∷◌, length, map, take, sym, ap, ap₂, subst, arith}
use Rattle.std.specs.List.{sum_by}
use Rattle.std.proofs.lemmas.List.{take_more, map-append}
use Rattle.std.proofs.lemmas.List.Sums.{sum_by_more, sum_by_more_le}
use Rattle.clvm_tree.specs.Nodes.{tree_at, AreKnown}
use Rattle.clvm_tree.specs.Operators.{trees_at}
use Rattle.clvm_tree.proofs.NodeLaws.{grows_on}
use Rattle.clvm_tree.proofs.PendingLaws.{AreKnown-push}
use Rattle.tool_curry.proofs.Known.{known-later, trees-stand}
use Rattle.clvm_spec.specs.Spelled.{spelled_tree}
use Rattle.tool_curry.proofs.line.read_arguments.Goals as goal

pub returns-in_err-push-clause-few : goal.returns-in_err-push-clause-few
returns-in_err-push-clause-few c =
    let word = c.word-item.result in
    let within = sum_by_more_le length c.args.words.now c.loop-word.word-index word (omega arith) in
    omega (arith, within, ap length c.word-item.is, c.read.ensures.few, c.loop-word.invariant.few)

pub loop-word-preserved : goal.loop-word-preserved
loop-word-preserved c =
    let words = c.args.words.now in
    let place = c.loop-word.word-index in
    let word = c.word-item.result in
    let before = c.loop-word.trees in
    let after = c.read.new.trees in
    let taken = c.loop-word.nodes.items in
    let kept = c.loop-word.invariant in
    let items = c.in_ok-push.ensures.items in
    let node = c.in_ok-read.field-0 in
    let next = take_more words place word (omega arith) ∙ ap (λ w. take place words ++ w ∷ []) (sym c.word-item.is) in
    record {
      grows = grows_on c.args.trees.now before after kept.grows c.read.ensures.grows;
      few = omega (arith, kept.few, c.read.ensures.few, ap (sum_by length) next, sum_by_more length words place word (omega arith), ap length c.word-item.is);
      known = subst (AreKnown after) (sym items) (AreKnown-push after taken node (known-later before after taken c.read.ensures.grows kept.known) c.in_ok-read.ensures.known);
      stand = ap (trees_at after) items
          ∙ map-append (λ n. tree_at after n.0) taken (node ∷ [])
          ∙ ap₂ (λ xs x. xs ++ x ∷ []) (trees-stand before after taken c.read.ensures.grows kept.known ∙ kept.stand) c.in_ok-read.ensures.stands
          ∙ sym (map-append spelled_tree (take place words) (word ∷ []))
          ∙ sym (ap (map spelled_tree) next);
    }
