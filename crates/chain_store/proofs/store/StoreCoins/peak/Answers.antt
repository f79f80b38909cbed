use Rattle.std.proofs.Common.{◌≡◌, ◌+◌, ◌-◌, ◌<◌, ◌^◌, [], ◌∷◌, ◌++◌, length, take, ap, sym, subst, ◌∙◌, length-take-le, arith}
use Rattle.std.specs.List.{IsDistinct}
use Rattle.std.proofs.lemmas.List.{take_more}
use Rattle.coin_facts.specs.IdLists.{is_same_id}
use Rattle.chain_spec.specs.Chain.{ledger_of, peak_of}
use Rattle.chain_spec.specs.ChainLaws.{ids_of}
use Rattle.chain_store.specs.Inside.{chain_to, parts_of}
use Rattle.chain_store.proofs.OrderLaws.{apart-to, few-blocks, last-peak}
use Rattle.chain_store.proofs.store.StoreCoins.peak.Goals as goal

pub overflow_cast-result : goal.overflow_cast-result
overflow_cast-result c =
    let few : length c.self.inside.blocks.items < 2 ^ 32 = few-blocks (parts_of c.self.inside) c.self.invariant in
    omega (arith, few, c.self.invariant.height)

pub returns-then-self-eq0-clause-apart : goal.returns-then-self-eq0-clause-apart
returns-then-self-eq0-clause-apart c =
    subst (λ view. IsDistinct is_same_id (ids_of (ledger_of view.chain).records)) c.self.view_is (apart-to (parts_of c.self.inside) c.self.invariant c.self.inside.height)

-- The last block is the one below the height.
pub returns : goal.returns
returns c =
    let parts = parts_of c.self.inside in
    let height = parts.height in
    let block = c.index-last.result.now in
    let one_less : height - 1 + 1 ≡ height = omega (arith, c.if-self-eq0.false) in
    let within : height - 1 < length parts.blocks = omega (arith, one_less, c.self.invariant.height) in
    let kept : take height parts.blocks ≡ take (height - 1) parts.blocks ++ block ∷ [] =
    ap (λ n. take n parts.blocks) (sym one_less)
    ∙ take_more parts.blocks (height - 1) block within
    ∙ ap (λ last. take (height - 1) parts.blocks ++ last ∷ []) (sym c.index-last.ensures) in
    let long : height ≡ length (take height parts.blocks) = sym (length-take-le height parts.blocks c.self.invariant.height) in
    record {
      value =
          (λ j. record { height = long j; hash = ap (λ last. last.hash) c.last.view_is j; seconds = ap (λ last. last.seconds) c.last.view_is j })
          ∙ sym (last-peak (chain_to parts height) (take (height - 1) parts.blocks) block kept)
          ∙ ap (λ view. peak_of view.chain) c.self.view_is;
      apart =
          subst (λ view. IsDistinct is_same_id (ids_of (ledger_of view.chain).records)) c.self.view_is (apart-to (parts_of c.self.inside) c.self.invariant c.self.inside.height);
    }
