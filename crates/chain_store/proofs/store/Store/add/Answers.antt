use Rattle.std.proofs.Common.{◌≡◌, true, false, None, [], ◌∷◌, ◌++◌, if◌then◌else◌, ap, sym, subst, ◌∙◌, arith}
use Rattle.std.specs.Result.{is_ok}
use Rattle.coin_facts.specs.CoinId.{coin_id}
use Rattle.chain_spec.specs.Chain.{made_at, is_in_chain, ledger_of}
use Rattle.chain_spec.specs.StoreViews.{started}
use Rattle.chain_store.specs.Inside.{seen, parts_of, IsInOrder}
use Rattle.chain_store.proofs.StoreLaws.{begun, begun-leaves}
use Rattle.chain_store.proofs.store.Store.add.Goals as goal

pub invariant_of-self-2 : goal.invariant_of-self-2
invariant_of-self-2 c =
    let parts = parts_of c.self.inside in
    let room = c.add.new.self.room in
    let first : (seen parts).chain.blocks ≡ [] = ap (λ view. view.chain.blocks) c.self.view_is ∙ c.requires.first in
    let absent : is_in_chain (ledger_of (seen parts).chain) (coin_id c.args.coin) ≡ false =
    ap (λ view. is_in_chain (ledger_of view.chain) (coin_id c.args.coin)) c.self.view_is ∙ c.requires.new in
    let leaves = begun-leaves parts c.self.invariant c.args.coin room first absent in
    let lengths = c.in_ok-reserve-2.ensures.ok in
    let pushed : is_ok c.push.result ≡ true = c.push.ensures.succeeds (omega (arith, lengths)) in
    let coins : c.push.new.self.items ≡ parts.coins ++ c.args.coin ∷ [] =
    c.push.ensures.items
    ∙ ap (λ b. if b then c.reserve-2.new.self.items ++ c.args.coin ∷ [] else c.reserve-2.new.self.items) pushed
    ∙ ap (λ items. items ++ c.args.coin ∷ []) c.in_ok-reserve-2.ensures.items in
    let list = c.add.ensures.list ∙ ap (λ records. records ++ made_at 0 parts.seconds c.args.coin ∷ []) c.in_ok-reserve.ensures.list in
    let same : parts_of (record c.self.inside { coins = c.push.new.self; blocks = c.clear.new.self; records = c.add.new.self; before = None }) ≡ begun parts c.self.invariant c.args.coin room =
    λ j. record {
      genesis = parts.genesis;
      seconds = parts.seconds;
      coins = coins j;
      blocks = c.clear.ensures.items j;
      height = parts.height;
      records = record { list = list j; room = room };
      changes = parts.changes;
      before = None;
    } in
    subst IsInOrder (sym same) leaves.held

pub returns : goal.returns
returns c =
    let parts = parts_of c.self.inside in
    let room = c.add.new.self.room in
    let first : (seen parts).chain.blocks ≡ [] = ap (λ view. view.chain.blocks) c.self.view_is ∙ c.requires.first in
    let absent : is_in_chain (ledger_of (seen parts).chain) (coin_id c.args.coin) ≡ false =
    ap (λ view. is_in_chain (ledger_of view.chain) (coin_id c.args.coin)) c.self.view_is ∙ c.requires.new in
    let leaves = begun-leaves parts c.self.invariant c.args.coin room first absent in
    let lengths = c.in_ok-reserve-2.ensures.ok in
    let pushed : is_ok c.push.result ≡ true = c.push.ensures.succeeds (omega (arith, lengths)) in
    let coins : c.push.new.self.items ≡ parts.coins ++ c.args.coin ∷ [] =
    c.push.ensures.items
    ∙ ap (λ b. if b then c.reserve-2.new.self.items ++ c.args.coin ∷ [] else c.reserve-2.new.self.items) pushed
    ∙ ap (λ items. items ++ c.args.coin ∷ []) c.in_ok-reserve-2.ensures.items in
    let list = c.add.ensures.list ∙ ap (λ records. records ++ made_at 0 parts.seconds c.args.coin ∷ []) c.in_ok-reserve.ensures.list in
    let same : parts_of (record c.self.inside { coins = c.push.new.self; blocks = c.clear.new.self; records = c.add.new.self; before = None }) ≡ begun parts c.self.invariant c.args.coin room =
    λ j. record {
      genesis = parts.genesis;
      seconds = parts.seconds;
      coins = coins j;
      blocks = c.clear.ensures.items j;
      height = parts.height;
      records = record { list = list j; room = room };
      changes = parts.changes;
      before = None;
    } in
    record { ok = ap seen same ∙ leaves.shows ∙ ap (started c.args.coin) c.self.view_is; err = tt }
