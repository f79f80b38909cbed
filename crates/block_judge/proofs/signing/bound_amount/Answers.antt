use Rattle.std.proofs.Common.{◌≡◌, ℕ, List, ◌++◌, pos, ap, ◌∙◌}
use Rattle.std.specs.Int.{w128, to_be_bytes}
use Rattle.std.proofs.lemmas.Result.{IfOk-weaker}
use Rattle.clvm_spec.specs.Numbers.{shortest_atom, without_sign_bytes}
use Rattle.cond_spec.specs.Signing.{ToSign, bound}
use Rattle.block_judge.specs.Signatures.{wanted}
use Rattle.block_judge.proofs.signing.bound_amount.Goals as goal

pub returns : goal.returns
unfolding shortest_atom
returns c =
    let short : c.shortest_bytes-amount.result.now ≡ shortest_atom (pos c.args.coin.now.amount) =
    c.shortest_bytes-amount.ensures ∙ ap without_sign_bytes (c.as_slice.ensures ∙ c.to_be_bytes-amount.ensures ∙ ap (to_be_bytes w128) c.from.ensures) in
    let whole : List ℕ → List ToSign = λ amount. bound c.args.genesis.now c.args.code c.args.key.now (c.args.text.now ++ c.args.first.now ++ amount) in
    IfOk-weaker c.bound.result (λ pair. wanted pair ≡ whole c.shortest_bytes-amount.result.now) (λ pair. wanted pair ≡ whole (shortest_atom (pos c.args.coin.now.amount)))
    (λ pair is. is ∙ ap whole short) c.bound.ensures
