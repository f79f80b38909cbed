use Rattle.std.proofs.Common.{◌≡◌, ◌++◌, OnOk, length, pos, ap, ◌∙◌, subst, arith}
use Rattle.std.specs.Int.{w128, to_be_bytes}
use Rattle.clvm_spec.specs.Numbers.{shortest_atom, without_sign_bytes}
use Rattle.clvm_spec.specs.Spelling.{atom_spelling}
use Rattle.clvm_spec.proofs.LengthLaws.{length_most}
use Rattle.singleton_forward.proofs.rewriting.push_amount.Goals as goal

pub push_atom-requires : goal.push_atom-requires
unfolding shortest_atom
push_atom-requires c =
    let bytes : c.to_be_bytes-digits.result ≡ to_be_bytes w128 c.args.amount = c.to_be_bytes-digits.ensures ∙ ap (to_be_bytes w128) c.from.ensures in
    let short : c.shortest_bytes.result.now ≡ shortest_atom (pos c.args.amount) = c.shortest_bytes.ensures ∙ ap without_sign_bytes (c.as_slice.ensures ∙ bytes) in
    omega (arith, ap length short, length_most (pos c.args.amount))

pub returns : goal.returns
unfolding shortest_atom
returns c =
    let bytes : c.to_be_bytes-digits.result ≡ to_be_bytes w128 c.args.amount = c.to_be_bytes-digits.ensures ∙ ap (to_be_bytes w128) c.from.ensures in
    let short : c.shortest_bytes.result.now ≡ shortest_atom (pos c.args.amount) = c.shortest_bytes.ensures ∙ ap without_sign_bytes (c.as_slice.ensures ∙ bytes) in
    subst (λ atom. OnOk c.push_atom.result (c.push_atom.new.out.items ≡ c.args.out.now.items ++ atom_spelling atom)) short c.push_atom.ensures
